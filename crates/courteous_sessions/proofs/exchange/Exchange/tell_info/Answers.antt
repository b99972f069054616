use Rattle.std.proofs.Common.{◌∙◌, ◌++◌, ap, sym, subst, take, length, List, ℕ, Ok}
use Rattle.ballot_law.specs.declared.commands.Command.TheVariants.{Info}
use Rattle.client_commands.specs.Attendants.{Attendance}
use Rattle.client_commands.specs.Infos.{info}
use Rattle.port_sessions.specs.declared.hearing.NotesHeard.{NotesHeard}
use Rattle.port_sessions.specs.Talks.{party, Responds}
use Rattle.resp2.specs.Framing.Frame.{view, spelling}
use Rattle.courteous_sessions.proofs.Stepping.{on_ok, info_asked}
use Rattle.courteous_sessions.proofs.exchange.Exchange.tell_info.Goals as goal

pub returns-in-Ok-clause-answered : goal.returns-in-Ok-clause-answered
returns-in-Ok-clause-answered g c =
    let before = c.args.self.now in
    let asked = c.ask.new.self in
    let n = length c.unsent-start.result.now in
    let value = view c.args.value.now in
    let p = party c.args.seat.now.view before.responder.hears.listens in
    let turned = c.in_ok-ask.ensures.answered in
    let told = c.in-Ok.ensures.text in
    let hears = c.put_out.ensures.hears ∙ c.cut_back.ensures.hears ∙ c.inform-informed.ensures.hears in
    let left = c.cut_back.ensures.unsent ∙ ap (λ (t : List ℕ). take n t) c.inform-informed.ensures.unsent in
    on_ok c.put_out.result
    (λ put.
    info_asked c.args.cell.now.start c.args.now n before.attendant.asker.port.figures value p (party c.ask.new.seat.view c.put_out.new.self.hears.listens)
    before.responder.unsent.items asked.responder.unsent.items c.put_out.new.self.unsent.items c.inform-informed.new.self.attendant.text (ap length c.unsent-start.ensures)
    (turned.0, turned.1, subst (λ (h : NotesHeard). Responds c.args.cell.now.start c.args.now p (Ok Info) turned.0 (party c.ask.new.seat.view h.listens)) (sym hears) turned.2)
    (told.0, told.1, told.2 ∙ ap (λ (a : Attendance). spelling (info a.asker.port.figures value told.0)) c.ask.ensures.kept.0)
    (put ∙ ap (λ (t : List ℕ). t ++ c.text.result.now) left ∙ ap (λ (t : List ℕ). take n asked.responder.unsent.items ++ t) c.text.ensures))
    c.put_out.ensures.ok
