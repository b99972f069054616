use Rattle.std.proofs.Common.{◌∙◌, ap, sym, subst}
use Rattle.client_commands.specs.Attendants.{Attendance, TakesCommon}
use Rattle.port_sessions.specs.declared.hearing.NotesHeard.{NotesHeard}
use Rattle.courteous_sessions.proofs.Stepping.{step_common}
use Rattle.client_commands.specs.Lines.{value_at}
use Rattle.resp2.specs.Framing.Stream.{bytes_in}
use Rattle.resp2.proofs.Switches.{known_too}
use Rattle.courteous_sessions.specs.Epochs.{heard_as}
use Rattle.courteous_sessions.specs.OnTheWay.{guest_of}
use Rattle.courteous_sessions.proofs.Serving.{lost_here}
use Rattle.courteous_sessions.proofs.Values.{by_own}
use Rattle.courteous_sessions.proofs.exchange.Exchange.answer_next.Goals as goal

pub returns-in-Ok-clause-answered : goal.returns-in-Ok-clause-answered
returns-in-Ok-clause-answered g c = λ stream first bytes visitor is a.
    let before = c.args.self.now in
    let after = c.tell_common.new.self in
    let kept = c.tell_common.ensures.kept.0 in
    let command = c.in-Some.command in
    let taken = subst (λ (x : Attendance). TakesCommon before.attendant.held x.held command) (sym kept) c.in-Some.ensures.taken in
    step_common c.args.cell.now.start c.args.now command stream first bytes visitor before.attendant after.attendant before.subscriptions after.subscriptions before.responder.unsent.items
    after.responder.unsent.items before.responder.hears after.responder.hears c.args.seat.now.view c.tell_common.new.seat.view is a c.requires.ready taken c.in-Some.ensures.common.0 c.in-Some.ensures.plain
    (ap (λ (x : Attendance). x.asker) kept ∙ c.next_common.ensures.asker) (c.tell_common.ensures.kept.1 ∙ c.next_common.ensures.kept)
    (c.tell_common.ensures.told ∙ ap (λ (t : NotesHeard). t.told) c.next_common.ensures.hears)
    (rw (c.next_common.ensures.hears, c.next_common.ensures.unsent, c.next_common.ensures.asker) at c.in-Ok.ensures.answered)

pub returns-in-None-clause-answered : goal.returns-in-None-clause-answered
returns-in-None-clause-answered g c =
    let same = c.next_common.ensures.left c.in-None.is in
    rw (same, c.next_common.ensures.hears, c.next_common.ensures.unsent, c.next_common.ensures.kept) at c.answer_any.ensures.answered

pub returns-in-Err-clause-answered : goal.returns-in-Err-clause-answered
returns-in-Err-clause-answered g c = λ stream first bytes visitor is a.
    let before = c.args.self.now in
    let taken = c.in-Some.ensures.taken in
    let current = c.next_common.new.self.attendant.asker.current in
    let ended = c.in-Err.ensures.fault in
    let asked = ap (heard_as current) (sym (known_too taken.value c.in-Some.command taken.asked)) in (
      bytes,
      c.in-Err.ensures.err ∙ c.next_common.ensures.unsent ∙ is,
      lost_here c.args.cell.now.start c.args.now stream visitor before.attendant.held bytes
          (guest_of before.attendant before.subscriptions before.responder.hears c.args.seat.now.view) taken.value taken.rest c.in-Err.fault c.tell_common.new.seat.view a
          (ap value_at (ap bytes_in taken.held_is) ∙ taken.found) ended.0
          (by_own c.args.cell.now.start c.args.now taken.value current _ c.args.seat.now.view c.tell_common.new.seat.view c.in-Err.fault asked ended.1),
    )
