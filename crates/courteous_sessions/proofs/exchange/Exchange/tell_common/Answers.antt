use Rattle.std.proofs.Common.{◌∙◌, ap, sym, length}
use Rattle.std.specs.Prelude.{Ok}
use Rattle.client_commands.specs.Attendants.{Attendance}
use Rattle.port_sessions.specs.Talks.{party}
use Rattle.courteous_sessions.specs.Epochs.{heard_as}
use Rattle.courteous_sessions.proofs.Stepping.{on_ok, is_behind, none_told_alone, responds_in_two, responds_in_three}
use Rattle.courteous_sessions.proofs.Values.{unput}
use Rattle.courteous_sessions.proofs.exchange.Exchange.tell_common.Goals as goal

pub returns-in-Two-clause-answered : goal.returns-in-Two-clause-answered
returns-in-Two-clause-answered g c =
    let before = c.args.self.now in
    let after = c.hand_on.new.self in
    responds_in_two c.args.cell.now.start c.args.now before.attendant.asker.protocol (party c.args.seat.now.view before.responder.hears.listens)
    (heard_as before.attendant.asker.current (Ok c.args.command)) (party c.hand_on.new.seat.view after.responder.hears.listens) before.responder.unsent.items after.responder.unsent.items
    (sym (c.protocol.ensures ∙ ap (λ (x : Attendance). x.asker.protocol) c.in_ok-hand_on.ensures.kept.0) ∙ c.in-Two.is) c.in_ok-hand_on.ensures.answered

pub retell_plain-requires : goal.retell_plain-requires
retell_plain-requires g c =
    let got = c.in_ok-hand_on.ensures.answered in
    is_behind (length c.unsent-start.result.now) c.args.self.now.responder.unsent.items c.hand_on.new.self.responder.unsent.items got.0 (ap length c.unsent-start.ensures) got.1

pub returns-in-Three-clause-answered : goal.returns-in-Three-clause-answered
returns-in-Three-clause-answered g c =
    let before = c.args.self.now in
    let mid = c.hand_on.new.self in
    let after = c.retell_plain.new.self in
    on_ok c.retell_plain.result
    (λ told.
    responds_in_three c.args.cell.now.start c.args.now before.attendant.asker.protocol (party c.args.seat.now.view before.responder.hears.listens)
    (heard_as before.attendant.asker.current (Ok c.args.command)) mid.responder.hears after.responder.hears c.hand_on.new.seat.view before.responder.unsent.items mid.responder.unsent.items
    after.responder.unsent.items (length c.unsent-start.result.now) (ap length c.unsent-start.ensures)
    (sym (c.protocol.ensures ∙ ap (λ (x : Attendance). x.asker.protocol) c.in_ok-hand_on.ensures.kept.0) ∙ c.in-Three.is) c.retell_plain.ensures.hears
    c.in_ok-hand_on.ensures.answered told)
    c.retell_plain.ensures.ok

pub returns-in-Three-clause-err : goal.returns-in-Three-clause-err
returns-in-Three-clause-err g c =
    let got = c.in_ok-hand_on.ensures.answered in
    none_told_alone c.retell_plain.result (length c.unsent-start.result.now) c.args.self.now.responder.unsent.items c.hand_on.new.self.responder.unsent.items got.0 c.retell_plain.new.self.responder.unsent.items
    (ap length c.unsent-start.ensures) got.1 c.retell_plain.ensures.err

pub returns-in-Three-clause-fault : goal.returns-in-Three-clause-fault
returns-in-Three-clause-fault g c =
    let before = c.args.self.now in
    let got = c.in_ok-hand_on.ensures.answered in
    unput c.args.cell.now.start c.args.now c.retell_plain.result (heard_as before.attendant.asker.current (Ok c.args.command)) c.args.seat.now.view c.hand_on.new.seat.view
    before.responder.hears.listens c.hand_on.new.self.responder.hears.listens got.0 got.2 c.retell_plain.ensures.fault
