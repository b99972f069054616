use Rattle.std.proofs.Common.{◌∙◌, ap, sym, subst, take, drop, length}
use Rattle.std.specs.Prelude.{OnOk}
use Rattle.client_commands.specs.declared.protocols.Protocol.TheVariants.{Three}
use Rattle.resp2.specs.Framing.Frame.{view}
use Rattle.courteous_sessions.specs.declared.shapes.Shape.{Shape}
use Rattle.courteous_sessions.specs.OnTheWay.{guest_of}
use Rattle.courteous_sessions.specs.Retelling.{JoinsTold}
use Rattle.courteous_sessions.proofs.Stepping.{on_ok, tells_in_two, tells_in_three, is_behind, none_told_of}
use Rattle.sentinel_core.specs.declared.serving.fault.ServeFault.{ServeFault}
use Rattle.courteous_sessions.specs.Visits.{IsUnanswered}
use Rattle.courteous_sessions.proofs.Losing.{served_lost}
use Rattle.courteous_sessions.proofs.exchange.Exchange.tell_value.Goals as goal

pub returns-in-Two-clause-served : goal.returns-in-Two-clause-served
returns-in-Two-clause-served g c =
    let before = c.args.self.now in
    let after = c.answer_value.new.self in
    tells_in_two c.args.cell.now.start c.args.now (guest_of before.attendant before.subscriptions before.responder.hears c.args.seat.now.view) after.attendant after.subscriptions
    after.responder.hears c.answer_value.new.seat.view (view c.args.value.now) before.responder.unsent.items after.responder.unsent.items (sym c.protocol.ensures ∙ c.in-Two.is)
    c.in_ok-answer_value.ensures.served

pub retell-requires : goal.retell-requires
retell-requires g c =
    let got = c.in_ok-answer_value.ensures.served in
    is_behind (length c.unsent-start.result.now) c.args.self.now.responder.unsent.items c.answer_value.new.self.responder.unsent.items got.0 (ap length c.unsent-start.ensures) got.1

pub returns-in-Three-clause-served : goal.returns-in-Three-clause-served
returns-in-Three-clause-served g c =
    let before = c.args.self.now in
    let mid = c.answer_value.new.self in
    let after = c.retell.new.self in
    on_ok c.retell.result
    (λ told.
    tells_in_three c.args.cell.now.start c.args.now (guest_of before.attendant before.subscriptions before.responder.hears c.args.seat.now.view) mid.attendant after.attendant
    mid.subscriptions after.subscriptions mid.responder.hears after.responder.hears c.answer_value.new.seat.view (view c.args.value.now) before.responder.unsent.items mid.responder.unsent.items
    after.responder.unsent.items (length c.unsent-start.result.now) (ap length c.unsent-start.ensures) (sym c.protocol.ensures ∙ c.in-Three.is) c.retell.ensures.attendant c.retell.ensures.kept c.retell.ensures.hears
    c.in_ok-answer_value.ensures.served told)
    (subst (λ (shape : Shape). OnOk c.retell.result
    (JoinsTold Three shape (drop (length c.unsent-start.result.now) mid.responder.unsent.items) (take (length c.unsent-start.result.now) mid.responder.unsent.items) after.responder.unsent.items))
    c.shape_of.ensures c.retell.ensures.ok)

pub returns-in-Three-clause-fault : goal.returns-in-Three-clause-fault
returns-in-Three-clause-fault g c =
    let before = c.args.self.now in
    let mid = c.answer_value.new.self in
    let got = c.in_ok-answer_value.ensures.served in
    let value = view c.args.value.now in
    let lost = served_lost c.args.cell.now.start c.args.now before.attendant.asker.protocol (guest_of before.attendant before.subscriptions before.responder.hears c.args.seat.now.view) value
    got.0 (guest_of mid.attendant mid.subscriptions mid.responder.hears c.answer_value.new.seat.view) got.3
    in
    none_told_of (λ (f : ServeFault). IsUnanswered c.args.cell.now.start c.args.now c.args.seat.now.view value f c.answer_value.new.seat.view) c.retell.result (length c.unsent-start.result.now)
    before.responder.unsent.items mid.responder.unsent.items got.0 c.retell.new.self.responder.unsent.items lost (ap length c.unsent-start.ensures) got.1 c.retell.ensures.err c.retell.ensures.fault
