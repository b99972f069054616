use Rattle.std.proofs.Common.{◌≡◌, ◌∙◌, ap, sym}
use Rattle.client_commands.specs.Attendants.{Attendance}
use Rattle.client_commands.specs.declared.protocols.Protocol.TheVariants.{Two, Three}
use Rattle.resp2.specs.Framing.Frame.{view}
use Rattle.courteous_sessions.specs.OnTheWay.{guest_of}
use Rattle.courteous_sessions.specs.Visits.{channel_turn}
use Rattle.courteous_sessions.proofs.Serving.{other_turn, listens_on, ready_same, turn_same, served_same}
use Rattle.courteous_sessions.proofs.Stepping.{on_ok}
use Rattle.courteous_sessions.proofs.Losing.{subscribed_lost}
use Rattle.std.proofs.lemmas.Result.{err_from_is_err_and}
use Rattle.sentinel_core.specs.declared.serving.fault.ServeFault.TheVariants.{NoMemory}
use Rattle.courteous_sessions.proofs.Losing.{gave_up}
use Rattle.courteous_sessions.proofs.exchange.Exchange.answer_value.Goals as goal

pub attend_to-requires-clause-ready : goal.attend_to-requires-clause-ready
attend_to-requires-clause-ready g c =
    let before = c.args.self.now in
    let same = c.channel_turn.new.self in
    let turn = channel_turn before.attendant.asker before.subscriptions (view c.args.value.now) in
    let none = other_turn turn (sym c.in-Other.is ∙ c.in_ok-channel_turn.ensures.turn) in
    ready_same before.attendant same.attendant before.subscriptions same.subscriptions before.responder.hears same.responder.hears c.requires.ready c.channel_turn.ensures.attendant
    (listens_on before.subscriptions same.subscriptions turn none c.in_ok-channel_turn.ensures.after) c.channel_turn.ensures.hears

pub attend_to-requires-clause-other : goal.attend_to-requires-clause-other
attend_to-requires-clause-other g c =
    let before = c.args.self.now in
    let same = c.channel_turn.new.self in
    let turn = channel_turn before.attendant.asker before.subscriptions (view c.args.value.now) in
    let none = other_turn turn (sym c.in-Other.is ∙ c.in_ok-channel_turn.ensures.turn) in (
      turn_same before.attendant same.attendant before.subscriptions same.subscriptions (view c.args.value.now) none c.channel_turn.ensures.attendant
          (listens_on before.subscriptions same.subscriptions turn none c.in_ok-channel_turn.ensures.after),
      sym c.protocol.ensures ∙ c.in-Two.is,
    )

pub attend_beside-requires-clause-ready : goal.attend_beside-requires-clause-ready
attend_beside-requires-clause-ready g c =
    let before = c.args.self.now in
    let same = c.channel_turn.new.self in
    let turn = channel_turn before.attendant.asker before.subscriptions (view c.args.value.now) in
    let none = other_turn turn (sym c.in-Other.is ∙ c.in_ok-channel_turn.ensures.turn) in
    ready_same before.attendant same.attendant before.subscriptions same.subscriptions before.responder.hears same.responder.hears c.requires.ready c.channel_turn.ensures.attendant
    (listens_on before.subscriptions same.subscriptions turn none c.in_ok-channel_turn.ensures.after) c.channel_turn.ensures.hears

pub attend_beside-requires-clause-other : goal.attend_beside-requires-clause-other
attend_beside-requires-clause-other g c =
    let before = c.args.self.now in
    let same = c.channel_turn.new.self in
    let turn = channel_turn before.attendant.asker before.subscriptions (view c.args.value.now) in
    let none = other_turn turn (sym c.in-Other.is ∙ c.in_ok-channel_turn.ensures.turn) in
    turn_same before.attendant same.attendant before.subscriptions same.subscriptions (view c.args.value.now) none c.channel_turn.ensures.attendant
    (listens_on before.subscriptions same.subscriptions turn none c.in_ok-channel_turn.ensures.after)

pub returns-in-Two-clause-served : goal.returns-in-Two-clause-served
returns-in-Two-clause-served g c =
    let before = c.args.self.now in
    let same = c.channel_turn.new.self in
    let after = c.attend_to.new.self in
    let turn = channel_turn before.attendant.asker before.subscriptions (view c.args.value.now) in
    let none = other_turn turn (sym c.in-Other.is ∙ c.in_ok-channel_turn.ensures.turn) in
    let speaks : before.attendant.asker.protocol ≡ Two =
    sym (ap (λ (a : Attendance). a.asker.protocol) c.channel_turn.ensures.attendant) ∙ sym c.protocol.ensures ∙ c.in-Two.is
    in
    on_ok c.attend_to.result
    (λ served.
    served_same c.args.cell.now.start c.args.now Two before.attendant.asker.protocol before.attendant same.attendant before.subscriptions same.subscriptions before.responder.hears
    same.responder.hears c.args.seat.now.view (view c.args.value.now) before.responder.unsent.items same.responder.unsent.items after.responder.unsent.items
    (guest_of after.attendant after.subscriptions after.responder.hears c.attend_to.new.seat.view) speaks c.channel_turn.ensures.attendant
    (listens_on before.subscriptions same.subscriptions turn none c.in_ok-channel_turn.ensures.after) c.channel_turn.ensures.hears
    (c.channel_turn.ensures.unsent) served)
    c.attend_to.ensures.served

pub returns-clause-served : goal.returns-clause-served
returns-clause-served g c =
    let before = c.args.self.now in
    let same = c.channel_turn.new.self in
    let after = c.attend_beside.new.self in
    let turn = channel_turn before.attendant.asker before.subscriptions (view c.args.value.now) in
    let none = other_turn turn (sym c.in-Other.is ∙ c.in_ok-channel_turn.ensures.turn) in
    let speaks : before.attendant.asker.protocol ≡ Three =
    sym (ap (λ (a : Attendance). a.asker.protocol) c.channel_turn.ensures.attendant) ∙ sym c.protocol.ensures ∙ c.in-Three.is
    in
    on_ok c.attend_beside.result
    (λ served.
    served_same c.args.cell.now.start c.args.now Three before.attendant.asker.protocol before.attendant same.attendant before.subscriptions same.subscriptions before.responder.hears
    same.responder.hears c.args.seat.now.view (view c.args.value.now) before.responder.unsent.items same.responder.unsent.items after.responder.unsent.items
    (guest_of after.attendant after.subscriptions after.responder.hears c.attend_beside.new.seat.view) speaks c.channel_turn.ensures.attendant
    (listens_on before.subscriptions same.subscriptions turn none c.in_ok-channel_turn.ensures.after) c.channel_turn.ensures.hears
    (c.channel_turn.ensures.unsent) served)
    c.attend_beside.ensures.served

pub returns-in-Said-clause-fault : goal.returns-in-Said-clause-fault
returns-in-Said-clause-fault g c =
    subscribed_lost c.args.cell.now.start c.args.now c.confirm.result (view c.args.value.now) c.args.seat.now.view c.confirm.new.seat.view
    (λ same. same ∙ c.channel_turn.ensures.unsent) c.confirm.ensures.fault

pub returns-in_err-channel_turn-clause-fault : goal.returns-in_err-channel_turn-clause-fault
returns-in_err-channel_turn-clause-fault g c =
    let p = err_from_is_err_and c.from_residual.result c.from_residual.ensures.1 in
    let why : p.0 ≡ NoMemory = let q = p.2 in let s = c.in_err-channel_turn.ensures.fault in cc in
    gave_up c.args.cell.now.start c.args.now c.from_residual.result p.0 (view c.args.value.now) c.args.seat.now.view p.1 why (c.channel_turn.ensures.unsent)
