use Rattle.courteous_sessions.proofs.InPlace.{front_answered, front_adds, front_lost}
use Rattle.courteous_sessions.proofs.exchange.Exchange.answer_front.Goals as goal

pub returns-in-Ok-clause-answered : goal.returns-in-Ok-clause-answered
returns-in-Ok-clause-answered g c = λ most stream first bytes visitor is a.
    let before = c.args.self.now in
    let after = c.hand_on.new.self in
    let next = c.in-Some.ensures in
    front_answered c.args.cell.now.start c.args.now most stream visitor c.in-Some.command first bytes before.attendant after.attendant before.subscriptions after.subscriptions
    before.responder.unsent.items after.responder.unsent.items before.responder.hears after.responder.hears c.args.seat.now.view c.hand_on.new.seat.view c.args.rest.now
    c.in-Some.more.now is a c.requires.ready c.requires.direct next.taken next.within next.common next.stores_none next.shorter c.hand_on.ensures.kept.0 c.hand_on.ensures.kept.1
    c.hand_on.ensures.told (rw c.asked_by.ensures at c.in-Ok.ensures.answered)

pub returns-in-Err-clause-answered : goal.returns-in-Err-clause-answered
returns-in-Err-clause-answered g c = λ most stream first bytes visitor is a.
    let before = c.args.self.now in
    let after = c.hand_on.new.self in
    front_lost c.args.cell.now.start c.args.now most stream visitor c.in-Some.command first bytes before.attendant before.subscriptions before.responder.unsent.items
    after.responder.unsent.items before.responder.hears c.args.seat.now.view c.hand_on.new.seat.view c.args.rest.now c.in-Some.more.now c.in-Err.fault is a c.in-Some.ensures.taken
    (rw c.asked_by.ensures at c.in-Err.ensures.fault) c.in-Err.ensures.err

pub returns-in-Ok-clause-one : goal.returns-in-Ok-clause-one
returns-in-Ok-clause-one g c =
    let before = c.args.self.now in
    let after = c.hand_on.new.self in
    let next = c.in-Some.ensures in
    front_adds c.args.cell.now.start c.args.now c.in-Some.command before.attendant after.attendant before.subscriptions before.responder.unsent.items after.responder.unsent.items
    before.responder.hears after.responder.hears c.args.seat.now.view c.hand_on.new.seat.view c.args.rest.now c.in-Some.more.now c.requires.ready c.requires.direct next.taken next.within
    next.common next.stores_none next.shorter c.hand_on.ensures.kept.0 c.hand_on.ensures.told (rw c.asked_by.ensures at c.in-Ok.ensures.answered)
