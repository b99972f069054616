use Rattle.std.proofs.Common.{ℕ, ◌∙◌, refl, sym}
use Rattle.resp2.specs.Framing.Stream.{Held}
use Rattle.courteous_sessions.specs.OnTheWay.{IsOnTheWay}
use Rattle.courteous_sessions.specs.Visits.{Guest}
use Rattle.courteous_sessions.proofs.InPlace.{fed_to, fed_alike}
use Rattle.courteous_sessions.proofs.exchange.Exchange.take_rest.Goals as goal

pub returns-in-Ok-clause-answered : goal.returns-in-Ok-clause-answered
returns-in-Ok-clause-answered g c = λ stream first bytes visitor is a.
    let before = c.args.self.now in
    let held = fed_to c.feed.result before.attendant.held c.feed.new.self.held c.args.rest.now c.requires.ready.reads (sym c.is_err.ensures.value ∙ c.if-is_err.false)
    c.feed.ensures.held
    in
    c.in-Ok.ensures.answered stream first bytes visitor is
    (fed_alike (λ (n : ℕ) (h : Held) (m : Guest). IsOnTheWay c.args.cell.now.start c.args.now stream visitor h bytes m) 0 0 before.attendant c.feed.new.self before.subscriptions
    before.subscriptions before.responder.hears before.responder.hears c.args.rest.now c.args.seat.now.view refl held c.feed.ensures.asker refl refl a)

pub returns-in-Err-clause-answered : goal.returns-in-Err-clause-answered
returns-in-Err-clause-answered g c = λ stream first bytes visitor is a.
    let before = c.args.self.now in
    let held = fed_to c.feed.result before.attendant.held c.feed.new.self.held c.args.rest.now c.requires.ready.reads (sym c.is_err.ensures.value ∙ c.if-is_err.false)
    c.feed.ensures.held
    in
    c.in-Err.ensures.answered stream first bytes visitor is
    (fed_alike (λ (n : ℕ) (h : Held) (m : Guest). IsOnTheWay c.args.cell.now.start c.args.now stream visitor h bytes m) 0 0 before.attendant c.feed.new.self before.subscriptions
    before.subscriptions before.responder.hears before.responder.hears c.args.rest.now c.args.seat.now.view refl held c.feed.ensures.asker refl refl a)
