use Rattle.std.proofs.Common.{ℕ, ◌∙◌, refl}
use Rattle.resp2.specs.Framing.Stream.{Held, reading, bytes_in}
use Rattle.std.proofs.Common.{◌++◌}
use Rattle.sentinel_core.specs.declared.serving.fault.ServeFault.TheVariants.{NoMemory}
use Rattle.courteous_sessions.specs.GoingOn.{IsWithin}
use Rattle.courteous_sessions.specs.OnTheWay.{guest_of}
use Rattle.courteous_sessions.specs.Visits.{Guest}
use Rattle.courteous_sessions.proofs.GoingOn.{memory_cut}
use Rattle.courteous_sessions.proofs.InPlace.{fed_alike}
use Rattle.courteous_sessions.proofs.exchange.Exchange.take_some_rest.Goals as goal

pub returns-in_default-clause-answered : goal.returns-in_default-clause-answered
returns-in_default-clause-answered g c = λ stream first bytes visitor is a.
    let before = c.args.self.now in (
      bytes,
      c.feed_within.ensures.unsent ∙ is,
      memory_cut c.args.cell.now.start c.args.now c.args.most stream visitor c.args.most (reading (bytes_in before.attendant.held ++ c.args.rest.now)) bytes
          (guest_of before.attendant before.subscriptions before.responder.hears c.args.seat.now.view) NoMemory a refl,
    )

pub returns-in-Ok-go_on_whole-clause-answered : goal.returns-in-Ok-go_on_whole-clause-answered
returns-in-Ok-go_on_whole-clause-answered g c = λ stream first bytes visitor is a.
    let before = c.args.self.now in
    let fed = c.feed_within.new.self in
    c.in-Ok-go_on_whole.ensures.answered c.args.most stream first bytes visitor (c.feed_within.ensures.unsent ∙ is)
    (fed_alike (λ (n : ℕ) (h : Held) (m : Guest). IsWithin c.args.cell.now.start c.args.now c.args.most stream visitor n h bytes m) c.args.most c.in-Ok.limit.most before.attendant
    fed.attendant before.subscriptions fed.subscriptions before.responder.hears fed.responder.hears c.args.rest.now c.args.seat.now.view c.in-Ok.ensures.limit.1 c.in-Ok.ensures.fed
    c.feed_within.ensures.asker c.feed_within.ensures.kept c.feed_within.ensures.hears a)

pub returns-clause-answered : goal.returns-clause-answered
returns-clause-answered g c = λ stream first bytes visitor is a.
    let before = c.args.self.now in
    let fed = c.feed_within.new.self in
    c.in-Err.ensures.answered c.args.most stream first bytes visitor (c.feed_within.ensures.unsent ∙ is)
    (fed_alike (λ (n : ℕ) (h : Held) (m : Guest). IsWithin c.args.cell.now.start c.args.now c.args.most stream visitor n h bytes m) c.args.most c.in-Ok.limit.most before.attendant
    fed.attendant before.subscriptions fed.subscriptions before.responder.hears fed.responder.hears c.args.rest.now c.args.seat.now.view c.in-Ok.ensures.limit.1 c.in-Ok.ensures.fed
    c.feed_within.ensures.asker c.feed_within.ensures.kept c.feed_within.ensures.hears a)
