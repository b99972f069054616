use Rattle.boxed_nodes.proofs.DataLemmas.Holding.{one_passed}
use Rattle.boxed_nodes.proofs.data.saying.pass_on.Goals as goal

pub loop-place-preserved : goal.loop-place-preserved
loop-place-preserved c =
    one_passed c.args.outbox.now c.args.sentinels c.requires.fits c.args.name c.args.hello.now c.loop-place.outbox c.hold-held.new.self c.loop-place.place
    c.hold-held.result c.loop-place.invariant c.loop-place-test.true c.hold-held.ensures.held c.hold-held.ensures.room
