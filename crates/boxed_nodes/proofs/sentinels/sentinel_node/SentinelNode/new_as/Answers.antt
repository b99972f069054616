use Rattle.std.proofs.Common.{ap}
use Rattle.sentinel_conf.specs.Store.Stores.{Stored}
use Rattle.boxed_nodes.proofs.SentinelsLemmas.SentinelMoves.{fresh_of}
use Rattle.boxed_nodes.proofs.sentinels.sentinel_node.SentinelNode.new_as.Goals as goal

pub returns-clause-fresh : goal.returns-clause-fresh
returns-clause-fresh c =
    let e = c.in-Ok-open_as.ensures in
    fresh_of c.law_opening_is_sound.ensures c.in-Ok-open_as.sentinel c.args.bytes.now c.in-Ok.file.text c.in_ok-conf.conf c.args.now
    (record { read = c.in_ok-conf.ensures; plan = e.plan; core = e.core; stored = e.stored; phase_is = e.phase; whole = c.is_whole.ensures })
    (ap (λ (f : Stored). f.text) c.in-Ok.ensures.store)
