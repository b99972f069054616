use Rattle.boxed_nodes.proofs.SentinelsLemmas.SentinelMoves.{stops_new, left_of}
use Rattle.boxed_nodes.proofs.sentinels.sentinel_node.SentinelNode.stop_new.Goals as goal

pub returns-clause-stops : goal.returns-clause-stops
returns-clause-stops c =
    let e = c.store-stored.ensures in let l = c.law_read_again.ensures in
    stops_new c.args.self.now.sentinel c.store-stored.new.self c.stop.new.self
    (λ bytes conf read part. l.again bytes conf c.args.self.now.sentinel.core.kept read part c.has_run_ids.ensures) c.args.self.now.fits
    c.args.self.now.file c.refuse_none.new.self c.store-stored.new.store c.store-stored.result c.args.self.now.roomy c.refuse_none.ensures
    (record { whole = c.is_whole-2.ensures; nothing = e.nothing; nothing_left = e.nothing_left; stored = e.stored; untouched = e.untouched; halted = e.halted; known = e.known })
    c.stop.ensures c.is_whole-3.ensures

pub returns-clause-text : goal.returns-clause-text
returns-clause-text c =
    let e = c.store-stored.ensures in
    left_of c.args.self.now.sentinel c.store-stored.new.self c.args.self.now.fits c.is_whole.ensures.core.kept
    c.args.self.now.file c.refuse_none.new.self c.store-stored.new.store c.store-stored.result c.args.self.now.roomy c.refuse_none.ensures
    (record { whole = c.is_whole-2.ensures; nothing = e.nothing; nothing_left = e.nothing_left; stored = e.stored; untouched = e.untouched; halted = e.halted; known = e.known })
