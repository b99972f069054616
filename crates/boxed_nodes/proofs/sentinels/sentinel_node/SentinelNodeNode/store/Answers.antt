use Rattle.boxed_nodes.proofs.SentinelsLemmas.SentinelMoves.{stores_of, answered}
use Rattle.boxed_nodes.proofs.sentinels.sentinel_node.SentinelNodeNode.store.Goals as goal

pub returns-clause-stores : goal.returns-clause-stores
returns-clause-stores c =
    let e = c.store-stored.ensures in let l = c.law_read_again.ensures in
    stores_of c.args.how c.args.self.now.sentinel c.store-stored.new.self
    (λ bytes conf read part. l.again bytes conf c.args.self.now.sentinel.core.kept read part c.has_run_ids.ensures) c.args.self.now.fits
    c.args.self.now.file c.refuse_as.new.file c.store-stored.new.store c.store-stored.result c.args.self.now.roomy c.refuse_as.ensures
    (record { whole = c.is_whole-2.ensures; nothing = e.nothing; nothing_left = e.nothing_left; stored = e.stored; untouched = e.untouched; halted = e.halted; known = e.known })

pub returns-clause-answer : goal.returns-clause-answer
returns-clause-answer c =
    let e = c.store-stored.ensures in
    λ p. (answered c.args.how c.args.self.now.sentinel c.store-stored.new.self c.args.self.now.fits c.is_whole.ensures.core.kept
    c.args.self.now.file c.refuse_as.new.file c.store-stored.new.store c.store-stored.result c.args.self.now.roomy c.refuse_as.ensures
    (record { whole = c.is_whole-2.ensures; nothing = e.nothing; nothing_left = e.nothing_left; stored = e.stored; untouched = e.untouched; halted = e.halted; known = e.known })
    p).0

pub returns-clause-written : goal.returns-clause-written
returns-clause-written c =
    let e = c.store-stored.ensures in
    λ p. (answered c.args.how c.args.self.now.sentinel c.store-stored.new.self c.args.self.now.fits c.is_whole.ensures.core.kept
    c.args.self.now.file c.refuse_as.new.file c.store-stored.new.store c.store-stored.result c.args.self.now.roomy c.refuse_as.ensures
    (record { whole = c.is_whole-2.ensures; nothing = e.nothing; nothing_left = e.nothing_left; stored = e.stored; untouched = e.untouched; halted = e.halted; known = e.known })
    p).1
