use Rattle.std.proofs.Common.{ap, sym, ◌∙◌}
use Rattle.sentinel_conf.specs.Reading.{conf_of_bytes}
use Rattle.sentinel_conf.specs.Store.Stores.{Stored}
use Rattle.boxed_nodes.proofs.SentinelsLemmas.SentinelMoves.{starts_of, named_of}
use Rattle.boxed_nodes.proofs.sentinels.sentinel_node.SentinelNodeNode.start.Goals as goal

pub returns-clause-starts : goal.returns-clause-starts
returns-clause-starts c =
    let e = c.in_ok-sentinel.ensures in
    starts_of c.law_opening_is_sound.ensures c.args.self.now.sentinel c.in_ok-sentinel.sentinel c.args.self.now.file.text c.begin_again.new.self.text c.in-Ok.conf c.args.now
    (record { read = ap conf_of_bytes (sym c.text.ensures) ∙ c.in-Ok.ensures; plan = e.plan; core = e.core; stored = e.stored; phase_is = e.phase; whole = c.is_whole.ensures })
    (ap (λ (f : Stored). f.text) c.begin_again.ensures)

pub returns-clause-name : goal.returns-clause-name
returns-clause-name c =
    let e = c.in_ok-sentinel.ensures in
    named_of c.args.self.now.sentinel c.in_ok-sentinel.sentinel c.args.self.now.file.text c.in-Ok.conf c.args.now
    (record { read = ap conf_of_bytes (sym c.text.ensures) ∙ c.in-Ok.ensures; plan = e.plan; core = e.core; stored = e.stored; phase_is = e.phase; whole = c.is_whole.ensures })

pub returns-clause-core : goal.returns-clause-core
returns-clause-core c = c.in_ok-sentinel.ensures.core
