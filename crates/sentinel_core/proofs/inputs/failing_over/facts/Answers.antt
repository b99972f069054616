use Rattle.std.proofs.Common.{rules, ◌≡◌, ap, ◌∙◌}
use Rattle.ballot_law.specs.Clocks.{clock}
use Rattle.failover_states.specs.Failovers.{Failover}
use Rattle.failover_states.specs.Known.{Known}
use Rattle.failover_states.specs.Table.{turned}
use Rattle.sentinel_rules.specs.States.{failover_of}
use Rattle.sentinel_rules.specs.Ticks.{known_of}
use Rattle.sentinel_core.specs.Inputs.Rows.{looked_at}
use Rattle.sentinel_core.proofs.InputsLemmas.Looking.{turned_looked}
use Rattle.sentinel_core.proofs.inputs.failing_over.facts.Goals as goal

as_looked : (f : Failover) (all some : Known) → some ≡ looked_at f.state all → turned f some ≡ turned f all
as_looked f all some e = ap (turned f) e ∙ turned_looked f all

pub returns-clause-turn : goal.returns-clause-turn
returns-clause-turn c =
    as_looked (failover_of c.args.state.now.core c.args.m) (known_of c.args.state.now.plan c.args.state.now.core c.args.m (clock c.args.now) c.args.odown) _ (search rules)
