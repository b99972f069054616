use Rattle.sentinel_rules.proofs.WorkedRows.{a_planned_switch, a_switch_at_the_nodes}
use Rattle.sentinel_rules.proofs.worked.law_example_switches.Goals as goal

pub returns-clause-a_planned_switch : goal.returns-clause-a_planned_switch
returns-clause-a_planned_switch c = a_planned_switch

pub returns-clause-a_switch_at_the_nodes : goal.returns-clause-a_switch_at_the_nodes
returns-clause-a_switch_at_the_nodes c = a_switch_at_the_nodes
