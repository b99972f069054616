use Rattle.scenario_replay.proofs.Limits.{limits_of}
use Rattle.scenario_replay.proofs.steps.steps_of.Goals as goal

pub returns-clause-limits : goal.returns-clause-limits
returns-clause-limits c =
    limits_of (λ steps. steps.items) c.read_scenario_as.result c.law_scenarios_are_within.ensures
    c.read_scenario_as.ensures.within
