use Rattle.story_runs.proofs.worlds.steps_of.Goals as goal

pub returns-in-Ok : goal.returns-in-Ok
returns-in-Ok c = c.law_scenarios_are_within.ensures _ c.in-Ok.ensures.within
