use Rattle.std.proofs.Common.{refl, rules}
use Rattle.scenario_replay.proofs.story.Story.new_as.Goals as goal

pub returns-clause-story : goal.returns-clause-story
returns-clause-story c = (refl, refl)

pub returns-in_err-_steps-clause-fault : goal.returns-in_err-_steps-clause-fault
returns-in_err-_steps-clause-fault c = search rules
