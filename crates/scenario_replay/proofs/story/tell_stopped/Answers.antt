use Rattle.scenario_replay.proofs.Groups.{begun_stands}
use Rattle.scenario_replay.proofs.story.tell_stopped.Goals as goal

pub run-requires-clause-stands : goal.run-requires-clause-stands
run-requires-clause-stands g c = begun_stands _ _ c.requires
