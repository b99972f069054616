use Rattle.scenario_replay.proofs.Files.{begins_with}
use Rattle.scenario_replay.proofs.story.sentinel_of.Goals as goal

pub returns-clause-begins : goal.returns-clause-begins
returns-clause-begins c = rw c.in_ok-new.ensures.ok (begins_with c.args.file.now c.in-Ok.node.file.text c.in-Ok.node.sentinel c.in-Ok.ensures.text)
