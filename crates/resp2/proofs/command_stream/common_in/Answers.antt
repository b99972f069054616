use Rattle.resp2.proofs.Found.{found_shorter}
use Rattle.resp2.proofs.command_stream.common_in.Goals as goal

pub returns-in-Some-Ok-default-clause-shorter : goal.returns-in-Some-Ok-default-clause-shorter
returns-in-Some-Ok-default-clause-shorter c = found_shorter c.args.bytes.now c.in-Some-Ok-default.rest.now _ c.in-Some-Ok-default.ensures.found
