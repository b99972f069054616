use Rattle.client_commands.proofs.LineReader.{maybe_common_taken}
use Rattle.client_commands.proofs.lines.take_common.Goals as goal

pub returns-clause-taken : goal.returns-clause-taken
returns-clause-taken c = maybe_common_taken c.args.frames.now c.next_common.new.frames c.next_common.result c.requires c.next_common.ensures.taken
