use Rattle.std.proofs.Common.{rules}
use Rattle.fault_world.proofs.Told.{all_outputs}
use Rattle.fault_world.proofs.telling.tell_outputs.Goals as goal

pub returns : goal.returns
returns c =
    all_outputs c.args.roster.now c.args.sentinel c.args.outputs.now c.loop-output.output-index c.args.report.now.entries c.loop-output.report.entries (search rules)
    c.loop-output.invariant.entries
