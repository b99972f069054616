use Rattle.std.proofs.Common.{rules}
use Rattle.fault_world.proofs.Told.{all_shown}
use Rattle.fault_world.proofs.telling.tell_shown.Goals as goal

pub returns-clause-entries : goal.returns-clause-entries
returns-clause-entries c =
    all_shown c.args.roster.now c.args.sentinel c.args.shown.now c.loop-one.one-index c.args.report.now.entries c.loop-one.report.entries (search rules)
    c.loop-one.invariant.entries
