use Rattle.std.proofs.Common.{length}
use Rattle.scenario_replay.proofs.traces.add_report.Given as goal

abbrev pub decreases-loop-rest : goal.decreases-loop-rest
decreases-loop-rest l = length l.rest
