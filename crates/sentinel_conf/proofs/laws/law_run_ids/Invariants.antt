use Rattle.std.proofs.Common.{length}
use Rattle.std.specs.Prelude.{IfSome}
use Rattle.std.specs.List.{AllByRecursion}
use Rattle.ballot_law.specs.declared.cards.KeptMaster.{KeptMaster}
use Rattle.ballot_law.specs.Hellos.{IsRunId}
use Rattle.sentinel_conf.specs.Rewritten.{HasRunIds}
use Rattle.sentinel_conf.proofs.laws.law_run_ids.Given as goal

-- where those that are left have run ids, all have
abbrev pub invariant-loop-rest : goal.invariant-loop-rest
invariant-loop-rest l = AllByRecursion (λ (master : KeptMaster). IfSome master.candidate IsRunId) l.rest → HasRunIds l.kept

abbrev pub decreases-loop-rest : goal.decreases-loop-rest
decreases-loop-rest l = length l.rest
