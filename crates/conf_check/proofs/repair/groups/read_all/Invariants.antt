use Rattle.std.proofs.Common.{◌≡◌, ◌++◌, length}
use Rattle.std.specs.Option.{option_map}
use Rattle.conf_check.specs.Repair.GroupTexts.{confs_of}
use Rattle.conf_check.proofs.repair.groups.read_all.Given as goal

-- what was read, and what is left
abbrev pub invariant-loop-rest : goal.invariant-loop-rest
invariant-loop-rest l = confs_of l.texts ≡ option_map (λ others. l.confs.items ++ others) (confs_of l.rest)

abbrev pub decreases-loop-rest : goal.decreases-loop-rest
decreases-loop-rest l = length l.rest
