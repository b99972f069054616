use Rattle.std.proofs.Common.{◌<◌, ◌-◌, ◌^◌, ℕ}
use Rattle.std.specs.Prelude.{All}
use Rattle.sentinel_group.proofs.group_files.files_of.Given as goal

abbrev pub invariant-loop-path : goal.invariant-loop-path
invariant-loop-path g l = All (λ store. store < 2 ^ 64 - 1) l.stores.items
