use Rattle.std.proofs.Common.{◌≢◌, ◌<◌, ℕ, slice_get}
use Rattle.std.specs.Prelude.{IfSome}
use Rattle.fault_world.proofs.fault_world.place_of.Given as goal

abbrev pub invariant-loop-k : goal.invariant-loop-k
invariant-loop-k g l = (j : ℕ) → j < l.k → IfSome (slice_get l.members.items j) (λ m. m.name ≢ l.node)
