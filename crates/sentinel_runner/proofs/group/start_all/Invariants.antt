use Rattle.std.proofs.Common.{◌<◌, ◌-◌, ◌^◌, length}
use Rattle.std.specs.Prelude.{All}
use Rattle.sentinel_runner.proofs.group.start_all.Given as goal

abbrev pub invariant-loop-conf : goal.invariant-loop-conf
invariant-loop-conf g l = All (λ s. g.S.ConfStore.failure_count s < 2 ^ 64 - 1) l.stores.items

abbrev pub decreases-loop-conf : goal.decreases-loop-conf
decreases-loop-conf g l = length l.confs.items
