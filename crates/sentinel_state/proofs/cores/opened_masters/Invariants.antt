use Rattle.std.proofs.Common.{◌≡◌, length, take}
use Rattle.std.specs.Prelude.{map}
use Rattle.ballot_law.specs.Clocks.{clock}
use Rattle.ballot_law.specs.Rosters.{MasterPlan}
use Rattle.sentinel_rules.specs.Plans.{roster_of, group_size}
use Rattle.sentinel_rules.specs.States.{new_master}
use Rattle.sentinel_state.proofs.cores.opened_masters.Given as goal

abbrev pub invariant-loop-m : goal.invariant-loop-m
invariant-loop-m l =
    l.masters.items
    ≡ map (λ (master : MasterPlan). new_master (group_size l.plan) (length master.nodes) (clock l.now)) (take l.m (roster_of l.plan).masters)
