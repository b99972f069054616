-- How far a run came.
use Rattle.std.specs.Prelude.{ℕ}
use Rattle.fault_world.specs.declared.faults.RunFault.{RunFault}
use Rattle.fault_world.specs.declared.faults.RunFault.TheVariants.{NoMemory}

abbrev pub steps_done : RunFault → ℕ
steps_done (NoMemory step) = step
