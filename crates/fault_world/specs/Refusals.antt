-- Why nodes begin no world: the first reason that fits.
use Rattle.fault_world.specs.declared.faults.WorldFault.{WorldFault}
use Rattle.fault_world.specs.declared.faults.WorldFault.TheVariants.{NotTheRoster, DifferentStart, NoMemory}

-- where the nodes are the group of a roster or aren't, and begin alike or don't
abbrev pub IsRefusal : WorldFault → (group alike : Type 0) → Type 0
IsRefusal NotTheRoster group alike = ¬ group
IsRefusal DifferentStart group alike = group × (¬ alike)
IsRefusal NoMemory group alike = group × alike
