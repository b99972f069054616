-- The exit statuses.
use Rattle.std.specs.Prelude.{ℕ}
use Rattle.sentinel_core.specs.declared.serving.fault.ServeFault.{ServeFault}
use Rattle.sentinel_core.specs.declared.serving.fault.ServeFault.TheVariants.{Frame, Read, Write, Halted, NoMemory}
use Rattle.sentinel_runner.specs.declared.group_fault.GroupFault.{GroupFault}
use Rattle.sentinel_runner.specs.declared.group_fault.OrderedFault.{OrderedFault}
use Rattle.sentinel_runner.specs.declared.group_fault.OrderedFault.TheVariants.{Group, Read as OrderedRead}
use Rattle.sentinel_runner.specs.declared.group_fault.GroupFault.TheVariants.{NotOneRoster, PortRefused, Halted as GroupHalted, NoMemory as GroupNoMemory}

-- 4: a stream that can't be read, written or understood; 5: a store was refused; 6: memory was
abbrev pub status_of : ServeFault → ℕ
status_of (Frame fault) = 4
status_of Read = 4
status_of Write = 4
status_of Halted = 5
status_of NoMemory = 6

-- 3: the files aren't those of one group; 4: a port can't be had
abbrev pub status_of_group : GroupFault → ℕ
status_of_group NotOneRoster = 3
status_of_group PortRefused = 4
status_of_group GroupHalted = 5
status_of_group GroupNoMemory = 6

abbrev pub status_of_ordered : OrderedFault → ℕ
status_of_ordered (Group fault) = status_of_group fault
status_of_ordered OrderedRead = 4
