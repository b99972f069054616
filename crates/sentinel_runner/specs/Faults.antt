-- How a group ends in which something went wrong.
use Rattle.sentinel_runtime.specs.declared.run_state.RunFault.{RunFault}
use Rattle.sentinel_runtime.specs.declared.run_state.RunFault.TheVariants as run
use Rattle.sentinel_runner.specs.declared.group_fault.GroupFault.{GroupFault}
use Rattle.sentinel_runner.specs.declared.group_fault.GroupFault.TheVariants.{Halted, NoMemory, PortRefused}

-- a thread that can't be made is a want of memory
abbrev pub fault_of_run : RunFault → GroupFault
fault_of_run run.LackedThread = NoMemory
fault_of_run run.LostPort = PortRefused
fault_of_run run.Halted = Halted
