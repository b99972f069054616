-- A fault of a file, with its line.
use Rattle.std.specs.Prelude.{ℕ}
use Rattle.conf_lines.specs.declared.faults.ConfKind.{ConfKind}
use Rattle.conf_lines.specs.declared.faults.ConfKind.TheVariants.{NoMemory}
use Rattle.conf_lines.specs.declared.faults.ConfFault.{ConfFault}

abbrev pub fault_at : ℕ → ConfKind → ConfFault
fault_at number kind = record { line = number; kind = kind }

-- a growth was refused
abbrev pub no_memory : ConfFault
no_memory = fault_at 0 NoMemory
