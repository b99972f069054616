use Rattle.std.proofs.Common.{ℕ, List, ◌++◌, length}
use Rattle.conf_check.specs.Errors.AllFaults.{all_faults}
use Rattle.conf_check.specs.Errors.Notes.{AreNotes}
use Rattle.conf_check.proofs.errors.notes.notes_of.Given as goal

-- with a text of the faults that are left it is one of all
abbrev pub invariant-loop-rest : goal.invariant-loop-rest
invariant-loop-rest l = (more : List ℕ) → AreNotes l.fn.path l.fn.bytes l.rest more → AreNotes l.fn.path l.fn.bytes (all_faults l.fn.bytes) (l.text.items ++ more)

abbrev pub decreases-loop-rest : goal.decreases-loop-rest
decreases-loop-rest l = length l.rest
