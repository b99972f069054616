use Rattle.test_cell.proofs.tests.refused_memory.is_made_again.Given as goal

-- which cell it is
abbrev pub ghosts-is_answered_again : goal.ghosts-is_answered_again
ghosts-is_answered_again g a = record { cell = a.shared.0.value.id }
