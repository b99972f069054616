use Rattle.test_cell.proofs.tests.held_stores.hold_a_store.Given as goal

-- which cell it is
abbrev pub ghosts-ask_while_held : goal.ghosts-ask_while_held
ghosts-ask_while_held g a = record { cell = a.shared.0.value.id }
