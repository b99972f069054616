use Rattle.test_cell.proofs.tests.newer_addresses.a_seat_that_never_acted_tells_a_newer_configuration.Given as goal

-- which cell it is
abbrev pub ghosts-cut_and_tell : goal.ghosts-cut_and_tell
ghosts-cut_and_tell g a = record { cell = a.shared.0.value.id }
