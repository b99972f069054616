use Rattle.test_cell.proofs.tests.two_seats.halt_and_leave.Given as goal

-- which cell it is
abbrev pub ghosts-share_until_halted : goal.ghosts-share_until_halted
ghosts-share_until_halted g a = record { cell = a.shared.0.value.id }
