use Rattle.test_cell.proofs.tests.four_threads.four_threads_ask_for_votes.Given as goal

-- which cell it is
abbrev pub ghosts-share_among_four : goal.ghosts-share_among_four
ghosts-share_among_four g a = record { cell = a.shared.0.value.id }
