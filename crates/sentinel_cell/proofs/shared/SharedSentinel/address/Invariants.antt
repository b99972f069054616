use Rattle.sentinel_cell.specs.Histories.{opened}
use Rattle.sentinel_cell.proofs.shared.SharedSentinel.address.Given as goal

-- the world that the cell was made with
abbrev pub ghosts-read_word : goal.ghosts-read_word
ghosts-read_word g a = record { start = opened g.S.ConfStore.held g.S.ConfStore.failure_count a.hall.now.key.keeper }
