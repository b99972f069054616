use Rattle.sentinel_cell.specs.Histories.{opened, entry_of}
use Rattle.sentinel_cell.specs.Standing.{first_number}
use Rattle.sentinel_cell.proofs.place.act_at.Given as goal

-- the world that the cell was made with
abbrev pub ghosts-wait_for_turn : goal.ghosts-wait_for_turn
ghosts-wait_for_turn g a = record { start = opened g.S.ConfStore.held g.S.ConfStore.failure_count a.hall.now.key.keeper }

-- the entry of this call
abbrev pub ghosts-raise_word : goal.ghosts-raise_word
ghosts-raise_word g a = record { entry = entry_of (first_number a.place.now.me.0.numbers) a.input.now a.outcome a.first a.outbox.now.shown a.failures }

abbrev pub ghosts-pass_turn : goal.ghosts-pass_turn
ghosts-pass_turn g a = record { start = opened g.S.ConfStore.held g.S.ConfStore.failure_count a.hall.now.key.keeper }
