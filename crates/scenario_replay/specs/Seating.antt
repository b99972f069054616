-- The seats of a group.
use Rattle.std.specs.Prelude.{◌≡◌, ℕ, ◌<◌, ◌≤◌}
use Rattle.scenario_replay.specs.declared.seats.Seat.{Seat}
use Rattle.scenario_replay.specs.declared.seats.Seat.TheVariants.{Sentinel, Store, Client}
use Rattle.scenario_replay.specs.declared.seats.Seats.{Seats}

-- the seat with this number
abbrev pub IsSeat : Seats → ℕ → Seat → Type 0
IsSeat seats n (Sentinel place) = (place ≡ n) × (place < seats.sentinels)
IsSeat seats n (Store number) = (seats.sentinels ≤ n) × (number < seats.stores)
IsSeat seats n (Client number) = (seats.sentinels ≤ n) × (number < seats.clients)
