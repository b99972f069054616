-- What a Sentinel may take: what no message brings, and what it may be told.
use Rattle.std.specs.Prelude.{ℕ, ◌⊎◌, List}
use Rattle.std.specs.List.{AllByRecursion}
use Rattle.ballot_law.specs.declared.events.Event.{Event}
use Rattle.ballot_law.specs.Worlds.{IsFree}
use Rattle.sentinel_cell.specs.declared.entry.Entry.{Entry}
use Rattle.sentinel_cell.specs.declared.view.View.{View}
use Rattle.sentinel_cell.specs.Calls.{Has, calls_by}

-- answers, hellos and what other nodes are handed come only as it may be told; ticks, commands and what a data node says of itself are free
abbrev pub MayTake : (told : Event → Type 0) → Event → Type 0
MayTake told event = IsFree event ⊎ ∥ told event ∥₁

-- entries each of which took what the Sentinel may take
abbrev pub MayTakeAll : (told : Event → Type 0) → List Entry → Type 0
MayTakeAll told entries = AllByRecursion (λ (entry : Entry). MayTake told entry.input.event) entries

-- so did the calls under a seat's own numbers, as far as it has seen
abbrev pub HeardWell : (told : Event → Type 0) → View → Type 0
HeardWell told v = (n : ℕ) → Has n v.numbers → MayTakeAll told (calls_by n v.front)
