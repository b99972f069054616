-- What a caller sees of a seat, and what a call tells.
use Rattle.std.specs.Prelude.{◌≡◌, ℕ, ◌+◌, ◌<◌, List, [], ◌∷◌, ◌++◌, ◌≤◌, ◌-◌, Option, Result, Ok, Err}
use Rattle.ballot_law.specs.declared.events.Input.{Input}
use Rattle.ballot_law.specs.declared.messages.Output.{Output}
use Rattle.atomic_table.specs.Seated.{TableId}
use Rattle.ballot_law.specs.Rosters.{Roster}
use Rattle.sentinel_rules.specs.Plans.{Plan, roster_of, master_count}
use Rattle.sentinel_outbox.specs.declared.room.Room.{Room}
use Rattle.sentinel_outbox.specs.Outboxes.{room_of_sentinel}
use Rattle.sentinel_cell.specs.declared.entry.Entry.{Entry}
use Rattle.sentinel_cell.specs.declared.entry.Outcome.{Outcome}
use Rattle.sentinel_cell.specs.declared.keeper.Keeper.{Keeper}
use Rattle.sentinel_cell.specs.declared.shared.TheConstants.{MOST_SEATS}
use Rattle.sentinel_cell.specs.declared.view.View.{View}
use Rattle.sentinel_cell.specs.declared.view.Stage.TheVariants.{Idle}
use Rattle.sentinel_cell.specs.declared.fault.Reply.{Reply}
use Rattle.sentinel_cell.specs.declared.fault.ActFault.{ActFault}
use Rattle.sentinel_cell.specs.declared.fault.ActFault.TheVariants.{NoMemory, Spent, Halted as ActHalted, StoreRefused}
use Rattle.sentinel_cell.specs.declared.entry.Outcome.TheVariants.{Stored, Refused, Halted}
use Rattle.sentinel_cell.specs.declared.place.TicketsSpent.{TicketsSpent}
use Rattle.sentinel_cell.specs.Calls.{Has, calls_by, AreOf}
use Rattle.sentinel_cell.specs.Histories.{World, IsLegal, IsLeft, replay, stored_at}
use Rattle.sentinel_cell.specs.Turns.{spent, AreGiven}

-- a cell: which one it is, the world that its history begins at, and how many seats may be at once
pub record Cell : Type 0 where
  pub id : TableId
  pub start : World
  pub seats : ℕ

-- what is always true of a cell's table and of what is kept beside it
pub record IsMade (table : TableId) (plan : Plan) (told_seats seats : ℕ) (roster : Roster) (room : Room) : Type 0 where
  pub words : table.words ≡ master_count plan + 2
  pub slots : table.slots ≡ 1
  pub counted : seats ≡ told_seats
  pub few : seats ≤ MOST_SEATS
  pub rostered : roster ≡ roster_of plan
  pub roomed : room ≡ room_of_sentinel

-- a seat: of which cell it is, and what it knows
pub record Standing : Type 0 where
  pub cell : TableId
  pub view : View

abbrev pub standing : TableId → View → Standing
standing t v = record { cell = t; view = v }

abbrev pub head_view : List View → View
head_view [] = spent
head_view (v ∷ vs) = v

abbrev pub first_number : List ℕ → ℕ
first_number [] = 0
first_number (n ∷ ns) = n

-- a seat between two calls
abbrev pub AtRest : View → Type 0
AtRest v = (v.stage ≡ Idle) × (0 < v.share) × Has (first_number v.numbers) v.numbers × (v.share ≤ MOST_SEATS)

-- The call is the last entry of a legal history, which begins with all that the seat had seen. Between the two the seat's numbers have no call.
-- Each answer that the seat got is the configuration of some beginning of that history, and each call in it is of a number that was given out
abbrev pub Adds : World → View → Input → Outcome → List Output → View → Type 0
Adds start v input outcome outputs w =
    (between : List Entry) × (e : Entry)
    × (w.front ≡ (v.front ++ between) ++ e ∷ []) × IsLegal start w.front × ((n : ℕ) → Has n v.numbers → calls_by n between ≡ [])
    × (e.number ≡ first_number v.numbers) × (e.input ≡ input) × (e.outcome ≡ outcome) × (e.outputs ≡ outputs)
    × (w.numbers ≡ v.numbers) × (w.answers ≡ v.answers) × (w.share ≡ v.share)
    × AreOf (stored_at start) w.answers w.front
    × (v.given ≤ w.given) × AreGiven w.given w.front

-- nothing but the last look at the tickets
abbrev pub IsSame : View → View → Type 0
IsSame v w = (w.front ≡ v.front) × (w.numbers ≡ v.numbers) × (w.answers ≡ v.answers) × (w.share ≡ v.share) × (w.given ≡ v.given)

-- What a call of `act` did. NoMemory and Spent add no entry, and draw no ticket
abbrev pub Faulted : World → View → Input → List Output → View → ActFault → Type 0
Faulted start v input outputs w NoMemory = (outputs ≡ []) × (w ≡ v)
Faulted start v input outputs w Spent = (outputs ≡ []) × IsSame v w × (9223372036854775808 ≤ w.tickets)
Faulted start v input outputs w ActHalted = (outputs ≡ []) × Adds start v input Halted outputs w
Faulted start v input outputs w StoreRefused = (outputs ≡ []) × Adds start v input Refused outputs w

abbrev pub Acted : World → View → Input → List Output → View → Result Reply ActFault → Type 0
Acted start v input outputs w (Ok reply) = Adds start v input Stored outputs w
Acted start v input outputs w (Err fault) = Faulted start v input outputs w fault

abbrev pub answer_of : Result (Outcome × ℕ) TicketsSpent → ℕ → ℕ → Result Reply ActFault
answer_of (Ok (Stored, entry)) first end = Ok (record { first = first; count = end - first; entry = entry })
answer_of (Ok (Refused, _)) first end = Err StoreRefused
answer_of (Ok (Halted, _)) first end = Err ActHalted
answer_of (Err _) first end = Err Spent

-- The Sentinel and its store are those that a legal history leaves, which the seat has seen whole. Each answer that the seat got is the
-- configuration of some beginning of that history
abbrev pub IsLeftBy : {S : Type 0} → (S → Option (List ℕ)) → (S → ℕ) → World → View → Keeper S → Type 0
IsLeftBy text failures start v k =
    IsLegal start v.front × IsLeft text failures (replay start v.front) k × AreOf (stored_at start) v.answers v.front
