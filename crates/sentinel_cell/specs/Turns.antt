-- Seats that take turns by tickets, and one history of their calls.
-- Word 0 counts the turns that were served, and word 1 the tickets that were drawn. Word m + 2 has the configuration of master m.
-- The slot is out with the seat whose ticket is served.
use Rattle.std.specs.Prelude.{◌≡◌, ℕ, ◌+◌, ◌-◌, ◌/◌, ◌%◌, ◌<◌, ◌≤◌, ◌⊎◌, cond, max, List, [], ◌∷◌, ◌++◌, length, slice_index}
use Rattle.std.proofs.Common.{ltb}
use mathlib.Core.Option.{Option, none, some}
use lib.ListN.{get_elem?}
use Rattle.atomic_table.specs.Table.{State, Me, Step}
use Rattle.ballot_law.specs.declared.cards.Card.{Card}
use Rattle.ballot_law.specs.declared.addresses.Addr.{Addr}
use Rattle.sentinel_cell.specs.declared.entry.Entry.{Entry}
use Rattle.sentinel_cell.specs.declared.shared.TheConstants.{MOST_SEATS}
use Rattle.sentinel_cell.specs.declared.view.View.{View}
use Rattle.sentinel_cell.specs.declared.view.Stage.{Stage}
use Rattle.sentinel_cell.specs.declared.view.Stage.TheVariants.{Opening, Filling, Idle, Looked, Waiting, Serving}
use Rattle.sentinel_cell.specs.Calls.{Begins, Has, AreApart, calls_by, is_shorter, Answered, IsOfBeginning, AreOf}

abbrev pub total : (View → ℕ) → List View → ℕ
total f [] = 0
total f (v ∷ vs) = f v + total f vs

abbrev pub share_of : View → ℕ
share_of v = v.share

abbrev pub looks : Stage → ℕ
looks Looked = 1
looks _ = 0

abbrev pub looks_of : View → ℕ
looks_of v = looks v.stage

-- a configuration as one word has it: its epoch, and the place of its address in the master's list
abbrev pub unpacked : (at : ℕ → ℕ → Addr) → (m word : ℕ) → Card
unpacked at m n = record { epoch = n / 65536; addr = at m (n % 65536) }

-- what the ticket of a seat tells. `drawer` has the seat that drew each ticket. No seat of a table whose slot was filled opens or fills it
abbrev pub Queued : List Entry → List Entry → (ℕ → ℕ) → ℕ → ℕ → ℕ → ℕ → List Entry → List Entry → Stage → Type 0
Queued history flight drawer served next seat share front mine Opening = ⊥
Queued history flight drawer served next seat share front mine Filling = ⊥
Queued history flight drawer served next seat share front mine Idle = Unit {0}
Queued history flight drawer served next seat share front mine Looked = 0 < share
Queued history flight drawer served next seat share front mine (Waiting t) = (0 < share) × (drawer t ≡ seat) × (served ≤ t) × (t < next)
Queued history flight drawer served next seat share front mine (Serving t) = (0 < share) × (drawer t ≡ seat) × (t ≡ served) × (t < next) × (front ≡ history) × (mine ≡ flight)

-- The numbers below `given` were given out. Those below `seen` are all that the seat knows of: its own are among them, and so are
-- those of all calls in its front
pub record KnowsNumbers (given seen : ℕ) (numbers : List ℕ) (front : List Entry) : Type 0 where
  pub upto : seen ≤ given
  pub own : (n : ℕ) → Has n numbers → n < seen
  pub calls : (n : ℕ) → seen ≤ n → calls_by n front ≡ []

-- Each number below `given` was given out, and `owner` has the seat that has it now
abbrev pub Owned : (given : ℕ) → (owner : ℕ → ℕ) → List View → Type 0
Owned given owner views = (n : ℕ) → n < given → (v : View) × (get_elem? views (owner n) ≡ some v) × Has n v.numbers

-- what is always true of a seat. One with no part of the share has no number
pub record Knows (stored : List Entry → ℕ → Card) (history flight : List Entry) (given : ℕ) (owner drawer : ℕ → ℕ) (served next seat : ℕ) (v : View) : Type 0 where
  pub front : Begins v.front history
  pub told : Begins v.told v.front
  pub told_calls : (n : ℕ) → Has n v.told_numbers → calls_by n v.front ≡ calls_by n v.told
  pub mine : (n : ℕ) → Has n v.numbers → (n < given) × (owner n ≡ seat) × (calls_by n history ≡ calls_by n v.front)
  pub apart : AreApart v.numbers
  pub armed : (n : ℕ) → Has n v.numbers → 0 < v.share
  pub answers : (m : ℕ) (c : Card) → Answered m c v.answers → IsOfBeginning stored (history ++ flight) m c
  pub tickets : v.tickets ≤ next
  pub numbers : KnowsNumbers given v.given v.numbers v.front
  pub queued : Queued history flight drawer served next seat v.share v.front v.flight v.stage

module _ {C : Type 0} where
  abbrev pub AtHome : (List Entry → C → Type 0) → List Entry → List Entry → List (Option C) → Type 0
  AtHome Fits history flight homes = (c : C) × (homes ≡ some c ∷ []) × Fits history c × (flight ≡ [])

  abbrev pub Out : List (Option C) → List View → Type 0
  Out homes views = (homes ≡ none ∷ []) × ((j : ℕ) × (v : View) × (t : ℕ) × (get_elem? views j ≡ some v) × (v.stage ≡ Serving t))

-- There is one legal history, with the calls of numbers that were given out, each of which some seat has, and the slot fits it while it is at home. One
-- more entry may be announced, and the words have the configurations that are stored after it. Each turn that was served has added one entry
pub record Orderly {C : Type 0} (Legal : List Entry → Type 0) (stored : List Entry → ℕ → Card) (Fits : List Entry → C → Type 0) (at : ℕ → ℕ → Addr) (masters seats : ℕ)
    (s : State C View) : Type 0 where
  pub history : List Entry
  pub flight : List Entry
  pub given : ℕ
  pub owner : ℕ → ℕ
  pub drawer : ℕ → ℕ
  pub legal : Legal (history ++ flight)
  pub wide : length s.words ≡ masters + 2
  pub cards : (m : ℕ) → m < masters → unpacked at m (slice_index s.words (m + 2)) ≡ stored (history ++ flight) m
  pub counted : length history ≡ slice_index s.words 0
  pub ordered : slice_index s.words 0 ≤ slice_index s.words 1
  pub room : slice_index s.words 1 + total looks_of s.views ≤ 9223372036854775808 + seats
  pub shares : total share_of s.views ≡ seats
  pub numbered : (n : ℕ) → given ≤ n → calls_by n history ≡ []
  pub owned : Owned given owner s.views
  pub each : (j : ℕ) (v : View) → get_elem? s.views j ≡ some v → Knows stored history flight given owner drawer (slice_index s.words 0) (slice_index s.words 1) j v
  pub slot : AtHome Fits history flight s.homes ⊎ Out s.homes s.views

-- how views change

-- the first seat has number 0 and the whole share
abbrev pub first_view_at : Stage → ℕ → View
first_view_at stage seats = record { front = []; told = []; told_numbers = []; numbers = 0 ∷ []; given = 1; answers = []; share = seats; tickets = 0; stage = stage; flight = [] }

abbrev pub first_view : ℕ → View
first_view seats = first_view_at Idle seats

abbrev pub spent : View
spent = record { front = []; told = []; told_numbers = []; numbers = []; given = 0; answers = []; share = 0; tickets = 0; stage = Idle; flight = [] }

-- A new table: no ticket was drawn, the words have the configurations at the start, and the first seat is about to fill the slot
pub record IsNew {C : Type 0} (stored : List Entry → ℕ → Card) (empty : C) (at : ℕ → ℕ → Addr) (masters seats : ℕ) (s : State C View) : Type 0 where
  pub some_seats : 0 < seats
  pub wide : length s.words ≡ masters + 2
  pub none_served : slice_index s.words 0 ≡ 0
  pub none_drawn : slice_index s.words 1 ≡ 0
  pub cards : (m : ℕ) → m < masters → unpacked at m (slice_index s.words (m + 2)) ≡ stored [] m
  pub slot : ((s.homes ≡ some empty ∷ []) × (s.views ≡ first_view_at Opening seats ∷ [])) ⊎ ((s.homes ≡ none ∷ []) × (s.views ≡ first_view_at Filling seats ∷ []))

-- the rule of the table: it is new, or orderly
abbrev pub Ruled : {C : Type 0} → (List Entry → Type 0) → (List Entry → ℕ → Card) → (List Entry → C → Type 0) → C → (ℕ → ℕ → Addr) → ℕ → ℕ → State C View → Type 0
Ruled Legal stored Fits empty at masters seats s = IsNew stored empty at masters seats s ⊎ Orderly Legal stored Fits at masters seats s

abbrev pub looked : View → ℕ → View
looked v r = record v { tickets = r; stage = cond (ltb r 9223372036854775808) Looked Idle }

abbrev pub drawn : View → ℕ → View
drawn v t = record v { stage = Waiting t }

-- it sees the whole history, and how many numbers were given out
abbrev pub serving : View → ℕ → List Entry → ℕ → View
serving v t history given = record v { front = history; told = []; told_numbers = []; given = given; stage = Serving t; flight = [] }

-- the entry is announced
abbrev pub raised : View → Entry → View
raised v e = record v { flight = e ∷ [] }

abbrev pub passed : View → View
passed v = record v { front = v.front ++ v.flight; told = []; told_numbers = []; stage = Idle; flight = [] }

abbrev pub answered : View → ℕ → Card → View
answered v m c = record v { answers = v.answers ++ (m, c) ∷ [] }

-- it is given the next number
abbrev pub numbered : View → ℕ → View
numbered v n = record v { numbers = n ∷ v.numbers; given = n + 1 }

abbrev pub firsts : List ℕ → List ℕ
firsts [] = []
firsts (n ∷ ns) = n ∷ []

abbrev pub rests : List ℕ → List ℕ
rests [] = []
rests (n ∷ ns) = ns

-- the first seat keeps the greater half of the share, and the second takes the newest number
abbrev pub left_half : View → View
left_half v = record v { numbers = rests v.numbers; share = v.share - v.share / 2 }

abbrev pub right_half : View → View
right_half v = record {
  front = v.front;
  told = [];
  told_numbers = [];
  numbers = firsts v.numbers;
  given = v.given;
  answers = v.answers;
  share = v.share / 2;
  tickets =
      v.tickets;
  stage = Idle;
  flight = [];
}

abbrev pub merged : View → View → View
merged v w = record {
  front = cond (is_shorter v.front w.front) w.front v.front;
  told = cond (is_shorter v.front w.front) v.front w.front;
  told_numbers = cond (is_shorter v.front w.front) v.numbers w.numbers;
  numbers = v.numbers ++ w.numbers;
  given = max v.given w.given;
  answers = v.answers ++ w.answers;
  share = v.share + w.share;
  tickets = max v.tickets w.tickets;
  stage = Idle;
  flight = [];
}

-- what steps tell

-- no call of the view's numbers was made since its front, which begins the history
abbrev pub Follows : View → List Entry → Type 0
Follows v history = Begins v.front history × ((n : ℕ) → Has n v.numbers → calls_by n history ≡ calls_by n v.front)

abbrev pub IsFresh : (List Entry → Type 0) → (List Entry → ℕ → Card) → View → ℕ → Card → Type 0
IsFresh Legal stored v m card =
    (history : List Entry) × Legal history × Begins v.front history × (card ≡ stored history m)
    × ((stored v.front m).epoch ≤ card.epoch) × ((c : Card) → Answered m c v.answers → c.epoch ≤ card.epoch)

-- no call is of a number that the seat doesn't know to be given out
abbrev pub AreGiven : ℕ → List Entry → Type 0
AreGiven given front = (n : ℕ) → given ≤ n → calls_by n front ≡ []

module _ {C : Type 0} where
  -- the seat takes the empty slot of a new table
  abbrev pub Enters : C → Step C → Me C View → ℕ → Me C View → Type 0
  Enters empty st m r m' = (m'.0 ≡ record m.0 { stage = Filling }) × (m'.1 ≡ (0, empty) ∷ m.1)

  -- it gives the slot back, filled
  abbrev pub Fills : Step C → Me C View → ℕ → Me C View → Type 0
  Fills st m r m' = (m'.0 ≡ record m.0 { stage = Idle }) × (m'.1 ≡ [])

  abbrev pub Sits : Step C → Me C View → ℕ → Me C View → Type 0
  Sits st m r m' = (m'.0 ≡ looked m.0 r) × (m'.1 ≡ m.1)

  abbrev pub Draws : Step C → Me C View → ℕ → Me C View → Type 0
  Draws st m r m' = (m'.0 ≡ drawn m.0 r) × (m'.1 ≡ m.1)

  -- the turn comes where the served count is the ticket, which is then the number of entries before this turn
  abbrev pub Turns : (List Entry → Type 0) → (List Entry → C → Type 0) → Step C → Me C View → ℕ → Me C View → Type 0
  Turns Legal Fits st m r m' =
      (m.0.stage ≡ Waiting r → (history : List Entry) × (c : C) × ((given : ℕ) × (m'.0 ≡ serving m.0 r history given) × (m.0.given ≤ given)) × (m'.1 ≡ (0, c) ∷ m.1) ×
      Legal history × Fits history c × Follows m.0 history × (r ≡ length history))
      × (¬ (m.0.stage ≡ Waiting r) → m' ≡ m)

  abbrev pub Raises : Entry → Step C → Me C View → ℕ → Me C View → Type 0
  Raises e st m r m' = (m'.0 ≡ raised m.0 e) × (m'.1 ≡ m.1)

  -- each answer of the seat is the configuration of some beginning of its new front, whose calls are of numbers that it knows
  abbrev pub Passes : (List Entry → ℕ → Card) → Step C → Me C View → ℕ → Me C View → Type 0
  Passes stored st m r m' = (m'.0 ≡ passed m.0) × (m'.1 ≡ []) × AreOf stored m.0.answers m'.0.front × AreGiven m'.0.given m'.0.front

  -- the word of a master tells the configuration that is stored after a legal history, which begins with the front. No earlier answer has a later epoch
  abbrev pub Tells : (List Entry → Type 0) → (List Entry → ℕ → Card) → (ℕ → ℕ → Addr) → Step C → Me C View → ℕ → Me C View → Type 0
  Tells Legal stored at st m r m' =
      (n : ℕ) → st.word ≡ n + 2 → (m'.0 ≡ answered m.0 n (unpacked at n r)) × (m'.1 ≡ m.1) × IsFresh Legal stored m.0 n (unpacked at n r)

  abbrev pub Names : Step C → Me C View → ℕ → Me C View → Type 0
  Names st m r m' = (n : ℕ) × (m'.0 ≡ numbered m.0 n) × (m'.1 ≡ m.1) × (m.0.given ≤ n) × (¬ Has n m.0.numbers) × (calls_by n m.0.front ≡ [])

  abbrev pub Settles : Step C → Me C View → ℕ → Me C View → Type 0
  Settles st m r m' =
      (m' ≡ m) × (m.0.share ≤ MOST_SEATS) × Begins m.0.told m.0.front × ((n : ℕ) → Has n m.0.told_numbers → calls_by n m.0.front ≡ calls_by n m.0.told)
      × AreApart m.0.numbers
