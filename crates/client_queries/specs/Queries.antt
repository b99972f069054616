-- A client's way to the address of a master: what it does next, by what came of what it did.
use Rattle.std.specs.Prelude.{ℕ, ◌+◌, ◌<◌, ◌≤◌, Bool, true, false, nat_lt, List, ◌++◌, length, take, drop, Option, Some, None, if◌then◌else◌}
use Rattle.ballot_law.specs.declared.addresses.Addr.{Addr}
use Rattle.ballot_law.specs.declared.rosters.TheConstants.{SENTINELS_MAX}
use Rattle.client_queries.specs.declared.moves.Move.{Move}
use Rattle.client_queries.specs.declared.moves.Move.TheVariants.{Ask, Connect, CheckRole, Wait, NoSentinel, Done}

-- the Sentinels in the order in which they are asked, and the next move
pub record Query : Type 0 where
  pub sentinels : List Addr
  pub next : Move

-- what came of a move
pub data Outcome : Type 0 where
  -- the Sentinel gave the master's address, or none
  Answered : Option Addr → Outcome
  Connected : Outcome
  -- no connection, or no answer
  Failed : Outcome
  RoleWas : (is_master : Bool) → Outcome
  Waited : Outcome

abbrev pub query : List Addr → Move → Query
query sentinels next = record { sentinels = sentinels; next = next }

-- the one at this place goes to the front, the others keep their order
abbrev pub to_front : ℕ → List Addr → List Addr
to_front place sentinels = take 1 (drop place sentinels) ++ (take place sentinels ++ drop (place + 1) sentinels)

-- the move after a Sentinel that gave no address: the next one is asked, while there is one
abbrev pub ask_after : ℕ → List Addr → Move
ask_after place sentinels = if nat_lt (place + 1) (length sentinels) then Ask (place + 1) else NoSentinel

-- the table: the query after a move and what came of it, or none where that can't come of this move
abbrev pub table : List Addr → Move → Outcome → Option Query
table sentinels (Ask place) (Answered (Some master)) = Some (query (to_front place sentinels) (Connect master))
table sentinels (Ask place) (Answered None) = Some (query sentinels (ask_after place sentinels))
table sentinels (Ask place) Failed = Some (query sentinels (ask_after place sentinels))
table sentinels (Connect master) Connected = Some (query sentinels (CheckRole master))
table sentinels (Connect master) Failed = Some (query sentinels Wait)
table sentinels (CheckRole master) (RoleWas true) = Some (query sentinels (Done master))
table sentinels (CheckRole master) (RoleWas false) = Some (query sentinels Wait)
table sentinels (CheckRole master) Failed = Some (query sentinels Wait)
table sentinels Wait Waited = Some (query sentinels (Ask 0))
table sentinels NoSentinel Waited = Some (query sentinels (Ask 0))
table sentinels _ _ = None

abbrev pub after : Outcome → Query → Option Query
after outcome q = table q.sentinels q.next outcome

abbrev pub IsListed : List Addr → Move → Type 0
IsListed sentinels (Ask place) = place < length sentinels
IsListed sentinels _ = Unit {0}

-- the list has 1 to 64 Sentinels, and the one that is asked next is one of them
abbrev pub IsSound : Query → Type 0
IsSound q = (0 < length q.sentinels) × (length q.sentinels ≤ SENTINELS_MAX) × IsListed q.sentinels q.next
