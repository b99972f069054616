-- Where runs start, and what holds of each.
use Rattle.std.specs.Prelude.{◌≡◌, ◌≢◌, ℕ, ◌<◌, ◌≤◌, ◌⊎◌, Contains, IfSome, Some, None, List, [], ◌++◌, All, length}
use Rattle.ballot_law.specs.declared.cards.Card.{Card}
use Rattle.ballot_law.specs.declared.cards.Kept.{Kept}
use Rattle.ballot_law.specs.declared.records.Election.{Election}
use Rattle.ballot_law.specs.declared.records.Advertisement.{Advertisement}
use Rattle.ballot_law.specs.declared.steps.Step.{Step}
use Rattle.ballot_law.specs.Rosters.{Roster, HasNode, size, HasDistinctIds}
use Rattle.ballot_law.specs.RosterFaults.{IsRoster}
use Rattle.ballot_law.specs.Messages.{Vote}
use Rattle.ballot_law.specs.Ballots.{kept_of, card_of, voted_of, StartAlike}
use Rattle.ballot_law.specs.Worlds.{World, Sentinel, Other, Ready, Stopped, sentinel_at, started, Move, Moves, Joined, JoinedBy, Run}

-- no epoch of a card or a vote is above the current one, and each card's address is in its master's list
pub record IsWellFormed (roster : Roster) (kept : Kept) : Type 0 where
  pub masters : length kept.masters ≡ length roster.masters
  pub cards : (m : ℕ) → m < length roster.masters → (card_of kept m).epoch ≤ kept.current
  pub votes : (m : ℕ) → m < length roster.masters → voted_of kept m ≤ kept.current
  pub addresses : (m : ℕ) → m < length roster.masters → HasNode roster m (card_of kept m).addr
  pub candidates : (m : ℕ) → m < length roster.masters → voted_of kept m ≡ 0 → (kept_of kept m).candidate ≡ None

-- the file of the voter holds the vote
pub record IsFiled (w : World) (v : Vote) : Type 0 where
  pub place : v.voter < length w.sentinels
  pub voted : voted_of (sentinel_at w v.voter).file v.master ≡ v.epoch
  pub candidate : (kept_of (sentinel_at w v.voter).file v.master).candidate ≡ Some v.candidate

-- ready or stopped, with nothing but its file
abbrev pub IsFresh : Roster → Sentinel → Type 0
IsFresh roster node =
    (node ≡ started roster node.file) ⊎ (node ≡ record (started roster node.file) { state = Stopped })

abbrev pub IsFreshOther : Other → Type 0
IsFreshOther node = ((node.state ≡ Ready) ⊎ (node.state ≡ Stopped)) × (node.held ≡ [])

-- the Sentinels of the roster, with well formed files of the same cards, and nothing else yet
pub record IsStart (roster : Roster) (w : World) : Type 0 where
  pub count : length w.sentinels ≡ size roster
  pub fresh : (i : ℕ) → i < size roster → IsFresh roster (sentinel_at w i)
  pub files : (i : ℕ) → i < size roster → IsWellFormed roster (sentinel_at w i).file
  pub same_cards : (i j : ℕ) → i < size roster → j < size roster → StartAlike (sentinel_at w i).file (sentinel_at w j).file
  pub stores : All IsFreshOther w.stores
  pub clients : All (λ client. IfSome client IsFreshOther) w.clients
  pub messages : w.messages ≡ []
  pub votes : (v : Vote) → Contains w.votes v → IsFiled w v
  pub all_votes : (v : Vote) → IsFiled w v → Contains w.votes v
  pub elected : w.elected ≡ []
  pub said : w.said ≡ []

-- at most one Sentinel is elected for a master in an epoch
abbrev pub HasOneLeader : List Election → Type 0
HasOneLeader elected =
    (i j m e : ℕ) → Contains elected (record { sentinel = i; master = m; epoch = e }) → Contains elected (record { sentinel = j; master = m; epoch = e }) → i ≡ j

-- cards of one master and one epoch that were shown have one address
abbrev pub HasOneAddress : List Advertisement → Type 0
HasOneAddress said =
    (i j m : ℕ) (c d : Card) → Contains said (record { sentinel = i; master = m; card = c }) → Contains said (record { sentinel = j; master = m; card = d }) → c.epoch ≡ d.epoch →
    c.addr ≡ d.addr

-- no file's epoch for a master falls
abbrev pub FallsNowhere : World → World → Type 0
FallsNowhere w w2 =
    (i m : ℕ) → (card_of (sentinel_at w i).file m).epoch ≤ (card_of (sentinel_at w2 i).file m).epoch

-- a ready Sentinel's cards are those of its file
abbrev pub IsReadyStored : World → Type 0
IsReadyStored w =
    (i m : ℕ) → (sentinel_at w i).state ≡ Ready → card_of (sentinel_at w i).parts.kept m ≡ card_of (sentinel_at w i).file m

-- what holds at each step of a run
abbrev pub IsSafeStep : World → World → Type 0
IsSafeStep w w2 = FallsNowhere w w2 × IsReadyStored w × IsReadyStored w2

abbrev pub OneLeader : Type 0
OneLeader =
    (roster : Roster) (start w : World) (moves : List Move) → HasDistinctIds roster → IsStart roster start → Joined roster moves start w → HasOneLeader w.elected

abbrev pub OneAddress : Type 0
OneAddress =
    (roster : Roster) (start w : World) (moves : List Move) → HasDistinctIds roster → IsStart roster start → Joined roster moves start w → HasOneAddress w.said

abbrev pub NeverFalls : Type 0
NeverFalls =
    (roster : Roster) (start w w2 : World) (moves : List Move) (move : Move) → HasDistinctIds roster → IsStart roster start → Joined roster moves start w →
    Moves roster move w w2 → IsSafeStep w w2

abbrev pub NeverFallsAlong : Type 0
NeverFallsAlong =
    (roster : Roster) (start w : World) (moves : List Move) → HasDistinctIds roster → IsStart roster start → Joined roster moves start w → JoinedBy IsSafeStep roster moves start w

-- a run and a run that goes on from its end are one run
abbrev pub RunsJoin : Type 0
RunsJoin =
    (roster : Roster) (start w last : World) (moves more : List Move) → Joined roster moves start w → Joined roster more w last → Joined roster (moves ++ more) start last

abbrev pub StepsJoin : Type 0
StepsJoin =
    (roster : Roster) (start w last : World) (steps more : List Step) → Run roster steps start w → Run roster more w last → Run roster (steps ++ more) start last

-- there is a roster, as `Roster::new` makes them, with a run in which a Sentinel is elected, and another Sentinel then shows the card of its choice
abbrev pub FailoverHappens : Type 0
FailoverHappens =
    (roster : Roster) × (start : World) × (w : World) × (steps : List Step) × (i : ℕ) × (j : ℕ) × (e : ℕ) × (card : Card) × IsRoster roster × IsStart roster start ×
    Run roster steps start w × Contains w.elected (record { sentinel = i; master = 0; epoch = e }) × Contains w.said (record { sentinel = j; master = 0; card = card }) ×
    (j ≢ i) × (card.epoch ≡ e) × (card.addr ≢ (card_of (sentinel_at start 0).file 0).addr)
