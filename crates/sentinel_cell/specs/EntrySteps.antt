-- What an entry of a history is to the model of the whole group.
use Rattle.std.specs.Prelude.{◌≡◌, ◌≢◌, ℕ, ◌<◌, ◌⊎◌, false, cond, Some, List, [], ◌∷◌, ◌++◌, length, slice_get}
use Rattle.ballot_law.specs.declared.cards.Kept.{Kept}
use Rattle.ballot_law.specs.declared.events.Input.{Input}
use Rattle.ballot_law.specs.declared.messages.Message.{Message}
use Rattle.ballot_law.specs.declared.messages.Output.{Output}
use Rattle.ballot_law.specs.declared.messages.NodeName.TheVariants.{SentinelAt}
use Rattle.ballot_law.specs.declared.steps.KeptText.{KeptText}
use Rattle.ballot_law.specs.declared.steps.KeptText.TheVariants.{Old, New}
use Rattle.ballot_law.specs.declared.steps.Step.{Step}
use Rattle.ballot_law.specs.declared.steps.Step.TheVariants.{Take, Deliver, Store, StoreRefused, Release, Answer}
use Rattle.ballot_law.specs.Ballots.{card_of}
use Rattle.ballot_law.specs.Messages.{sent, advertised_by, Delivers, IsFor}
use Rattle.ballot_law.specs.Rosters.{Roster}
use Rattle.ballot_law.specs.Worlds.{World as Group, Ready, Stored as IsStored, Halted as IsHalted, sentinel_at, said_by, elected_by, IsFree, Run, Steps}
use Rattle.sentinel_rules.specs.Plans.{roster_of, master_count}
use Rattle.sentinel_rules.specs.Steps.{IsPartsOf, wins_of}
use Rattle.sentinel_cell.specs.declared.entry.Entry.{Entry}
use Rattle.sentinel_cell.specs.declared.entry.Outcome.{Outcome}
use Rattle.sentinel_cell.specs.declared.entry.Outcome.TheVariants.{Stored, Refused, Halted}
use Rattle.sentinel_cell.specs.Histories.{World, IsLegal, after, replay}

-- In the model Sentinel i is as this world says: ready, or halted where its store refused; with these parts; while it is ready its file
-- holds what was stored last; and its list of what was stored ends in that
pub record IsAsLeft (i : ℕ) (v : World) (group : Group) : Type 0 where
  pub inside : i < length group.sentinels
  pub state : (sentinel_at group i).state ≡ cond v.halted IsHalted Ready
  pub file : v.halted ≡ false → (sentinel_at group i).file ≡ v.stored
  pub parts : IsPartsOf v.core (sentinel_at group i).parts
  pub cards : (before : List Kept) × ((sentinel_at group i).stored ≡ before ++ v.stored ∷ [])

-- the step has Sentinel i take this input: a free one, or what a message to it becomes
abbrev pub Brings : (i : ℕ) → Input → Group → Step → Type 0
Brings i input group first =
    ((first ≡ Take (SentinelAt i) input) × IsFree input.event)
    ⊎ ((k : ℕ) × (message : Message) × (first ≡ Deliver k input.now) × (slice_get group.messages k ≡ Some message) × (message.target ≡ SentinelAt i) ×
    IsFor message.target message.body × Delivers message input.event)

-- Between a store and its release: Sentinel i has stored what this world says, and holds these outputs
pub record IsStoredAt (i : ℕ) (v : World) (outputs : List Output) (group : Group) : Type 0 where
  pub inside : i < length group.sentinels
  pub state : (sentinel_at group i).state ≡ IsStored
  pub file : (sentinel_at group i).file ≡ v.stored
  pub parts : IsPartsOf v.core (sentinel_at group i).parts
  pub held : (sentinel_at group i).held ≡ outputs
  pub cards : (before : List Kept) × ((sentinel_at group i).stored ≡ before ++ v.stored ∷ [])

-- the group where Sentinel i has told a client what is stored of a master
abbrev pub told : (i m : ℕ) → Kept → Group → Group
told i m kept group = record group { said = group.said ++ (record { sentinel = i; master = m; card = card_of kept m }) ∷ [] }

-- the outputs were sent, and what they and the notes among them show was said
abbrev pub IsSent : Roster → (i : ℕ) → List Output → Group → Group → Type 0
IsSent roster i outputs group last =
    (last.messages ≡ group.messages ++ sent outputs) × (last.said ≡ group.said ++ said_by i (advertised_by roster outputs))

-- nothing was sent and nothing said
abbrev pub IsSilent : Group → Group → Type 0
IsSilent group last = (last.messages ≡ group.messages) × (last.said ≡ group.said)

-- of all nodes only Sentinel i moved
pub record MovesAlone (i : ℕ) (group last : Group) : Type 0 where
  pub count : length last.sentinels ≡ length group.sentinels
  pub others : (j : ℕ) → j ≢ i → sentinel_at last j ≡ sentinel_at group j
  pub stores : last.stores ≡ group.stores
  pub clients : last.clients ≡ group.clients

-- what a file holds after a refused store: what it held, or the new text
abbrev pub kept_left : KeptText → (old new : Kept) → Kept
kept_left Old old new = old
kept_left New old new = new

-- A stored entry is a take, a store and a release of its outputs, a refused one a take and a refused store that leaves either text, and a
-- halted one is no step. Only the release sends and says something; a win of a stored entry is an election
abbrev pub IsDone : Roster → (i : ℕ) → Group → Step → KeptText → World → Entry → Outcome → Type 0
IsDone roster i group first left v e Stored =
    (last : Group) × Run roster (first ∷ Store (SentinelAt i) ∷ Release (SentinelAt i) ∷ []) group last × IsAsLeft i (after v e) last
    × IsSent roster i e.outputs group last × MovesAlone i group last × (last.elected ≡ group.elected ++ elected_by i (wins_of (after v e).core.won))
    × ((mid : Group) × Run roster (first ∷ Store (SentinelAt i) ∷ []) group mid × Steps roster (Release (SentinelAt i)) mid last
    × IsStoredAt i (after v e) e.outputs mid × IsSilent group mid)
IsDone roster i group first left v e Refused =
    (last : Group) × Run roster (first ∷ StoreRefused (SentinelAt i) left ∷ []) group last × IsAsLeft i (after v e) last
    × IsSilent group last × MovesAlone i group last × (last.elected ≡ group.elected)
    × ((sentinel_at last i).file ≡ kept_left left (sentinel_at group i).file (after v e).core.kept)
IsDone roster i group first left v e Halted = IsAsLeft i (after v e) group

-- an entry that prolongs a legal history
abbrev pub EntryIsSteps : Type 0
EntryIsSteps =
    (start : World) (history : List Entry) (e : Entry) (group : Group) (first : Step) (left : KeptText) →
    IsLegal start (history ++ e ∷ []) →
    IsAsLeft start.plan.place (replay start history) group →
    Brings start.plan.place e.input group first →
    IsDone (roster_of start.plan) start.plan.place group first left (replay start history) e e.outcome

-- a question that is answered then shows what is stored
abbrev pub AnswerShowsStored : Type 0
AnswerShowsStored =
    (start : World) (history : List Entry) (group : Group) (m : ℕ) →
    IsAsLeft start.plan.place (replay start history) group →
    m < master_count start.plan →
    Steps (roster_of start.plan) (Answer (SentinelAt start.plan.place) m) group (told start.plan.place m (replay start history).stored group)

-- so does one that is answered between a store and its release, which leaves the release as it was
abbrev pub StoredIsAnswered : Type 0
StoredIsAnswered =
    (roster : Roster) (i : ℕ) (v : World) (outputs : List Output) (group : Group) (m : ℕ) →
    IsStoredAt i v outputs group →
    m < length roster.masters →
    Steps roster (Answer (SentinelAt i) m) group (told i m v.stored group) × IsStoredAt i v outputs (told i m v.stored group)

-- a release sends what is held, and leaves the Sentinel ready
abbrev pub StoredIsReleased : Type 0
StoredIsReleased =
    (roster : Roster) (i : ℕ) (v : World) (outputs : List Output) (group : Group) →
    v.halted ≡ false →
    IsStoredAt i v outputs group →
    (last : Group) × Steps roster (Release (SentinelAt i)) group last × IsAsLeft i v last × IsSent roster i outputs group last
