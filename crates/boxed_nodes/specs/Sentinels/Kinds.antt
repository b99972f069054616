-- What a Sentinel in memory stands for.
use Rattle.std.specs.Prelude.{◌≡◌, ◌≢◌, ℕ, ◌<◌, ◌≤◌, Bool, true, false, Option, IfSome, List, [], ◌∷◌, ◌++◌, Ok, length}
use Rattle.ballot_law.specs.declared.cards.Kept.{Kept}
use Rattle.ballot_law.specs.declared.cards.TheConstants.{MAX_EPOCH}
use Rattle.ballot_law.specs.declared.records.Win.{Win}
use Rattle.ballot_law.specs.Rosters.{Roster}
use Rattle.ballot_law.specs.Worlds.{Sentinel, State, Ready, Pending, Stored, Halted, Stopped}
use Rattle.sentinel_conf.specs.Reading.{conf_of_bytes}
use Rattle.sentinel_rules.specs.Plans.{roster_of}
use Rattle.sentinel_rules.specs.Steps.{IsPartsOf}
use Rattle.sentinel_core.specs.Sentinels.{Whole, IsWhole}
use Rattle.sentinel_outbox.specs.declared.phase.Phase.{Phase}
use Rattle.sentinel_outbox.specs.declared.phase.Phase.TheVariants as phase
use Rattle.boxed_nodes.specs.Images.{Image, OfSentinel, OfOther}

abbrev pub state_in : Phase → State
state_in phase.Ready = Ready
state_in (phase.Pending must_store) = Pending
state_in phase.Stored = Stored
state_in phase.Halted = Halted
state_in phase.Stopped = Stopped

-- whether it has a store that hasn't failed yet
abbrev pub is_running : Phase → Bool
is_running phase.Ready = true
is_running (phase.Pending must_store) = true
is_running phase.Stored = true
is_running phase.Halted = false
is_running phase.Stopped = false

-- of a pending Sentinel: what there is to store; where there is nothing, all that is kept is stored
abbrev pub IsPendingAs : Phase → Whole → Sentinel → Type 0
IsPendingAs (phase.Pending must_store) whole s = (s.must_store ≡ must_store) × (must_store ≡ false → whole.core.kept ≡ whole.stored)
IsPendingAs phase whole s = Unit {0}

-- an election is of a master of the roster, and its epoch is within the limit
abbrev pub IsWinOf : Roster → Option Win → Type 0
IsWinOf roster won = IfSome won (λ win. (win.master < length roster.masters) × (win.epoch ≤ MAX_EPOCH))

-- the Sentinel of the model for which one in memory stands, with the text of its file
pub record IsSentinelImage (whole : Whole) (text : List ℕ) (roster : Roster) (s : Sentinel) : Type 0 where
  pub whole_ok : IsWhole whole
  pub has_roster : roster_of whole.plan ≡ roster
  pub state_is : s.state ≡ state_in whole.phase
  pub read : conf_of_bytes text ≡ Ok (record whole.plan.conf { kept = s.file })
  pub file_is : is_running whole.phase ≡ true → s.file ≡ whole.stored
  pub before : List Kept
  pub stored_is : whole.phase ≢ phase.Stopped → s.stored ≡ before ++ whole.stored ∷ []
  pub parts_of : IsPartsOf whole.core s.parts
  pub won : IsWinOf roster whole.core.won
  pub pending : IsPendingAs whole.phase whole s

abbrev pub IsImageOf : Whole → List ℕ → Roster → Image → Type 0
IsImageOf whole text roster (OfSentinel s) = IsSentinelImage whole text roster s
IsImageOf whole text roster (OfOther o) = ⊥
