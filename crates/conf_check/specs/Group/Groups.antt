-- When conf files are those of one group.
use Rattle.std.specs.Prelude.{◌≡◌, ℕ, ◌<◌, true, List, [], ◌∷◌, All, length}
use Rattle.std.specs.List.{list_any}
use Rattle.ballot_law.specs.Ballots.{StartAlike}
use Rattle.ballot_law.specs.Orders.{same_id}
use Rattle.ballot_law.specs.Rosters.{size, id_of}
use Rattle.sentinel_conf.specs.Meaning.{ConfPlan}

-- they have one roster, and each master begins with the same configuration in both
abbrev pub AreOfOneGroup : ConfPlan → ConfPlan → Type 0
AreOfOneGroup one other = (one.roster ≡ other.roster) × StartAlike one.kept other.kept

-- one of the files is that of the Sentinel at this place of the first one's roster
abbrev pub HasFileOf : {X : Type 0} → (X → ConfPlan) → ConfPlan → List X → (place : ℕ) → Type 0
HasFileOf conf_of first files place = list_any (λ file. same_id (id_of first.roster place) (conf_of file).id) files ≡ true

-- each of the files agrees with the first, and there are as many as Sentinels, one for each
pub record IsGroupOf {X : Type 0} (conf_of : X → ConfPlan) (first : ConfPlan) (files : List X) : Type 0 where
  pub alike : All (λ file. AreOfOneGroup first (conf_of file)) files
  pub count : length files ≡ size first.roster
  pub each : (place : ℕ) → place < size first.roster → HasFileOf conf_of first files place

-- the files, of which conf_of tells the meaning, are those of one group
abbrev pub IsOneGroup : {X : Type 0} → (X → ConfPlan) → List X → Type 0
IsOneGroup conf_of [] = ⊥
IsOneGroup conf_of (first ∷ files) = IsGroupOf conf_of (conf_of first) (first ∷ files)
