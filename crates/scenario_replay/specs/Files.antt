-- What the Sentinels of a story begin with: what their files hold.
use Rattle.std.specs.Prelude.{◌≡◌, ℕ, ◌<◌, Some, Ok, List, [], ◌∷◌, slice_get}
use Rattle.ballot_law.specs.declared.messages.NodeName.{NodeName}
use Rattle.ballot_law.specs.declared.messages.NodeName.TheVariants.{SentinelAt}
use Rattle.ballot_law.specs.Rosters.{Roster, size, id_of}
use Rattle.ballot_law.specs.Worlds.{World, Sentinel, sentinel_at}
use Rattle.boxed_nodes.specs.Images.{Image, OfSentinel}
use Rattle.boxed_nodes.specs.Moves.{Shows}
use Rattle.fault_world.specs.Laws.{HasBegun}
use Rattle.sentinel_conf.specs.Meaning.{ConfPlan}
use Rattle.sentinel_conf.specs.Reading.{conf_of_bytes}

-- Sentinel i of the roster is the one with the run id that the file of these bytes tells, and holds what they say
pub record HoldsFile (bytes : List ℕ) (roster : Roster) (i : ℕ) (s : Sentinel) : Type 0 where
  pub place : i < size roster
  pub conf : ConfPlan
  pub read : conf_of_bytes bytes ≡ Ok conf
  pub own : id_of roster i ≡ conf.id
  pub holds : s.file ≡ conf.kept

-- each of these files is held by the Sentinel with its run id
abbrev pub AreHeld : List (List ℕ) → Roster → World → Type 0
AreHeld files roster w =
    (k : ℕ) (bytes : List ℕ) → slice_get files k ≡ Some bytes → (i : ℕ) × HoldsFile bytes roster i (sentinel_at w i)

-- the group has begun with each of these files held, and nothing was run
pub record HasBegunWith (files : List (List ℕ)) (roster : Roster) (shown : World → Type 0) : Type 0 where
  pub begun : HasBegun roster shown
  pub held : AreHeld files roster begun.0

-- Nodes that begin with files

abbrev pub IsOfFile : List ℕ → Roster → NodeName → Image → Type 0
IsOfFile bytes roster (SentinelAt i) (OfSentinel s) = HoldsFile bytes roster i s
IsOfFile bytes roster name image = ⊥

-- the node is a Sentinel that begins with the file of these bytes, whichever roster's group it is in
pub record BeginsWith (bytes : List ℕ) (name : NodeName) (shows : Shows) : Type 0 where
  pub each : (roster : Roster) (image : Image) → shows roster image → IsOfFile bytes roster name image

abbrev pub AreOfFiles : {N : Type 0} → (name : N → NodeName) → (shows : N → Shows) → List (List ℕ) → List N → Type 0
AreOfFiles name shows [] nodes = Unit {0}
AreOfFiles name shows (file ∷ files) [] = ⊥
AreOfFiles name shows (file ∷ files) (n ∷ nodes) = BeginsWith file (name n) (shows n) × AreOfFiles name shows files nodes

-- the first nodes begin with these files, in their order
pub record AreFirst {N : Type 0} (name : N → NodeName) (shows : N → Shows) (files : List (List ℕ)) (nodes : List N) : Type 0 where
  pub are : AreOfFiles name shows files nodes
