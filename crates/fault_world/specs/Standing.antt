-- The world of the model for which the members of a group stand.
use Rattle.std.specs.Prelude.{◌≡◌, ℕ, Some, List, length, slice_get}
use Rattle.std.specs.List.{AllByRecursion}
use Rattle.ballot_law.specs.declared.messages.Message.{Message}
use Rattle.ballot_law.specs.declared.messages.NodeName.{NodeName}
use Rattle.ballot_law.specs.declared.steps.Step.{Step}
use Rattle.ballot_law.specs.Rosters.{Roster, size, HasDistinctIds, HasDistinctNames}
use Rattle.ballot_law.specs.Worlds.{World, IsNode, Run}
use Rattle.ballot_law.specs.Law.{IsStart}
use Rattle.boxed_nodes.specs.Images.{Image, image_at}
use Rattle.boxed_nodes.specs.Sendable.{IsSendable}

-- the members of a roster's group, each with its name and the images that it stands for, and these messages stand for a world: it has
-- the roster's Sentinels, its nodes are the members, each once, and each member stands for its image there; the messages are all that
-- were released, and each may be sent; no two masters have one name
pub record IsShown {M : Type 0} (name : M → NodeName) (seat : M → Roster → Image → Type 0) (roster : Roster) (members : List M) (messages : List Message) (w : World) : Type 0 where
  pub each : (k : ℕ) (m : M) → slice_get members k ≡ Some m → IsNode w (name m) × seat m roster (image_at w (name m))
  pub apart : (j k : ℕ) (m n : M) → slice_get members j ≡ Some m → slice_get members k ≡ Some n → name m ≡ name n → j ≡ k
  pub all : (node : NodeName) → IsNode w node → (k : ℕ) × (m : M) × (slice_get members k ≡ Some m) × (name m ≡ node)
  pub sentinels : length w.sentinels ≡ size roster
  pub names : HasDistinctNames roster
  pub messages_are : w.messages ≡ messages
  pub sendable : AllByRecursion IsSendable messages

-- some steps lead from a start to the world, in the group of a roster whose Sentinels have different run ids
pub record IsReached (roster : Roster) (w : World) : Type 0 where
  pub distinct : HasDistinctIds roster
  pub start : World
  pub begins : IsStart roster start
  pub steps : List Step
  pub run : Run roster steps start w

-- the group stands for a start of the model: nothing was sent, elected or said
pub record Begins (roster : Roster) (shown : World → Type 0) : Type 0 where
  pub world : World
  pub begins : IsStart roster world
  pub shows : shown world

-- the group stands for a world that was reached
pub record Stands (roster : Roster) (shown : World → Type 0) : Type 0 where
  pub world : World
  pub reached : IsReached roster world
  pub shows : shown world
