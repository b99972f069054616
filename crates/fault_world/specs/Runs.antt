-- A run of the model with what its steps add to the elections and to what was said.
use Rattle.std.specs.Prelude.{◌≡◌, ◌≢◌, Option, Some, List, [], ◌∷◌, ◌++◌, slice_get}
use Rattle.std.specs.Option.{option_map}
use Rattle.ballot_law.specs.declared.messages.NodeName.{NodeName}
use Rattle.ballot_law.specs.declared.records.Election.{Election}
use Rattle.ballot_law.specs.declared.records.Advertisement.{Advertisement}
use Rattle.ballot_law.specs.declared.steps.Step.{Step}
use Rattle.ballot_law.specs.declared.steps.Step.TheVariants.{Take, Deliver, Store, StoreRefused, Release, Stop, Start, Answer}
use Rattle.ballot_law.specs.declared.steps.KeptText.TheVariants.{Old, New}
use Rattle.ballot_law.specs.Rosters.{Roster}
use Rattle.ballot_law.specs.Worlds.{World, Steps}
use Rattle.boxed_nodes.specs.declared.calls.HowStored.{HowStored}
use Rattle.boxed_nodes.specs.declared.calls.HowStored.TheVariants as how
use Rattle.boxed_nodes.specs.Images.{image_at}
use Rattle.fault_world.specs.declared.entry.Entry.{Entry}
use Rattle.fault_world.specs.News.{news_of}

-- the one node that a step may move: the one that it names, or the target of its message
abbrev pub mover_of : World → Step → Option NodeName
mover_of w (Take node input) = Some node
mover_of w (Deliver message now) = option_map (λ m. m.target) (slice_get w.messages message)
mover_of w (Store node) = Some node
mover_of w (StoreRefused node left) = Some node
mover_of w (Release node) = Some node
mover_of w (Stop node left) = Some node
mover_of w (Start node now) = Some node
mover_of w (Answer node master) = Some node

-- no other node moves
abbrev pub IsStill : Option NodeName → World → World → Type 0
IsStill mover w w2 = (node : NodeName) → Some node ≢ mover → image_at w2 node ≡ image_at w node

-- a step of the model that moves one node at most, with the news of what it adds
pub record Stepped (roster : Roster) (step : Step) (w : World) (news : List Entry) (w2 : World) : Type 0 where
  pub steps : Steps roster step w w2
  pub still : IsStill (mover_of w step) w w2
  pub elected : List Election
  pub said : List Advertisement
  pub elected_are : w2.elected ≡ w.elected ++ elected
  pub said_are : w2.said ≡ w.said ++ said
  pub news_are : news ≡ news_of roster elected said

-- the steps lead from the first world to the last, and this is the news of all of them, in the order of the steps
abbrev pub Ran : Roster → List Step → World → List Entry → World → Type 0
Ran roster [] w news last = (w ≡ last) × (news ≡ [])
Ran roster (step ∷ steps) w news last =
    (w2 : World) × (first : List Entry) × (rest : List Entry) × Stepped roster step w first w2 × Ran roster steps w2 rest last × (news ≡ first ++ rest)

-- the steps lead from a world to one for which the group then stands
pub record RunsTo (roster : Roster) (steps : List Step) (w : World) (news : List Entry) (shown : World → Type 0) : Type 0 where
  pub last : World
  pub ran : Ran roster steps w news last
  pub shows : shown last

-- the same, where the news joins the entries before
pub record RunsOn (roster : Roster) (steps : List Step) (w : World) (before after : List Entry) (shown : World → Type 0) : Type 0 where
  pub news : List Entry
  pub joins : after ≡ before ++ news
  pub runs : RunsTo roster steps w news shown

-- What a call does to the group, for each world that it stood for

-- it stands for what it stood for
abbrev pub Keeps : (old new : World → Type 0) → Type 0
Keeps old new = (w : World) → old w → new w

-- the steps lead to a world for which it then stands, with no news
abbrev pub Leads : Roster → List Step → (old new : World → Type 0) → Type 0
Leads roster steps old new = (w : World) → old w → RunsTo roster steps w [] new

-- the same, and the news joins the entries before
abbrev pub Tells : Roster → List Step → (before after : List Entry) → (old new : World → Type 0) → Type 0
Tells roster steps before after old new = (w : World) → old w → RunsOn roster steps w before after new

-- how a step names a store
abbrev pub stored_by : NodeName → HowStored → Step
stored_by node how.Done = Store node
stored_by node how.RefusedOld = StoreRefused node Old
stored_by node how.RefusedNew = StoreRefused node New
