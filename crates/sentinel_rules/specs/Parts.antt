-- What an input puts out, and how its parts follow one another.
use Rattle.std.specs.Prelude.{ℕ, ◌+◌, Bool, Some, None, List, [], ◌∷◌, ◌++◌, slice_index_or, if◌then◌else◌}
use Rattle.ballot_law.specs.declared.cards.Shown.{Shown}
use Rattle.ballot_law.specs.declared.messages.Body.{Body}
use Rattle.ballot_law.specs.declared.messages.Body.TheVariants.{Ask, Ping, InfoAsk, Publish, ReplicaOf, HandOver}
use Rattle.ballot_law.specs.declared.messages.NodeName.{NodeName}
use Rattle.ballot_law.specs.declared.messages.NodeName.TheVariants.{SentinelAt}
use Rattle.ballot_law.specs.declared.messages.Output.{Output}
use Rattle.ballot_law.specs.declared.messages.Output.TheVariants.{Send, Tell}
use Rattle.ballot_law.specs.declared.replies.Hello.{Hello}
use Rattle.ballot_law.specs.Ballots.{card_of}
use Rattle.ballot_law.specs.Rosters.{master_at, no_member}
use Rattle.sentinel_rules.specs.declared.frames.Frame.{Frame}
use Rattle.sentinel_rules.specs.declared.frames.Frame.TheVariants.{PingTo, InfoTo, HelloTo, AskTo, PromoteTo, HandOverTo, FollowTo, NoteOf}
use Rattle.sentinel_rules.specs.Plans.{Plan, roster_of, me}
use Rattle.sentinel_rules.specs.States.{Core}

-- Outputs

-- a message of this Sentinel
abbrev pub send : Plan → (target : NodeName) → Body → Output
send plan target body = Send (record { sender = SentinelAt plan.place; target = target; body = body })

abbrev pub shown_of : Core → (m : ℕ) → Shown
shown_of core m = record { master = m; card = card_of core.kept m }

-- the own address, run id and current epoch, and the configuration of a master
abbrev pub hello_of_master : Plan → Core → (m : ℕ) → Hello
hello_of_master plan core m =
    record {
      addr = (slice_index_or (roster_of plan).sentinels plan.place no_member).addr;
      id = me plan;
      current = core.kept.current;
      master = (master_at (roster_of plan) m).name;
      card = card_of core.kept m;
    }

-- the output, which shows what is kept at the end of the input
abbrev pub output_of : Plan → Core → Frame → Output
output_of plan core (PingTo target) = send plan target Ping
output_of plan core (InfoTo target) = send plan target InfoAsk
output_of plan core (HelloTo target m) = send plan target (Publish (hello_of_master plan core m))
output_of plan core (AskTo place m candidate) =
    send plan (SentinelAt place) (Ask m (card_of core.kept m).addr core.kept.current candidate)
output_of plan core (PromoteTo target) = send plan target (ReplicaOf None)
output_of plan core (HandOverTo target heir) = send plan target (HandOver heir)
output_of plan core (FollowTo target m) = send plan target (ReplicaOf (Some (card_of core.kept m).addr))
output_of plan core (NoteOf m old) = Tell (record { master = m; old = old; card = card_of core.kept m })

-- Parts of an input

pub record Part : Type 0 where
  pub core : Core
  pub frames : List Frame

abbrev pub quiet : Core → Part
quiet core = record { core = core; frames = [] }

abbrev pub puts : Core → List Frame → Part
puts core frames = record { core = core; frames = frames }

-- one part, and then another
abbrev pub then_part : Part → (Core → Part) → Part
then_part first part = let after = part first.core in record { core = after.core; frames = first.frames ++ after.frames }

abbrev pub part_if : Bool → Core → (Core → Part) → Part
part_if test core part = if test then part core else quiet core

-- the frame, where the test holds
abbrev pub frame_if : Bool → Frame → List Frame
frame_if test frame = if test then frame ∷ [] else []

-- each item changed by its place, from this place on
abbrev pub changed_from : {X : Type 0} → (ℕ → X → X) → (place : ℕ) → List X → List X
changed_from change place [] = []
changed_from change place (x ∷ xs) = change place x ∷ changed_from change (place + 1) xs

-- the frames of each item by its place, from this place on
abbrev pub frames_from : {X : Type 0} → (ℕ → X → List Frame) → (place : ℕ) → List X → List Frame
frames_from frames place [] = []
frames_from frames place (x ∷ xs) = frames place x ++ frames_from frames (place + 1) xs
