-- What an Outbox holds, and the room that it has for more.
use Rattle.std.specs.Prelude.{◌≡◌, ℕ, ◌+◌, ◌≤◌, List, [], length}
use Rattle.ballot_law.specs.declared.messages.NodeName.{NodeName}
use Rattle.ballot_law.specs.declared.messages.NodeName.TheVariants.{SentinelAt}
use Rattle.ballot_law.specs.declared.messages.Output.{Output}
use Rattle.ballot_law.specs.declared.messages.Output.TheVariants.{Send, Tell}
use Rattle.ballot_law.specs.declared.messages.TheConstants.{OUTPUTS_MAX, ANSWER_MAX, SHOWN_MAX}
use Rattle.sentinel_outbox.specs.declared.room.Room.{Room}

-- the room for one answer of the port that isn't in use: bytes of its text, configurations that it shows
pub record SpareRoom : Type 0 where
  pub text : ℕ
  pub list : ℕ

-- the outputs that are shown, and those that are held back; how many may be held in all, how many more may be shown, and the
-- room for one answer: bytes of its text, configurations that it shows
pub record Outputs : Type 0 where
  pub shown : List Output
  pub held : List Output
  pub held_room : ℕ
  pub shown_room : ℕ
  pub text_room : ℕ
  pub list_room : ℕ

-- room for so many outputs more, first held and then shown, and for one answer
pub record HasRoom (outbox : Outputs) (room : Room) : Type 0 where
  pub held : length outbox.held + room.outputs ≤ outbox.held_room
  pub shown : length outbox.held + room.outputs ≤ outbox.shown_room
  pub text : room.text ≤ outbox.text_room
  pub list : room.shown ≤ outbox.list_room

-- nothing is held, and there is room for all outputs of one input
pub record Fits (outbox : Outputs) (room : Room) : Type 0 where
  pub none_held : outbox.held ≡ []
  pub has_room : HasRoom outbox room

-- no room of the later one is less than that of the earlier one
pub record KeepsRoom (earlier later : Outputs) : Type 0 where
  pub held : earlier.held_room ≤ later.held_room
  pub shown : earlier.shown_room ≤ later.shown_room
  pub text : earlier.text_room ≤ later.text_room
  pub list : earlier.list_room ≤ later.list_room

-- enough room for the outputs of any one input of a Sentinel
abbrev pub room_of_sentinel : Room
room_of_sentinel = record { outputs = OUTPUTS_MAX; text = ANSWER_MAX; shown = SHOWN_MAX }

-- a data node, a client or a port
abbrev pub IsOtherNode : NodeName → Type 0
IsOtherNode (SentinelAt place) = ⊥
IsOtherNode name = Unit {0}

-- a message of a node that isn't a Sentinel
abbrev pub IsOfOther : Output → Type 0
IsOfOther (Send message) = IsOtherNode message.sender
IsOfOther (Tell note) = ⊥
