-- What a connection's bytes tell.
use Rattle.std.specs.Prelude.{ℕ, List, ◌∷◌, ◌++◌}
use Rattle.ballot_law.specs.declared.events.Event.{Event}
use Rattle.ballot_law.specs.declared.messages.Message.{Message}
use Rattle.links.specs.declared.sessions.questions.Question.{Question}
use Rattle.links.specs.declared.target.Target.{Target}
use Rattle.links.specs.NodeLinks.{IsHeardOn}
use Rattle.links.specs.Sessions.Links.{Tells}
use Rattle.resp2.specs.Long.LongValues.{LongParts}
use Rattle.resp2.specs.Framing.Frame.{Frame}
use Rattle.tcp_transport.specs.Said.{Speaks}

-- the first values of what came on a connection answer what was asked there, in their order, and tell these events
pub record AreTold (target : Target) (asked : List Question) (got : List ℕ) (events : List Event) : Type 0 where
  pub values : List Frame
  pub rest : List ℕ
  pub parts : LongParts got values rest
  pub left : List Question
  pub tells : Tells target.node target.listens asked values events left

-- On one connection to this node's address these bytes were put out since it was opened, and these came: they tell this event, as said by that node, for what was asked of it
-- there. Nothing was put out but what may be said to that node
pub record IsTold (said : Message → Type 0) (target : Target) (put got : List ℕ) (event : Event) : Type 0 where
  pub asked : List Question
  pub unsent : List ℕ
  pub speaks : Speaks said target (put ++ unsent) asked
  pub before : List Event
  pub after : List Event
  pub told : AreTold target asked got (before ++ event ∷ after)

-- what may be heard on a connection to this target, and the Sentinel may be told
abbrev pub IsToldOn : (told : Event → Type 0) → Target → Event → Type 0
IsToldOn told target event = IsHeardOn target event × ∥ told event ∥₁
