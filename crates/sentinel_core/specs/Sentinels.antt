-- A Sentinel as its callers see it.
use Rattle.std.specs.Prelude.{◌≡◌, ◌<◌, ℕ, Bool, true, false, length, Option, IfSome}
use Rattle.ballot_law.specs.declared.cards.Kept.{Kept}
use Rattle.ballot_law.specs.declared.commands.Command.TheVariants.{FlushConfig}
use Rattle.ballot_law.specs.declared.events.Event.{Event}
use Rattle.ballot_law.specs.declared.events.Event.TheVariants.{Command as Commanded, Tick, Answered, Pinged, InfoRead, HelloRead, Disconnected, Refused, Become, Handed}
use Rattle.sentinel_rules.specs.Plans.{Plan}
use Rattle.sentinel_rules.specs.States.{Core}
use Rattle.sentinel_rules.specs.Changes.{IsAhead}
use Rattle.sentinel_rules.specs.Facts.{IsSoundPlan, IsSound}
use Rattle.sentinel_outbox.specs.declared.phase.Phase.{Phase}
use Rattle.sentinel_outbox.specs.declared.phase.Phase.TheVariants.{Ready, Pending, Stored, Halted, Stopped}

-- what doesn't change, what is taken, what is stored, how far the last input has come, and the master whose configuration it changed
pub record Whole : Type 0 where
  pub plan : Plan
  pub core : Core
  pub stored : Kept
  pub phase : Phase
  pub change : Option ℕ

-- an input was taken and isn't released yet
abbrev pub is_busy : Phase → Bool
is_busy Ready = false
is_busy (Pending must_store) = true
is_busy Stored = true
is_busy Halted = false
is_busy Stopped = false

abbrev pub is_pending : Phase → Bool
is_pending Ready = false
is_pending (Pending must_store) = true
is_pending Stored = false
is_pending Halted = false
is_pending Stopped = false

-- what is taken is stored
abbrev pub IsSettled : Phase → Core → Kept → Type 0
IsSettled Ready core stored = core.kept ≡ stored
IsSettled Stored core stored = core.kept ≡ stored
IsSettled phase core stored = Unit {0}

abbrev pub is_command : Event → Bool
is_command (Commanded sender command) = true
is_command (Tick m random) = false
is_command (Answered voter m addr down leader epoch) = false
is_command (Pinged node reply) = false
is_command (InfoRead node text) = false
is_command (HelloRead text) = false
is_command (Disconnected node) = false
is_command (Refused node) = false
is_command (Become priority offset link_down) = false
is_command (Handed message) = false

-- the command FLUSHCONFIG has the file written though nothing changed
abbrev pub is_flush : Event → Bool
is_flush (Commanded sender FlushConfig) = true
is_flush event = false

-- what is known of each Sentinel
pub record IsWhole (whole : Whole) : Type 0 where
  pub plan : IsSoundPlan whole.plan
  pub core : IsSound whole.plan whole.core
  pub stored : length whole.stored.masters ≡ length whole.core.kept.masters
  pub settled : IsSettled whole.phase whole.core whole.stored
  pub ahead : IsAhead whole.core
  pub changed : IfSome whole.change (λ m. m < length whole.core.kept.masters)
