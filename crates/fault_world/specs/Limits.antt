-- Which numbers may stand in the steps of a run.
use Rattle.std.specs.Prelude.{◌<◌, ◌^◌, List, All}
use Rattle.ballot_law.specs.declared.events.Event.{Event}
use Rattle.ballot_law.specs.declared.events.Event.TheVariants.{Become}
use Rattle.ballot_law.specs.declared.steps.Step.{Step}
use Rattle.ballot_law.specs.declared.steps.Step.TheVariants.{Take}
use Rattle.fault_world.specs.Scenarios.Within.{IsWithinStep}
use Rattle.ballot_law.specs.Limits.{IsWithinEvent}

-- the epoch of a command is within the limit, and an INFO can show the numbers of a change; of any other input nothing is asked
abbrev pub IsWithinInput : Event → Type 0
IsWithinInput (Become priority offset link_down) = (priority < 2 ^ 63) × (offset < 2 ^ 63) × (link_down < 2 ^ 63)
IsWithinInput event = IsWithinEvent event

abbrev pub IsWithinLimits : Step → Type 0
IsWithinLimits (Take node input) = IsWithinInput input.event
IsWithinLimits step = Unit {0}

-- so are the numbers of each step that a scenario's line tells
abbrev pub ScenariosAreWithin : Type 0
ScenariosAreWithin = (steps : List Step) → All IsWithinStep steps → All IsWithinLimits steps
