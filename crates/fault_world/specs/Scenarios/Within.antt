-- Which numbers stand in the steps of a scenario.
use Rattle.std.specs.Prelude.{◌<◌, ◌^◌}
use Rattle.ballot_law.specs.declared.events.Event.{Event}
use Rattle.ballot_law.specs.declared.events.Event.TheVariants.{Tick, Command, Become}
use Rattle.ballot_law.specs.declared.steps.Step.{Step}
use Rattle.ballot_law.specs.declared.steps.Step.TheVariants.{Take}
use Rattle.ballot_law.specs.Limits.{IsWithin}
use Rattle.fault_world.specs.declared.scenarios.told.Told.{Told}
use Rattle.fault_world.specs.declared.scenarios.told.Told.TheVariants.{Nothing, One, Two}

-- a line has a node take a tick, a command whose epoch is within the limit, or a change whose numbers an INFO can show
abbrev pub IsTold : Event → Type 0
IsTold (Tick master random) = Unit {0}
IsTold (Command sender command) = IsWithin command
IsTold (Become priority offset link_down) = (priority < 2 ^ 63) × (offset < 2 ^ 63) × (link_down < 2 ^ 63)
IsTold _ = ⊥

abbrev pub IsWithinStep : Step → Type 0
IsWithinStep (Take node input) = IsTold input.event
IsWithinStep step = Unit {0}

abbrev pub IsWithinTold : Told → Type 0
IsWithinTold Nothing = Unit {0}
IsWithinTold (One step) = IsWithinStep step
IsWithinTold (Two first second) = IsWithinStep first × IsWithinStep second
