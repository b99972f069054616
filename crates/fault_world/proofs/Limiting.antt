-- Which numbers stand in steps.
use Rattle.std.proofs.Common.{List, get_or}
use Rattle.std.specs.Prelude.{All}
use Rattle.ballot_law.specs.declared.events.Event.{Event}
use Rattle.ballot_law.specs.declared.events.Event.TheVariants.{Tick, Command, Answered, Pinged, InfoRead, HelloRead, Disconnected, Refused, Become, Handed}
use Rattle.ballot_law.specs.declared.steps.Step.{Step}
use Rattle.ballot_law.specs.declared.steps.Step.TheVariants.{Take, Deliver, Store, StoreRefused, Release, Stop, Start, Answer}
use Rattle.ballot_law.specs.Worlds.{IsFree}
use Rattle.boxed_nodes.specs.Sendable.{IsTakeable}
use Rattle.fault_world.specs.Scenarios.Within.{IsTold, IsWithinStep}
use Rattle.fault_world.specs.Limits.{IsWithinInput, IsWithinLimits}

told_within : (event : Event) → IsTold event → IsWithinInput event
told_within (Tick master random) told = tt
told_within (Command sender command) told = told
told_within (Answered voter master addr down leader epoch) told = absurd told
told_within (Pinged node reply) told = absurd told
told_within (InfoRead node text) told = absurd told
told_within (HelloRead text) told = absurd told
told_within (Refused node) told = absurd told
told_within (Disconnected node) told = absurd told
told_within (Become priority offset link_down) told = told
told_within (Handed message) told = absurd told

step_within : (step : Step) → IsWithinStep step → IsWithinLimits step
step_within (Take node input) within = told_within input.event within
step_within (Deliver message now) within = tt
step_within (Store node) within = tt
step_within (StoreRefused node left) within = tt
step_within (Release node) within = tt
step_within (Stop node left) within = tt
step_within (Start node now) within = tt
step_within (Answer node master) within = tt

pub scenarios_are_within : (steps : List Step) → All IsWithinStep steps → All IsWithinLimits steps
scenarios_are_within steps all k d less = step_within (get_or steps k d) (all k d less)

-- an input that no message has to bring may be taken
pub free_takeable : (event : Event) → IsFree event → IsWithinInput event → IsTakeable event
free_takeable (Tick master random) free within = tt
free_takeable (Command sender command) free within = within
free_takeable (Answered voter master addr down leader epoch) free within = absurd free
free_takeable (Pinged node reply) free within = tt
free_takeable (InfoRead node text) free within = tt
free_takeable (HelloRead text) free within = absurd free
free_takeable (Refused node) free within = tt
free_takeable (Disconnected node) free within = tt
free_takeable (Become priority offset link_down) free within = within
free_takeable (Handed message) free within = absurd free
