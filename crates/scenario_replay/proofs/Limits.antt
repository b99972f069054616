-- The steps of a scenario are such as a world runs.
use Rattle.std.proofs.Common.{List, Result, Ok, Err, IfOk}
use Rattle.std.specs.Prelude.{All}
use Rattle.ballot_law.specs.declared.steps.Step.{Step}
use Rattle.fault_world.specs.Scenarios.Within.{IsWithinStep}
use Rattle.fault_world.specs.Limits.{IsWithinLimits, ScenariosAreWithin}

pub limits_of : {V E : Type 0} (items : V → List Step) (read : Result V E) → ScenariosAreWithin → IfOk read (λ steps. All IsWithinStep (items steps)) →
    IfOk read (λ steps. All IsWithinLimits (items steps))
limits_of items (Ok steps) law within = law (items steps) within
limits_of items (Err fault) law within = tt
