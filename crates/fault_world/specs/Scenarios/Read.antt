-- How far a reader of words has come, and what it makes of a line.
use Rattle.std.specs.Prelude.{ℕ, List, [], ◌∷◌, Option, Result, Ok, Err}
use Rattle.std.specs.Borrow.{Bor}
use Rattle.std.specs.Option.{option_map_or}
use Rattle.ballot_law.specs.declared.steps.Step.{Step}
use Rattle.fault_world.specs.declared.scenarios.faults.ScenarioKind.{ScenarioKind}
use Rattle.fault_world.specs.declared.scenarios.told.Told.{Told}
use Rattle.fault_world.specs.declared.scenarios.told.Told.TheVariants.{Nothing, One, Two}
use Rattle.fault_world.specs.Scenarios.Scenarios.{words}

-- the words of what is left of a line
abbrev pub words_left : Option (Bor (List ℕ)) → List (List ℕ)
words_left rest = option_map_or (λ text. words text.now) rest []

abbrev pub steps_of : Told → List Step
steps_of Nothing = []
steps_of (One step) = step ∷ []
steps_of (Two first second) = first ∷ second ∷ []

abbrev pub told_line : Result Told ScenarioKind → Result (List Step) ScenarioKind
told_line (Ok told) = Ok (steps_of told)
told_line (Err kind) = Err kind
