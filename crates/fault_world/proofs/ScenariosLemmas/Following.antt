-- The steps of a text, one line after another.
use Rattle.std.proofs.Common.{◌≡◌, ℕ, ◌+◌, List, ◌∷◌, ◌++◌, Result, Ok, Err, refl, ap, sym, ◌∙◌, append_assoc}
use Rattle.ballot_law.specs.Results.{◌>>=◌}
use Rattle.ballot_law.specs.declared.steps.Step.{Step}
use Rattle.fault_world.specs.declared.scenarios.faults.ScenarioFault.{ScenarioFault}
use Rattle.fault_world.specs.declared.scenarios.faults.ScenarioKind.{ScenarioKind}
use Rattle.sentinel_rules.specs.declared.profiles.Profile.{Profile}
use Rattle.fault_world.specs.Scenarios.Scenarios.{at_line, behind, line_of, steps_from}

abbrev Told : Type 0
Told = Result (List Step) ScenarioFault

behind_both : (xs ys : List Step) (r : Told) → behind xs (behind ys r) ≡ behind (xs ++ ys) r
behind_both xs ys (Ok steps) = ap (λ t. let r : Told = Ok t in r) (sym (append_assoc xs ys steps))
behind_both xs ys (Err fault) = refl

-- what is told from a line on, by what the line tells
abbrev from_line : Profile → ℕ → List (List ℕ) → List Step → Result (List Step) ScenarioKind → Told
from_line profile n lines xs told = behind xs (at_line n told >>= λ steps. behind steps (steps_from profile (n + 1) lines))

pub one_more : (profile : Profile) (n : ℕ) (line : List ℕ) (lines : List (List ℕ)) (xs ys : List Step) → line_of profile line ≡ Ok ys →
    behind xs (steps_from profile n (line ∷ lines)) ≡ behind (xs ++ ys) (steps_from profile (n + 1) lines)
one_more profile n line lines xs ys told = ap (from_line profile n lines xs) told ∙ behind_both xs ys (steps_from profile (n + 1) lines)
