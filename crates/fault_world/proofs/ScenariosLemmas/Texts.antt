-- What is read of bytes that are a text, and of bytes that are none.
use Rattle.std.proofs.Common.{◌≡◌, ℕ, Bool, true, false, List, Err, refl, ap}
use Rattle.std.specs.Prelude.{Result, if◌then◌else◌}
use Rattle.std.specs.Str.{is_utf8, IsUtf8}
use Rattle.std.proofs.lemmas.Str.{IsUtf8-from_is_utf8, is_utf8-from_IsUtf8}
use Rattle.ballot_law.specs.Cuts.{lines}
use Rattle.ballot_law.specs.declared.steps.Step.{Step}
use Rattle.fault_world.specs.declared.scenarios.faults.ScenarioFault.{ScenarioFault}
use Rattle.fault_world.specs.declared.scenarios.faults.ScenarioKind.TheVariants.{NotUtf8}
use Rattle.sentinel_rules.specs.declared.profiles.Profile.{Profile}
use Rattle.fault_world.specs.Scenarios.Scenarios.{fault_at, scenario, steps_from}

abbrev read_if : Profile → List ℕ → Bool → Result (List Step) ScenarioFault
read_if profile text test = if test then steps_from profile 1 (lines text) else Err (fault_at 0 NotUtf8)

no_text : (text : List ℕ) → ¬ (IsUtf8 text) → (test : Bool) → is_utf8 text ≡ test → test ≡ false
no_text text h true e = absurd (h (IsUtf8-from_is_utf8 text e))
no_text text h false e = refl

pub of_text : (profile : Profile) (text : List ℕ) → IsUtf8 text → scenario profile text ≡ steps_from profile 1 (lines text)
of_text profile text u = ap (read_if profile text) (is_utf8-from_IsUtf8 text u)

pub of_no_text : (profile : Profile) (text : List ℕ) → ¬ (IsUtf8 text) → scenario profile text ≡ Err (fault_at 0 NotUtf8)
of_no_text profile text h = ap (read_if profile text) (no_text text h (is_utf8 text) refl)
