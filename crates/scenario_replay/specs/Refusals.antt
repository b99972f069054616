-- Why the bytes of a file are refused.
use Rattle.std.specs.Prelude.{◌≡◌, ◌⊎◌, ℕ, List, Err}
use Rattle.conf_lines.specs.Faults as conf_faults
use Rattle.conf_lines.specs.declared.faults.ConfFault.{ConfFault}
use Rattle.fault_world.specs.Scenarios.Scenarios as scenario_faults
use Rattle.fault_world.specs.declared.scenarios.faults.ScenarioFault.{ScenarioFault}
use Rattle.sentinel_rules.specs.declared.profiles.Profile.{Profile}
use Rattle.sentinel_conf.specs.Reading.{conf_of_bytes}

-- a growth was refused, or it is the first fault of a scenario
abbrev pub IsScenarioFault : Profile → List ℕ → ScenarioFault → Type 0
IsScenarioFault profile text fault = (fault ≡ scenario_faults.no_memory) ⊎ (scenario_faults.scenario profile text ≡ Err fault)

-- a growth was refused, or it is the first fault of a conf file
abbrev pub IsConfFault : List ℕ → ConfFault → Type 0
IsConfFault file fault = (fault ≡ conf_faults.no_memory) ⊎ (conf_of_bytes file ≡ Err fault)
