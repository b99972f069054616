-- What the text of a played story tells.
use Rattle.std.specs.Prelude.{◌≡◌, ℕ, List, map, Ok}
use Rattle.ballot_law.specs.declared.steps.Step.{Step}
use Rattle.ballot_law.specs.Rosters.{Roster, HasDistinctIds}
use Rattle.ballot_law.specs.Worlds.{World, StepOf, JoinedBy}
use Rattle.ballot_law.specs.Cuts.{lines}
use Rattle.ballot_law.specs.Law.{HasOneLeader, HasOneAddress, IsSafeStep, IsStart}
use Rattle.sentinel_rules.specs.declared.profiles.Profile.{Profile}
use Rattle.fault_world.specs.Scenarios.Scenarios.{scenario, steps_from}
use Rattle.fault_world.specs.declared.entry.Entry.{Entry}
use Rattle.fault_world.specs.Told.{report_text}
use Rattle.fault_world.specs.Runs.{Ran}
use Rattle.fault_world.specs.Laws.{HasRun}
use Rattle.scenario_replay.specs.Files.{AreHeld}

-- the story's steps are a run of the model of the roster's group, from a start at which the Sentinels hold what these files say, and the text
-- has a line for each election and advertisement of the roster's Sentinels and masters that the run brought, in order, and no other. In that
-- run at most one Sentinel is elected for a master in an epoch, two advertisements of a master with one epoch have one address, and at no step
-- falls the epoch of a master's configuration in a Sentinel's file
pub record IsTold (profile : Profile) (roster : Roster) (files : List (List ℕ)) (story text : List ℕ) : Type 0 where
  pub steps : List Step
  pub read : scenario profile story ≡ Ok steps
  pub distinct : HasDistinctIds roster
  pub first : World
  pub begins : IsStart roster first
  pub held : AreHeld files roster first
  pub news : List Entry
  pub last : World
  pub ran : Ran roster steps first news last
  pub text_is : text ≡ report_text news
  pub one_leader : HasOneLeader last.elected
  pub one_address : HasOneAddress last.said
  pub never_falls : JoinedBy IsSafeStep roster (map StepOf steps) first last

-- the steps of the story's lines, run line by line, are one run from a start, after which the group stands for its last world
pub record IsTraced (profile : Profile) (roster : Roster) (story : List ℕ) (shown : World → Type 0) : Type 0 where
  pub steps : List Step
  pub read : steps_from profile 1 (lines story) ≡ Ok steps
  pub start : World
  pub entries : List Entry
  pub run : HasRun roster start steps entries shown
