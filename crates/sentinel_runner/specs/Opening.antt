-- At which world a Sentinel's history begins that a conf opened, and what its store holds then.
use Rattle.std.specs.Prelude.{◌≡◌, ◌<◌, ℕ, false, List, map, Option, IfSome}
use Rattle.ballot_law.specs.Rosters.{Roster, MasterPlan}
use Rattle.sentinel_cell.specs.Histories.{World}
use Rattle.sentinel_conf.specs.Meaning.{ConfPlan, last}
use Rattle.sentinel_conf.specs.Rewritten.{rewritten}
use Rattle.sentinel_conf.specs.Watch.WatchLines.{reboot_of}
use Rattle.sentinel_conf.specs.declared.watch.settings.WatchSetting.{WatchSetting}
use Rattle.sentinel_rules.specs.declared.profiles.Profile.{Profile}
use Rattle.sentinel_rules.specs.Plans.{group_size, me}
use Rattle.sentinel_rules.specs.States.{opened}

-- for how many milliseconds this master may load its data after a restart, as the lines of a file say it: 0, as without a line, is for ever
abbrev pub reboot_in : List WatchSetting → MasterPlan → ℕ
reboot_in settings master = last (reboot_of master.name) 0 settings

-- and each master of a roster, in its order
abbrev pub reboots_in : List WatchSetting → Roster → List ℕ
reboots_in settings roster = map (reboot_in settings) roster.masters

-- It is the Sentinel of this conf and profile, in its place, whose masters may load their data for so long, as it is opened at this reading of the clock: it has stored
-- what the conf keeps, took no input yet, and its store holds this text, where that is known
pub record IsOpenedBy (conf : ConfPlan) (profile : Profile) (reboots : List ℕ) (now : ℕ) (text : Option (List ℕ)) (start : World) : Type 0 where
  pub conf_is : start.plan.conf ≡ conf
  pub profile_is : start.plan.profile ≡ profile
  pub reboots_are : start.plan.reboots ≡ reboots
  pub within : start.plan.place < group_size start.plan
  pub own_place : me start.plan ≡ conf.id
  pub core_is : start.core ≡ opened start.plan now
  pub stored_is : start.stored ≡ conf.kept
  pub ready : start.halted ≡ false
  pub text_is : start.text ≡ text

-- so it is with the text in its store that the conf means
pub record IsOpenedAnew (conf : ConfPlan) (profile : Profile) (reboots : List ℕ) (now : ℕ) (start : World) : Type 0 where
  pub text : Option (List ℕ)
  pub opens : IsOpenedBy conf profile reboots now text start
  pub written : IfSome text (λ bytes. bytes ≡ rewritten conf conf.kept)
