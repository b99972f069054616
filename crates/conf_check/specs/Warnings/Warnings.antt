-- What is told of a file, as lines of text.
use Rattle.std.specs.Prelude.{ℕ, ◌-◌, Bool, true, false, List, [], ◌++◌, Option, Some, None, codes, decimal, slice_index_or}
use Rattle.std.specs.List.{flat_map}
use Rattle.sentinel_conf.specs.declared.watch.faults.WatchKind.{WatchKind}
use Rattle.sentinel_conf.specs.declared.watch.faults.WatchKind.TheVariants as watch
use Rattle.sentinel_conf.specs.declared.watch.settings.WatchSetting.{WatchSetting}
use Rattle.sentinel_conf.specs.declared.watch.settings.WatchSetting.TheVariants.{Timeout, DefaultUser, Reboot}
use Rattle.sentinel_conf.specs.declared.watch.settings.WatchLine.{WatchLine}
use Rattle.sentinel_conf.specs.declared.watch.settings.WatchLine.TheVariants.{Other, Says, Faulty}
use Rattle.sentinel_conf.specs.Watch.WatchLines.{watch_line}
use Rattle.conf_check.specs.declared.warnings.line_advices.Advice.{Advice}
use Rattle.conf_check.specs.declared.warnings.line_advices.AdviceKind.{AdviceKind}
use Rattle.conf_check.specs.declared.warnings.line_advices.AdviceKind.TheVariants.{UnknownDirective, NoEffect, QuorumOutOfReach, ShortDownAfter}
use Rattle.conf_check.specs.declared.warnings.line_advices.TheConstants.{DOWN_AFTER_MIN}
use Rattle.conf_check.specs.Warnings.Advices.{advices, nearest_directive}

-- the line with this number, the first being 1
abbrev pub line_at : (texts : List (List ℕ)) → (number : ℕ) → List ℕ
line_at texts number = slice_index_or texts (number - 1) []

-- the nearest directive that a Redis knows, where one is near
abbrev pub nearest_words : Option (List ℕ) → List ℕ
nearest_words None = []
nearest_words (Some name) = codes "; the nearest is " ++ name

-- what a group in one process tells of what `watch` reads and refuses is as it was before that was more
abbrev pub tells_setting : WatchSetting → Bool
tells_setting (Timeout seconds) = false
tells_setting (DefaultUser digits) = false
tells_setting (Reboot name ms) = false
tells_setting _ = true

abbrev pub tells_refusal : WatchKind → Bool
tells_refusal watch.BadDirective = true
tells_refusal watch.BadName = true
tells_refusal watch.BadNumber = true
tells_refusal watch.BadBind = true
tells_refusal watch.BadYesNo = true
tells_refusal watch.BadQuotes = true
tells_refusal watch.NamesOfHosts = true
tells_refusal _ = false

-- what is told of a line that has no effect but on `watch`
abbrev pub effect_words : WatchLine → List ℕ
effect_words Other = codes "this directive has no effect here"
effect_words (Says setting) = elim (tells_setting setting) as (λ _. List ℕ) [
  | true ↦ codes "this directive counts for `watch` alone"
  | false ↦ codes "this directive has no effect here"
]
effect_words (Faulty kind) = elim (tells_refusal kind) as (λ _. List ℕ) [
  | true ↦ codes "`watch` refuses this line"
  | false ↦ codes "this directive has no effect here"
]

-- what is told of this line, in a group of so many Sentinels
abbrev pub told_words : (first sentinel : List (List ℕ)) → (sentinels : ℕ) → (text : List ℕ) → AdviceKind → List ℕ
told_words first sentinel sentinels text UnknownDirective =
    codes "no Redis knows this directive, and it has no effect" ++ nearest_words (nearest_directive first sentinel text)
told_words first sentinel sentinels text NoEffect = effect_words (watch_line text)
told_words first sentinel sentinels text (QuorumOutOfReach quorum) =
    codes "the quorum is " ++ (decimal quorum ++ (codes " and there are " ++ (decimal sentinels ++ codes " Sentinels: no failover ever begins")))
told_words first sentinel sentinels text (ShortDownAfter ms) =
    codes "after " ++ (decimal ms
    ++ (codes " ms a node that is well can count as down, and be failed over; from " ++ (decimal DOWN_AFTER_MIN ++ codes " or more")))

abbrev pub warning : (first sentinel : List (List ℕ)) → (sentinels : ℕ) → (path : List ℕ) → (texts : List (List ℕ)) → Advice → List ℕ
warning first sentinel sentinels path texts advice =
    codes "warning: " ++ (path ++ (codes ":" ++ (decimal advice.line
    ++ (codes ": " ++ (told_words first sentinel sentinels (line_at texts advice.line) advice.kind ++ codes "\n")))))

-- a line for each thing that is told of the file
abbrev pub warnings : (first sentinel : List (List ℕ)) → (sentinels : ℕ) → (path : List ℕ) → (texts : List (List ℕ)) → List ℕ
warnings first sentinel sentinels path texts = flat_map (warning first sentinel sentinels path texts) (advices first sentinel sentinels texts)
