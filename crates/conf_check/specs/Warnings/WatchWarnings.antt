-- What is told of a file that is to be one for `watch`.
use Rattle.std.specs.Prelude.{ℕ, Bool, true, false, not, ◌&&◌, ◌==◌, nat_le, List, [], ◌∷◌, ◌++◌, length, fold, Option, Some, None, codes, decimal}
use Rattle.std.specs.List.{filter, flat_map, list_any}
use Rattle.sentinel_conf.specs.declared.watch.faults.WatchKind.TheVariants as watch
use Rattle.sentinel_conf.specs.declared.watch.settings.WatchSetting.{WatchSetting}
use Rattle.sentinel_conf.specs.declared.watch.settings.WatchSetting.TheVariants.{MaxClients, Timeout}
use Rattle.sentinel_conf.specs.declared.watch.settings.TheConstants.{CLIENTS_MAX, IDLE_SECONDS_MAX}
use Rattle.sentinel_conf.specs.declared.watch.settings.WatchLine.{WatchLine}
use Rattle.sentinel_conf.specs.declared.watch.settings.WatchLine.TheVariants.{Other, Says, Faulty}
use Rattle.sentinel_conf.specs.Watch.WatchLines.{watch_line}
use Rattle.conf_check.specs.declared.warnings.line_advices.Advice.{Advice}
use Rattle.conf_check.specs.declared.warnings.line_advices.AdviceKind.{AdviceKind}
use Rattle.conf_check.specs.declared.warnings.line_advices.AdviceKind.TheVariants.{UnknownDirective, NoEffect, QuorumOutOfReach, ShortDownAfter}
use Rattle.conf_check.specs.Warnings.Losses.{directive_of, loss_of}
use Rattle.conf_check.specs.Warnings.Warnings.{line_at, told_words}

-- the directive of a line, and what is told of it
abbrev pub named : (text words : List ℕ) → List ℕ
named text words = directive_of text ++ (codes ": " ++ words)

-- the most that counts between these words, where more is asked for
abbrev pub most_words : (asked most : ℕ) → (front end : List ℕ) → List ℕ
most_words asked most front end = elim (nat_le asked most) as (λ _. List ℕ) [ true ↦ [] | false ↦ front ++ (decimal most ++ end) ]

abbrev pub clients_words : (asked : ℕ) → List ℕ
clients_words asked = most_words asked CLIENTS_MAX (codes "maxclients: a port keeps ") (codes " connections of clients at most")

abbrev pub seconds_words : (asked : ℕ) → List ℕ
seconds_words asked = most_words asked IDLE_SECONDS_MAX (codes "timeout: it counts as ") (codes " seconds, the most")

-- a number that is more than counts
abbrev pub excess_words : WatchSetting → List ℕ
excess_words (MaxClients count) = clients_words count
excess_words (Timeout seconds) = seconds_words seconds
excess_words _ = []

abbrev pub loss_words : (text : List ℕ) → Option (List ℕ) → List ℕ
loss_words text None = []
loss_words text (Some words) = named text words

-- what is told of a directive that a Redis knows; `watch` itself tells which lines it refuses
abbrev pub known_words : (text : List ℕ) → WatchLine → List ℕ
known_words text Other = loss_words text (loss_of text)
known_words text (Says setting) = excess_words setting
known_words text (Faulty kind) = []

-- a line that `watch` refuses for another reason than that no Redis knows it
abbrev pub is_refused : WatchLine → Bool
is_refused (Faulty watch.UnknownDirective) = false
is_refused (Faulty kind) = true
is_refused _ = false

-- the words of the warning of this line, in a group of so many Sentinels; where there are none, nothing is told of it
abbrev pub watch_words : (first sentinel : List (List ℕ)) → (sentinels : ℕ) → (text : List ℕ) → AdviceKind → List ℕ
watch_words first sentinel sentinels text UnknownDirective = elim (is_refused (watch_line text)) as (λ _. List ℕ) [
  | true ↦ []
  | false ↦ told_words first sentinel sentinels text UnknownDirective
]
watch_words first sentinel sentinels text NoEffect = known_words text (watch_line text)
watch_words first sentinel sentinels text (QuorumOutOfReach quorum) = named text (told_words first sentinel sentinels text (QuorumOutOfReach quorum))
watch_words first sentinel sentinels text (ShortDownAfter ms) = named text (told_words first sentinel sentinels text (ShortDownAfter ms))

-- the line of a warning with these words
abbrev pub told_line : (path : List ℕ) → (number : ℕ) → (words : List ℕ) → List ℕ
told_line path number [] = []
told_line path number (b ∷ bs) = codes "warning: " ++ (path ++ (codes ":" ++ (decimal number ++ (codes ": " ++ ((b ∷ bs) ++ codes "\n")))))

abbrev pub watch_warning : (first sentinel : List (List ℕ)) → (sentinels : ℕ) → (path : List ℕ) → (texts : List (List ℕ)) → Advice → List ℕ
watch_warning first sentinel sentinels path texts advice =
    told_line path advice.line (watch_words first sentinel sentinels (line_at texts advice.line) advice.kind)

-- a directive that a Redis knows, by which nothing is set or lost
abbrev pub is_idle_line : (text : List ℕ) → WatchLine → Option (List ℕ) → Bool
is_idle_line text Other None = true
is_idle_line text _ _ = false

abbrev pub is_idle_kind : AdviceKind → Bool
is_idle_kind NoEffect = true
is_idle_kind _ = false

abbrev pub is_out_of_reach : AdviceKind → Bool
is_out_of_reach (QuorumOutOfReach quorum) = true
is_out_of_reach _ = false

abbrev pub is_idle : (texts : List (List ℕ)) → Advice → Bool
is_idle texts advice = elim (is_idle_kind advice.kind) as (λ _. Bool) [
  | true ↦ is_idle_line (line_at texts advice.line) (watch_line (line_at texts advice.line)) (loss_of (line_at texts advice.line))
  | false ↦ false
]

-- one piece more in a list of them, as 5 (dir), 6 (loglevel)
abbrev pub comma : List ℕ → List ℕ
comma [] = []
comma (b ∷ bs) = codes ", "

abbrev pub add_place : (texts : List (List ℕ)) → (text : List ℕ) → Advice → List ℕ
add_place texts text advice =
    text ++ (comma text ++ (decimal advice.line ++ (codes " (" ++ (directive_of (line_at texts advice.line) ++ codes ")"))))

abbrev pub places : (texts : List (List ℕ)) → List Advice → List ℕ
places texts idle = fold (add_place texts) [] idle

abbrev pub lines_have : ℕ → List ℕ
lines_have count = elim (count == 1) as (λ _. List ℕ) [ true ↦ codes " line has no effect here: " | false ↦ codes " lines have no effect here: " ]

-- one line for all lines without an effect
abbrev pub idle_note : (path : List ℕ) → (texts : List (List ℕ)) → List Advice → List ℕ
idle_note path texts [] = []
idle_note path texts (advice ∷ more) =
    codes "note: " ++ (path ++ (codes ": " ++ (decimal (length (advice ∷ more)) ++ (lines_have (length (advice ∷ more)) ++ (places texts (advice ∷ more) ++ codes "\n")))))

abbrev pub is_unelectable : Advice → Bool
is_unelectable advice = is_out_of_reach advice.kind

-- who is alone in its file elects itself, whoever else watches the same master; not where its quorum is out of reach
abbrev pub is_alone : (sentinels : ℕ) → List Advice → Bool
is_alone sentinels told = (sentinels == 1) && not (list_any is_unelectable told)

abbrev pub alone_words : (path : List ℕ) → List ℕ
alone_words path =
    codes "warning: "
    ++ (path
    ++ codes ": it names no other Sentinel, so this one elects itself: where others watch the same master, name each in all files by `sentinel known-sentinel`\n")

abbrev pub alone_warning : (path : List ℕ) → (sentinels : ℕ) → List Advice → List ℕ
alone_warning path sentinels told = elim (is_alone sentinels told) as (λ _. List ℕ) [ true ↦ alone_words path | false ↦ [] ]

-- that it is alone, a line for each warning, and then one for the lines without an effect
abbrev pub watch_warnings : (first sentinel : List (List ℕ)) → (sentinels : ℕ) → (path : List ℕ) → (texts : List (List ℕ)) → List Advice → List ℕ
watch_warnings first sentinel sentinels path texts told =
    alone_warning path sentinels told
    ++ (flat_map (watch_warning first sentinel sentinels path texts) told ++ idle_note path texts (filter (is_idle texts) told))
