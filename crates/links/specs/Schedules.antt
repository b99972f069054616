-- The times of a connection.
use Rattle.std.specs.Prelude.{ℕ, ◌≤◌, ◌-◌, ◌+◌, ◌*◌, ◌^◌, nat_lt, Bool, true, false, min, max, List, [], ◌∷◌, Option, Some, None, if◌then◌else◌}
use Rattle.links.specs.declared.sessions.questions.Question.{Question}
use Rattle.links.specs.declared.schedule.Schedule.{Schedule}
use Rattle.links.specs.declared.schedule.Stage.TheVariants.{Closed, Opening}
use Rattle.links.specs.declared.times.TheConstants.{PAUSE_MIN_MS, PAUSE_MAX_MS, SILENT_MS, LONG_MS, LONG_BYTES}

-- there is no such time, or it is so long ago
abbrev pub IsPast : (period : ℕ) → Option ℕ → (now : ℕ) → Type 0
IsPast period None now = Unit {0}
IsPast period (Some at) now = period ≤ now - at

-- it is being opened from now on
abbrev pub begun : ℕ → Schedule → Schedule
begun now times = record times { stage = Opening; since = now; quiet = now; came = 0 }

-- it is closed from now on; the pause is twice as long as the last one, within its limits
abbrev pub closed : ℕ → Schedule → Schedule
closed now times = record times { stage = Closed; since = now; pause = min (max (2 * times.pause) PAUSE_MIN_MS) PAUSE_MAX_MS }

-- a message is asked beside these questions: where none waits, what was silent so far counts no more
abbrev pub excused : ℕ → List Question → Schedule → Schedule
excused now [] times = record times { quiet = now; came = 0 }
excused now (question ∷ more) times = times

-- how long an answer may take of which so many bytes came
abbrev pub patience : (came : ℕ) → ℕ
patience came = if nat_lt LONG_BYTES came then LONG_MS else SILENT_MS

-- a piece of so many bytes came: where a whole answer came with it, the silence ends
abbrev pub after_piece : (answers : Bool) → (now count : ℕ) → Schedule → Schedule
after_piece true now count times = record times { quiet = now; came = 0; pause = 0 }
after_piece false now count times = record times { came = min (times.came + count) (2 ^ 64 - 1) }
