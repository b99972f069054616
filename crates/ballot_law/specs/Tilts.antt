-- Whether a Sentinel's clock is to be trusted, by the readings at its turns. The latest reading stands first, the opening's last.
use Rattle.std.specs.Prelude.{◌≡◌, ℕ, ◌+◌, Bool, false, ◌||◌, nat_lt, Option, Some, None, List, [], ◌∷◌, if◌then◌else◌}
use Rattle.std.specs.List.{list_all}
use Rattle.ballot_law.specs.declared.periods.TheConstants.{STEP_MS, TILT_MS}

-- the reading is below that of the turn before, or more than 2,000 ms above it
abbrev pub is_jump : (before now : ℕ) → Bool
is_jump before now = nat_lt now before || nat_lt (before + STEP_MS) now

-- the reading of the last jump
abbrev pub last_jump : List ℕ → Option ℕ
last_jump [] = None
last_jump (opened ∷ []) = None
last_jump (now ∷ before ∷ earlier) = if is_jump before now then Some now else last_jump (before ∷ earlier)

-- the readings after the last jump
abbrev pub after_jump : List ℕ → List ℕ
after_jump [] = []
after_jump (opened ∷ []) = []
after_jump (now ∷ before ∷ earlier) = if is_jump before now then [] else now ∷ after_jump (before ∷ earlier)

-- no later reading is 30,000 ms or more above that of the jump
abbrev pub lasts : Option ℕ → (later : List ℕ) → Bool
lasts None later = false
lasts (Some jump) later = list_all (λ reading. nat_lt reading (jump + TILT_MS)) later

-- the clock has jumped, and the last jump still lasts
abbrev pub in_tilt : List ℕ → Bool
in_tilt readings = lasts (last_jump readings) (after_jump readings)

-- the reading of the last jump while TILT holds
abbrev pub tilt_since : List ℕ → Option ℕ
tilt_since readings = if in_tilt readings then last_jump readings else None

-- What is kept

-- what is kept of the readings: the last one, and that of the last jump while TILT holds
pub record Turned : Type 0 where
  pub last : ℕ
  pub entered : Option ℕ

-- what is kept is what these readings tell
pub record StandsForReadings (turned : Turned) (readings : List ℕ) : Type 0 where
  pub earlier : List ℕ
  pub last : readings ≡ turned.last ∷ earlier
  pub entered : turned.entered ≡ tilt_since readings

-- a turn that is no jump: TILT goes on for less than 30,000 ms
abbrev pub lasting_at : (now : ℕ) → Option ℕ → Option ℕ
lasting_at now None = None
lasting_at now (Some jump) = if nat_lt now (jump + TILT_MS) then Some jump else None

abbrev pub entered_at : (before : ℕ) → Option ℕ → (now : ℕ) → Option ℕ
entered_at before entered now = if is_jump before now then Some now else lasting_at now entered

-- a clock that is trusted: the opening counts as a turn
abbrev pub opened_clock : (now : ℕ) → Turned
opened_clock now = record { last = now; entered = None }

-- one more turn
abbrev pub turned_at : (now : ℕ) → Turned → Turned
turned_at now turned = record { last = now; entered = entered_at turned.last turned.entered now }

-- so what is kept is, after each turn, what the readings with that one tell
abbrev pub KeepsFirst : Type 0
KeepsFirst = (now : ℕ) → StandsForReadings (opened_clock now) (now ∷ [])

abbrev pub KeepsReadings : Type 0
KeepsReadings =
    (turned : Turned) (readings : List ℕ) (now : ℕ) →
    StandsForReadings turned readings →
    StandsForReadings (turned_at now turned) (now ∷ readings)
