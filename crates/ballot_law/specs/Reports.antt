-- What the other Sentinels say of a master. The latest call stands first.
use Rattle.std.specs.Prelude.{◌≡◌, ℕ, ◌+◌, ◌<◌, Bool, false, ◌&&◌, nat_le, ◌==◌, Option, Some, None, List, [], ◌∷◌, if◌then◌else◌, length, map, slice_index_or, slice_set}
use Rattle.ballot_law.specs.Counts.{count_below}
use Rattle.ballot_law.specs.Clocks.{age}
use Rattle.ballot_law.specs.declared.hearings.DownReport.{DownReport}
use Rattle.ballot_law.specs.declared.periods.TheConstants.{REPORT_MS}

pub data ReportCall : Type 0 where
  Reported : (place : ℕ) → (report : DownReport) → ReportCall
  Cleared : ReportCall

-- the last report of the Sentinel at a place
abbrev pub last_report : List ReportCall → ℕ → Option DownReport
last_report [] place = None
last_report (Reported reporter report ∷ earlier) place = if reporter == place then Some report else last_report earlier place
last_report (Cleared ∷ earlier) place = None

-- it said down, and at most 5,000 ms ago
abbrev pub says_down : (now : ℕ) → Option DownReport → Bool
says_down now None = false
says_down now (Some report) = report.down && nat_le (age report.at now) REPORT_MS

-- how many of n places say down
abbrev pub down_count : (now : ℕ) → (reports : ℕ → Option DownReport) → (n : ℕ) → ℕ
down_count now reports n = count_below (λ place. says_down now (reports place)) n

-- objectively down: the Sentinel itself finds the master down, and with those of n others that say so there are enough
abbrev pub is_odown_by : (own : Bool) → (reports : ℕ → Option DownReport) → (n now quorum : ℕ) → Bool
is_odown_by own reports n now quorum = own && nat_le quorum (1 + down_count now reports n)

-- What is kept of each place

abbrev pub kept_at : List (Option DownReport) → ℕ → Option DownReport
kept_at kept place = slice_index_or kept place None

-- what is kept at each place is what these calls tell of it
abbrev pub StandsForReports : List (Option DownReport) → List ReportCall → Type 0
StandsForReports kept calls = (place : ℕ) → kept_at kept place ≡ last_report calls place

-- the report replaces the earlier one of its place
abbrev pub with_report : (place : ℕ) → DownReport → List (Option DownReport) → List (Option DownReport)
with_report place report reports = slice_set reports place (Some report)

-- no place has a report, and as many places as before
abbrev pub without_reports : List (Option DownReport) → List (Option DownReport)
without_reports reports = map (λ _. None) reports

-- so what is kept is, after each call, what the calls with that one tell
abbrev pub KeepsReports : Type 0
KeepsReports =
    (kept : List (Option DownReport)) (calls : List ReportCall) (place : ℕ) (report : DownReport) →
    place < length kept →
    StandsForReports kept calls →
    StandsForReports (with_report place report kept) (Reported place report ∷ calls)

abbrev pub KeepsClearing : Type 0
KeepsClearing =
    (kept : List (Option DownReport)) (calls : List ReportCall) →
    StandsForReports kept calls →
    StandsForReports (without_reports kept) (Cleared ∷ calls)
