-- Who says that a master is up.
use Rattle.std.specs.Prelude.{ℕ, Bool, false, not, ◌&&◌, nat_le, Option, None, Some}
use Rattle.ballot_law.specs.declared.hearings.DownReport.{DownReport}

-- the last report says that it is up, and came at this moment or later
abbrev pub says_up : (since : ℕ) → Option DownReport → Bool
says_up since None = false
says_up since (Some report) = not report.down && nat_le since report.at
