-- Reports that are forgotten.
use Rattle.std.proofs.Common.{◌≡◌, ℕ, zero, suc, ◌+◌, ◌<◌, ◌++◌, Option, None, List, [], ◌∷◌, length, take, drop, get_or, set, refl}
use Rattle.std.proofs.lemmas.List.{get_or_default}
use Rattle.std.proofs.lemmas.List.Edits.{map_over_more}
use Rattle.ballot_law.specs.declared.hearings.DownReport.{DownReport}
use Rattle.ballot_law.specs.Reports.{kept_at, without_reports}

-- a loop that forgets each
pub cleared_more : (xs ys : List (Option DownReport)) (i : ℕ) → i < length xs → i < length ys → ys ≡ without_reports (take i xs) ++ drop i xs →
    set ys i None ≡ without_reports (take (i + 1) xs) ++ drop (i + 1) xs
cleared_more xs ys i lt within is =
    map_over_more (λ _. None) xs ys i (get_or ys i None) lt is (get_or_default ys i None (get_or ys i None) within)

-- none is kept of any place
pub kept_at-without : (kept : List (Option DownReport)) (place : ℕ) → kept_at (without_reports kept) place ≡ None
kept_at-without [] place = refl
kept_at-without (report ∷ kept) zero = refl
kept_at-without (report ∷ kept) (suc place) = kept_at-without kept place
