-- Files of one roster begin alike where each of its masters does.
use Rattle.std.proofs.Common.{inl, inr, ◌≡◌, ℕ, ◌<◌, ◌+◌, Bool, true, List, length, ap, sym, ◌∙◌, subst, arith}
use Rattle.std.specs.Prelude.{slice_index_or}
use Rattle.std.proofs.lemmas.Bool.{cases_lt}
use Rattle.std.proofs.lemmas.List.{get_or_past}
use Rattle.std.proofs.lemmas.Slice.Zip.{AllZip-long}
use Rattle.ballot_law.specs.declared.cards.Kept.{Kept}
use Rattle.ballot_law.specs.declared.cards.KeptMaster.{KeptMaster}
use Rattle.ballot_law.specs.Ballots.{no_kept, card_of, StartAlike}
use Rattle.ballot_law.specs.Rosters.{Roster}
use Rattle.sentinel_conf.specs.Meaning.{ConfPlan}
use Rattle.sentinel_conf.specs.Rewritten.{IsKeptPart, IsKeptMaster}
use Rattle.conf_check.specs.Group.Groups.{AreOfOneGroup}

start_alike : (one other : Kept) → length one.masters ≡ length other.masters
    → ((m : ℕ) → m < length one.masters → (slice_index_or one.masters m no_kept).card ≡ (slice_index_or other.masters m no_kept).card) → StartAlike one other
start_alike one other long each m =
    elim (cases_lt m (length one.masters)) as (λ _. card_of one m ≡ card_of other m) [
      | inl less ↦ each m less
      | inr past ↦ ap (λ (k : KeptMaster). k.card) (get_or_past one.masters m no_kept past ∙ sym (get_or_past other.masters m no_kept (omega (arith, long, past))))
    ]

-- a file keeps a part of each master of its roster
pub kept_of_each : (conf : ConfPlan) → IsKeptPart conf conf.kept → length conf.kept.masters ≡ length conf.roster.masters
kept_of_each conf part = AllZip-long (IsKeptMaster conf.kept.current) conf.roster.masters conf.kept.masters part.masters

pub as_many : (one other : ConfPlan) → one.roster ≡ other.roster → IsKeptPart one one.kept → IsKeptPart other other.kept
    → length one.kept.masters ≡ length other.kept.masters
as_many one other same first second = kept_of_each one first ∙ ap (λ (roster : Roster). length roster.masters) same ∙ sym (kept_of_each other second)

pub one_group : (one other : ConfPlan) (some others : List KeptMaster) → one.roster ≡ other.roster → IsKeptPart one one.kept → IsKeptPart other other.kept
    → some ≡ one.kept.masters → others ≡ other.kept.masters
    → ((m : ℕ) → m < length some → (slice_index_or some m no_kept).card ≡ (slice_index_or others m no_kept).card) → AreOfOneGroup one other
one_group one other some others same first second e f each =
    let of_one = subst (λ (xs : List KeptMaster). (m : ℕ) → m < length xs → (slice_index_or xs m no_kept).card ≡ (slice_index_or others m no_kept).card) e each in
    let of_both = subst (λ (ys : List KeptMaster). (m : ℕ) → m < length one.kept.masters → (slice_index_or one.kept.masters m no_kept).card ≡ (slice_index_or ys m no_kept).card) f
    of_one in
    (same, start_alike one.kept other.kept (as_many one other same first second) of_both)

-- what holds of all below n, and of n, holds of all below n + 1
pub one_more : (p : ℕ → Bool) (n : ℕ) → ((k : ℕ) → k < n → p k ≡ true) → p n ≡ true → (k : ℕ) → k < n + 1 → p k ≡ true
one_more p n all at k less =
    elim (cases_lt k n) as (λ _. p k ≡ true) [
      | inl below ↦ all k below
      | inr past ↦ subst (λ j. p j ≡ true) (omega (arith, less, past)) at
    ]
