-- The votes that the files of some Sentinels tell, as a list.
use Rattle.std.proofs.Common.{◌≡◌, ℕ, zero, suc, ◌<◌, Option, Some, None, List, [], ◌∷◌, ◌++◌, length, slice_index_or, refl, sym, ap, subst, ◌∙◌, inl, inr, arith, lit<}
use Rattle.std.specs.Prelude.{Contains, unwrap_or}
use Rattle.std.proofs.lemmas.Bool.{cases_lt}
use Rattle.std.proofs.lemmas.List.{get_or_past}
use Rattle.std.proofs.lemmas.List.Elements.{Contains-append_left, Contains-append_right, Contains-append_cases}
use Rattle.ballot_law.specs.declared.addresses.RunId.{RunId}
use Rattle.ballot_law.specs.declared.cards.KeptMaster.{KeptMaster}
use Rattle.ballot_law.specs.Messages.{Vote}
use Rattle.ballot_law.specs.Ballots.{vote, no_kept, kept_of}
use Rattle.ballot_law.specs.Worlds.{World, Sentinel, no_sentinel, sentinel_at}
use Rattle.ballot_law.specs.Law.{IsFiled}

-- the lists of the first numbers, one after the other
abbrev gathered : {X : Type 0} → (ℕ → List X) → ℕ → List X
gathered of zero = []
gathered of (suc n) = gathered of n ++ of n

is_of_one : {X : Type 0} (of : ℕ → List X) (n : ℕ) (x : X) → Contains (gathered of n) x → (k : ℕ) × (k < n) × Contains (of k) x
is_of_one of zero x (k, less, same) = absurd (omega arith)
is_of_one of (suc n) x has =
    elim (Contains-append_cases (gathered of n) (of n) x has) [
      | inl early ↦ let it = is_of_one of n x early in (it.0, omega arith, it.2)
      | inr last ↦ (n, omega arith, last)
    ]

is_gathered : {X : Type 0} (of : ℕ → List X) (n k : ℕ) (x : X) → k < n → Contains (of k) x → Contains (gathered of n) x
is_gathered of zero k x less has = absurd (omega arith)
is_gathered of (suc n) k x less has =
    elim (cases_lt k n) [
      | inl early ↦ Contains-append_left (gathered of n) (of n) x (is_gathered of n k x early has)
      | inr past ↦ Contains-append_right (gathered of n) (of n) x (subst (λ (j : ℕ). Contains (of j) x) (let e : k ≡ n = omega arith in e) has)
    ]

-- the vote that a file tells of one master
abbrev told : (i m voted : ℕ) → Option RunId → List Vote
told i m voted None = []
told i m voted (Some candidate) = vote i m voted candidate ∷ []

abbrev told_of : Sentinel → (i m : ℕ) → List Vote
told_of s i m = told i m (kept_of s.file m).voted (kept_of s.file m).candidate

abbrev told_by : List Sentinel → (i : ℕ) → List Vote
told_by sentinels i = gathered (told_of (slice_index_or sentinels i no_sentinel) i) (length (slice_index_or sentinels i no_sentinel).file.masters)

abbrev pub filed_votes : List Sentinel → List Vote
filed_votes sentinels = gathered (told_by sentinels) (length sentinels)

-- what tells a vote
record IsTold (i m voted : ℕ) (candidate : Option RunId) (v : Vote) : Type 0 where
  voter : i ≡ v.voter
  master : m ≡ v.master
  epoch : voted ≡ v.epoch
  whom : candidate ≡ Some v.candidate

is_told : (i m voted : ℕ) (candidate : Option RunId) (v : Vote) → Contains (told i m voted candidate) v → IsTold i m voted candidate v
is_told i m voted None v (k, less, same) = absurd (omega arith)
is_told i m voted (Some c) v (zero, less, same) =
    record {
      voter = ap (λ (u : Vote). u.voter) same;
      master = ap (λ (u : Vote). u.master) same;
      epoch = ap (λ (u : Vote). u.epoch) same;
      whom = ap (λ (u : Vote). Some u.candidate) same;
    }
is_told i m voted (Some c) v (suc k, less, same) = absurd (omega arith)

told_it : (i m voted : ℕ) (candidate : Option RunId) (v : Vote) → IsTold i m voted candidate v → Contains (told i m voted candidate) v
told_it i m voted None v is = let e : None ≡ Some v.candidate = is.whom in absurd (cc)
told_it i m voted (Some c) v is = (
  0,
  lit< tt,
  ap (λ (j : ℕ). vote j m voted c) is.voter
      ∙ ap (λ (n : ℕ). vote v.voter n voted c) is.master
      ∙ ap (λ (e : ℕ). vote v.voter v.master e c) is.epoch
      ∙ ap (λ (d : Option RunId). vote v.voter v.master v.epoch (unwrap_or d c)) is.whom,
)

pub are_filed : (w : World) (v : Vote) → Contains (filed_votes w.sentinels) v → IsFiled w v
are_filed w v has =
    let of_voter = is_of_one (told_by w.sentinels) (length w.sentinels) v has in
    let i : ℕ = of_voter.0 in
    let of_master = is_of_one (told_of (sentinel_at w i) i) (length (sentinel_at w i).file.masters) v of_voter.2 in
    let m : ℕ = of_master.0 in
    let is = is_told i m (kept_of (sentinel_at w i).file m).voted (kept_of (sentinel_at w i).file m).candidate v of_master.2 in
    record {
      place = subst (λ (j : ℕ). j < length w.sentinels) is.voter of_voter.1;
      voted = subst (λ (j : ℕ). (kept_of (sentinel_at w j).file v.master).voted ≡ v.epoch) is.voter
          (subst (λ (n : ℕ). (kept_of (sentinel_at w i).file n).voted ≡ v.epoch) is.master is.epoch);
      candidate = subst (λ (j : ℕ). (kept_of (sentinel_at w j).file v.master).candidate ≡ Some v.candidate) is.voter
          (subst (λ (n : ℕ). (kept_of (sentinel_at w i).file n).candidate ≡ Some v.candidate) is.master is.whom);
    }

pub all_filed : (w : World) (v : Vote) → IsFiled w v → Contains (filed_votes w.sentinels) v
all_filed w v filed =
    let s : Sentinel = sentinel_at w v.voter in
    is_gathered (told_by w.sentinels) (length w.sentinels) v.voter v filed.place
    (is_gathered (told_of s v.voter) (length s.file.masters) v.master v within
    (told_it v.voter v.master (kept_of s.file v.master).voted (kept_of s.file v.master).candidate v
    (record { voter = refl; master = refl; epoch = filed.voted; whom = filed.candidate })))
  where
    within : v.master < length (sentinel_at w v.voter).file.masters
    within =
        elim (cases_lt v.master (length (sentinel_at w v.voter).file.masters)) [
          | inl less ↦ less
          | inr past ↦ absurd (let e : None ≡ Some v.candidate =
              sym (ap (λ (k : KeptMaster). k.candidate) (get_or_past (sentinel_at w v.voter).file.masters v.master no_kept past)) ∙ filed.candidate in cc)
        ]
