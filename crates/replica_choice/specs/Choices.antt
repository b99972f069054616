-- Which replica is chosen.
use Rattle.std.specs.Prelude.{◌≡◌, ℕ, zero, suc, ◌+◌, ◌*◌, ◌<◌, Bool, true, false, not, ◌&&◌, nat_lt, nat_le, ◌==◌, Option, Some, None, List, length, slice_index_or, if◌then◌else◌, ◌⊎◌}
use Rattle.ballot_law.specs.declared.addresses.RunId.{RunId}
use Rattle.ballot_law.specs.Clocks.{clock, age}
use Rattle.ballot_law.specs.Orders.{id_before}
use Rattle.replica_choice.specs.declared.candidates.Candidate.{Candidate}
use Rattle.replica_choice.specs.declared.candidates.Limits.{Limits}
use Rattle.replica_choice.specs.declared.candidates.TheConstants.{FRESH_MS}

-- heard of, and not too long ago
abbrev pub is_fresh : (now : ℕ) → Option ℕ → Bool
is_fresh now None = false
is_fresh now (Some moment) = nat_le (age (clock moment) (clock now)) FRESH_MS

-- the link has not been down for longer than ten times the down-after time beyond the master's own down time
abbrev pub is_linked : Limits → (link_down_s : ℕ) → Bool
is_linked limits link_down_s = nat_le (link_down_s * 1000) (10 * limits.after_ms + limits.master_down_ms)

-- not down, of a priority above 0, its link good enough, its last PING and INFO fresh
abbrev pub is_eligible : (now : ℕ) → Limits → Candidate → Bool
is_eligible now limits c =
    not c.sdown && nat_lt 0 c.priority && is_linked limits c.link_down_s && is_fresh now c.last_ping && is_fresh now c.last_info

-- an unknown id is the greatest
abbrev pub has_smaller_id : Option RunId → Option RunId → Bool
has_smaller_id None b = false
has_smaller_id (Some a) None = true
has_smaller_id (Some a) (Some b) = id_before a b

-- by the smaller priority, then the greater offset, then the smaller id
abbrev pub is_better : Candidate → Candidate → Bool
is_better a b =
    if a.priority == b.priority then (if b.offset == a.offset then has_smaller_id a.id b.id else nat_lt b.offset a.offset)
    else nat_lt a.priority b.priority

abbrev pub no_candidate : Candidate
no_candidate = record { sdown = true; priority = 0; link_down_s = 0; last_ping = None; last_info = None; offset = 0; id = None }

abbrev pub candidate_at : List Candidate → ℕ → Candidate
candidate_at candidates place = slice_index_or candidates place no_candidate

-- a place whose candidate may be chosen
abbrev pub IsEligible : List Candidate → (now : ℕ) → Limits → (place : ℕ) → Type 0
IsEligible candidates now limits place =
    (place < length candidates) × (is_eligible now limits (candidate_at candidates place) ≡ true)

-- the place with the better candidate; where neither is, the smaller place
abbrev pub IsBetter : List Candidate → (place other : ℕ) → Type 0
IsBetter candidates place other =
    (is_better (candidate_at candidates place) (candidate_at candidates other) ≡ true)
    ⊎ ((is_better (candidate_at candidates other) (candidate_at candidates place) ≡ false) × (place < other))

-- the choice among some candidates, and one more place after theirs
abbrev pub with_place : List Candidate → (now : ℕ) → Limits → Option ℕ → ℕ → Option ℕ
with_place candidates now limits None place = if is_eligible now limits (candidate_at candidates place) then Some place else None
with_place candidates now limits (Some best) place =
    if is_eligible now limits (candidate_at candidates place) && is_better (candidate_at candidates place) (candidate_at candidates best) then Some place
    else Some best

-- the choice among the first n
abbrev pub choice_below : List Candidate → (now : ℕ) → Limits → (n : ℕ) → Option ℕ
choice_below candidates now limits zero = None
choice_below candidates now limits (suc n) = with_place candidates now limits (choice_below candidates now limits n) n

abbrev pub choice_of : List Candidate → (now : ℕ) → Limits → Option ℕ
choice_of candidates now limits = choice_below candidates now limits (length candidates)
