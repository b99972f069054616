-- The best replica stands at one of the master's nodes.
use Rattle.std.proofs.Common.{◌≡◌, ℕ, zero, suc, ◌<◌, ◌≤◌, Bool, true, false, cond, List, length, Option, Some, None, arith, refl, subst}
use Rattle.std.specs.Prelude.{IfSome, option_map, ◌&&◌, unwrap_or, position, if◌then◌else◌}
use Rattle.ballot_law.specs.declared.rosters.TheConstants.{NODES_MAX}
use Rattle.ballot_law.specs.declared.addresses.Addr.{Addr}
use Rattle.replica_choice.specs.declared.candidates.Candidate.{Candidate}
use Rattle.replica_choice.specs.declared.candidates.Limits.{Limits}
use Rattle.replica_choice.specs.Choices.{candidate_at, is_eligible, is_better, with_place, choice_below, choice_of}
use Rattle.sentinel_rules.specs.Plans.{Plan, nodes_of, addr_at}
use Rattle.sentinel_rules.specs.States.{Core, node_of, card_place, place_followed}
use Rattle.sentinel_rules.specs.Ticks.{candidate_of, candidates_of, willing_of, willing_ones, best_willing, limits_of, best_told, best_of, best_place}
use Rattle.sentinel_rules.proofs.Choices.{length-at_places}
use Rattle.sentinel_rules.specs.Profiles.{by_profile, passing, is_taking_over, switched_to, is_given_away, first_of}
use Rattle.sentinel_rules.specs.declared.profiles.Profile.{Profile}
use Rattle.sentinel_rules.specs.declared.profiles.Profile.TheVariants.{Strict, Redis}
use Rattle.sentinel_rules.specs.declared.assumed.TheConstants.{ASSUMED_INFO}
use Rattle.std.proofs.lemmas.List.Quantifiers.{position-Some}
use Rattle.ballot_law.specs.Orders.{same_addr}
use Rattle.ballot_law.specs.Rosters.{no_addr}

one_of : (b : Bool) (place best : ℕ) → best < place → IfSome (cond b (Some place) (Some best)) (λ k. k < suc place)
one_of true place best h = omega arith
one_of false place best h = omega (arith, h)

one_or_none : (b : Bool) (place : ℕ) → IfSome (cond b (Some place) None) (λ k. k < suc place)
one_or_none true place = omega arith
one_or_none false place = tt

with_within : (candidates : List Candidate) (now : ℕ) (limits : Limits) (best : Option ℕ) (place : ℕ) → IfSome best (λ k. k < place)
    → IfSome (with_place candidates now limits best place) (λ k. k < suc place)
with_within candidates now limits None place h = one_or_none (is_eligible now limits (candidate_at candidates place)) place
with_within candidates now limits (Some best) place h =
    one_of (is_eligible now limits (candidate_at candidates place) && is_better (candidate_at candidates place) (candidate_at candidates best)) place best h

below_within : (candidates : List Candidate) (now : ℕ) (limits : Limits) (n : ℕ) → IfSome (choice_below candidates now limits n) (λ k. k < n)
below_within candidates now limits zero = tt
below_within candidates now limits (suc n) = with_within candidates now limits (choice_below candidates now limits n) n (below_within candidates now limits n)

with_addr : (plan : Plan) (m n : ℕ) (choice : Option ℕ) → n ≤ NODES_MAX → IfSome choice (λ k. k < n)
    → (let best : Option (ℕ × Addr) = option_map (λ k. (k, addr_at plan m k)) choice in IfSome {T = ℕ × Addr} best (λ b. b.0 ≤ NODES_MAX))
with_addr plan m n None few h = tt
with_addr plan m n (Some k) few h = omega (arith, few, h)

followed_within : (plan : Plan) (m : ℕ) (addr : Option Addr) → IfSome (place_followed plan m addr) (λ k. k < length (nodes_of plan m))
followed_within plan m None = tt
followed_within plan m (Some addr) = known (position (same_addr addr) (nodes_of plan m)) refl
  where
    known : (place : Option ℕ) → position (same_addr addr) (nodes_of plan m) ≡ place → IfSome place (λ k. k < length (nodes_of plan m))
    known None e = tt
    known (Some k) e = (position-Some (same_addr addr) (nodes_of plan m) k no_addr e).0

passing_within : (n : ℕ) (place : Option ℕ) (passes : ℕ → Bool) → IfSome place (λ k. k < n) → IfSome (passing place passes) (λ k. k < n)
passing_within n None passes h = tt
passing_within n (Some k) passes h = known (passes k)
  where
    known : (b : Bool) → IfSome (if b then Some k else None) (λ j. j < n)
    known true = h
    known false = tt

either_within : (n : ℕ) (profile : Profile) (strict redis : Option ℕ) → IfSome strict (λ k. k < n) → IfSome redis (λ k. k < n) → IfSome (by_profile profile strict redis) (λ k. k < n)
either_within n Strict strict redis f g = f
either_within n Redis strict redis f g = g

by_rules : (n : ℕ) (profile : Profile) (redis : Option ℕ) → IfSome redis (λ k. k < n) → IfSome (by_profile profile None redis) (λ k. k < n)
by_rules n Strict redis h = tt
by_rules n Redis redis h = h

first_within : (n : ℕ) (first second : Option ℕ) → IfSome first (λ k. k < n) → IfSome second (λ k. k < n) → IfSome (first_of first second) (λ k. k < n)
first_within n None second f g = g
first_within n (Some k) second f g = f

unless_away : (n : ℕ) (away : Bool) (told : Option ℕ) → IfSome told (λ k. k < n) → IfSome (if away then None else told) (λ k. k < n)
unless_away n true told h = tt
unless_away n false told h = h

willing_within : (plan : Plan) (core : Core) (m now : ℕ) (again : Bool) → IfSome (best_willing plan core m now again) (λ k. k < length (nodes_of plan m))
willing_within plan core m now again =
    let some = willing_ones plan core m now again in
    let best = best_willing plan core m now again in
    let same : length some ≡ length (nodes_of plan m) = length-at_places (willing_of plan core m now again) 0 (length (nodes_of plan m)) in
    subst (λ (c : ℕ). IfSome best (λ k. k < c)) same (below_within some now (limits_of plan core m now) (length some))

pub best_few : (plan : Plan) (core : Core) (m now : ℕ) → length (nodes_of plan m) ≤ NODES_MAX → IfSome (best_of plan core m now) (λ b. b.0 ≤ NODES_MAX)
best_few plan core m now few =
    let all = candidates_of plan core m now in
    let n = length (nodes_of plan m) in
    let same : length all ≡ length (nodes_of plan m) = length-at_places (candidate_of plan core m now) 0 (length (nodes_of plan m)) in
    let any = choice_of all now (limits_of plan core m now) in
    let any_inside : IfSome any (λ k. k < n) = subst (λ (c : ℕ). IfSome any (λ k. k < c)) same (below_within all now (limits_of plan core m now) (length all)) in
    let told = best_told plan core m now in
    let inside : IfSome told (λ k. k < n) =
    either_within n plan.profile any (first_of (best_willing plan core m now false) (best_willing plan core m now true)) any_inside
    (first_within n (best_willing plan core m now false) (best_willing plan core m now true) (willing_within plan core m now false) (willing_within plan core m now true)) in
    let followed = (unwrap_or (node_of core m (card_place plan core m)).info ASSUMED_INFO).master in
    let switched = passing (place_followed plan m followed) (is_taking_over plan core m now) in
    with_addr plan m n (best_place plan core m now) few
    (first_within n (switched_to plan core m now) (if is_given_away plan core m now then None else told)
    (by_rules n plan.profile switched (passing_within n (place_followed plan m followed) (is_taking_over plan core m now) (followed_within plan m followed)))
    (unless_away n (is_given_away plan core m now) told inside))
