-- The best replica is a node of the master's list, and not that of the configuration.
use Rattle.std.proofs.Common.{◌≡◌, ℕ, zero, suc, ◌+◌, ◌<◌, Bool, true, false, cond, eqb, Option, Some, None, List, [], ◌∷◌, length, get_or, refl, sym, ap, subst, ◌∙◌, ◌⊎◌, inl, inr, arith}
use Rattle.std.specs.Prelude.{not, ◌&&◌, ◌||◌, option_map, position, unwrap_or, if◌then◌else◌}
use Rattle.std.specs.List.{position_or_len}
use Rattle.std.proofs.lemmas.Bool.{lt-ltb, eqb-true, eqb-false, or_parts, cases_order}
use Rattle.std.proofs.lemmas.List.Quantifiers.{position-Some}
use Rattle.ballot_law.specs.declared.addresses.Addr.{Addr}
use Rattle.ballot_law.specs.Ballots.{card_of}
use Rattle.ballot_law.specs.Orders.{same_addr}
use Rattle.ballot_law.specs.Rosters.{no_addr}
use Rattle.replica_choice.specs.declared.candidates.Candidate.{Candidate}
use Rattle.replica_choice.specs.declared.candidates.Limits.{Limits}
use Rattle.replica_choice.specs.Choices.{is_eligible, is_better, candidate_at, no_candidate, with_place, choice_below, choice_of}
use Rattle.ballot_law.proofs.CountedVotes.{both, eqb-same}
use Rattle.sentinel_rules.specs.Profiles.{by_profile, passing, is_taking_over, switched_to, is_given_away, first_of, is_passed_over}
use Rattle.sentinel_rules.specs.declared.profiles.Profile.{Profile}
use Rattle.sentinel_rules.specs.declared.profiles.Profile.TheVariants.{Strict, Redis}
use Rattle.sentinel_rules.specs.declared.assumed.TheConstants.{ASSUMED_INFO}
use Rattle.sentinel_rules.specs.Plans.{Plan, master_count, nodes_of, addr_at, node_place}
use Rattle.sentinel_rules.specs.States.{Core, node_of, card_place, is_node_down, place_followed}
use Rattle.sentinel_rules.specs.Ticks.{at_places, candidate_of, candidates_of, willing_of, best_willing, limits_of, best_told, best_of, best_place}
use Rattle.sentinel_rules.specs.Answers.{numbers_from}
use Rattle.sentinel_rules.specs.Facts.{IsSoundPlan}
use Rattle.sentinel_rules.proofs.Turns.{Best}

not_true : (b : Bool) → not b ≡ true → b ≡ false
not_true true h = absurd (cc)
not_true false h = refl

-- Places and addresses

pub same_addr-equal : (a b : Addr) → same_addr a b ≡ true → a ≡ b
same_addr-equal a b h =
    let parts = both (eqb a.ip b.ip) (eqb a.port b.port) h in
    ap (λ (ip : ℕ). let x : Addr = record { ip = ip; port = a.port } in x) (eqb-true a.ip b.ip parts.0)
    ∙ ap (λ (port : ℕ). let x : Addr = record { ip = b.ip; port = port } in x) (eqb-true a.port b.port parts.1)

pub same_addr-same : (a : Addr) → same_addr a a ≡ true
same_addr-same a = rw (eqb-same a.ip, eqb-same a.port) refl

found_before : {X : Type 0} (p : X → Bool) (xs : List X) (k : ℕ) (d : X) → k < length xs → p (get_or xs k d) ≡ true → position_or_len p xs < length xs
found_before p [] k d lt h = absurd (omega arith)
found_before p (x ∷ xs) k d lt h = known (p x) refl k lt h (λ j. found_before p xs j d)
  where
    known : (b : Bool) → p x ≡ b → (k : ℕ) → k < length (x ∷ xs) → p (get_or (x ∷ xs) k d) ≡ true →
        ((j : ℕ) → j < length xs → p (get_or xs j d) ≡ true → position_or_len p xs < length xs) → cond (not b) (1 + position_or_len p xs) 0 < length (x ∷ xs)
    known true e k lt h more = omega arith
    known false e zero lt h more = let never : false ≡ true = sym e ∙ h in absurd (cc)
    known false e (suc k) lt h more = let l : position_or_len p xs < length xs = more k (omega arith) h in omega arith

-- the node with an address of the list is the first with it
pub place_of_node : (plan : Plan) (m k : ℕ) (addr : Addr) → IsSoundPlan plan → m < master_count plan → k < length (nodes_of plan m) → addr_at plan m k ≡ addr →
    node_place plan m addr ≡ k
place_of_node plan m k addr p lt inside at =
    rw found (one_place (cases_order j k))
  where
    test : Addr → Bool
    test a = same_addr addr a

    j : ℕ
    j = position_or_len (same_addr addr) (nodes_of plan m)

    l : j < length (nodes_of plan m)
    l = found_before (same_addr addr) (nodes_of plan m) k no_addr inside (subst (λ (a : Addr). same_addr addr a ≡ true) (sym at) (same_addr-same addr))

    found : position (same_addr addr) (nodes_of plan m) ≡ Some j
    found = rw (lt-ltb j (length (nodes_of plan m)) l) refl

    there : addr ≡ addr_at plan m j
    there = same_addr-equal addr (addr_at plan m j) (position-Some (same_addr addr) (nodes_of plan m) j no_addr found).1

    one_place : (j ≡ k) ⊎ ((j < k) ⊎ (k < j)) → j ≡ k
    one_place (inl e) = e
    one_place (inr (inl before)) = absurd (p.conf.nodes m j k lt before inside (sym there ∙ sym at))
    one_place (inr (inr after)) = absurd (p.conf.nodes m k j lt after l (at ∙ there))

-- The choice among candidates

eligible_by : (candidates : List Candidate) (now : ℕ) (limits : Limits) (n place : ℕ) (choice : Option ℕ)
    → (choice ≡ Some place → (place < n) × (is_eligible now limits (candidate_at candidates place) ≡ true))
    → with_place candidates now limits choice n ≡ Some place
    → (place < suc n) × (is_eligible now limits (candidate_at candidates place) ≡ true)
eligible_by candidates now limits n place None known h = new (is_eligible now limits (candidate_at candidates n)) refl h
  where
    new : (b : Bool) → is_eligible now limits (candidate_at candidates n) ≡ b → cond b (Some n) None ≡ Some place →
        (place < suc n) × (is_eligible now limits (candidate_at candidates place) ≡ true)
    new true e h = let at : n ≡ place = cc in (omega arith, subst (λ (i : ℕ). is_eligible now limits (candidate_at candidates i) ≡ true) at e)
    new false e h = absurd (cc)
eligible_by candidates now limits n place (Some best) known h =
    next (is_eligible now limits (candidate_at candidates n)) (is_better (candidate_at candidates n) (candidate_at candidates best)) refl h
  where
    old : Some best ≡ Some place → (place < suc n) × (is_eligible now limits (candidate_at candidates place) ≡ true)
    old e = let k = known e in (let l : place < n = k.0 in omega arith, k.1)

    next : (b c : Bool) → is_eligible now limits (candidate_at candidates n) ≡ b → cond (b && c) (Some n) (Some best) ≡ Some place →
        (place < suc n) × (is_eligible now limits (candidate_at candidates place) ≡ true)
    next true true e h = let at : n ≡ place = cc in (omega arith, subst (λ (i : ℕ). is_eligible now limits (candidate_at candidates i) ≡ true) at e)
    next true false e h = old h
    next false c e h = old h

eligible : (candidates : List Candidate) (now : ℕ) (limits : Limits) (n place : ℕ) → choice_below candidates now limits n ≡ Some place →
    (place < n) × (is_eligible now limits (candidate_at candidates place) ≡ true)
eligible candidates now limits zero place h = absurd (cc)
eligible candidates now limits (suc n) place h =
    eligible_by candidates now limits n place (choice_below candidates now limits n) (eligible candidates now limits n place) h

pub length-numbers_from : (first count : ℕ) → length (numbers_from first count) ≡ count
length-numbers_from first zero = refl
length-numbers_from first (suc count) = ap suc (length-numbers_from (first + 1) count)

pub length-at_places : {X : Type 0} (f : ℕ → X) (place count : ℕ) → length (at_places f place count) ≡ count
length-at_places f place zero = refl
length-at_places f place (suc count) = ap suc (length-at_places f (place + 1) count)

at_place : {X : Type 0} (f : ℕ → X) (place count k i : ℕ) (d : X) → k < count → place + k ≡ i → get_or (at_places f place count) k d ≡ f i
at_place f place zero k i d lt e = absurd (omega arith)
at_place f place (suc count) zero i d lt e = ap f (omega arith)
at_place f place (suc count) (suc k) i d lt e = at_place f (place + 1) count k i d (omega arith) (omega arith)

up : (now : ℕ) (limits : Limits) (c : Candidate) → is_eligible now limits c ≡ true → c.sdown ≡ false
up now limits c h = known c.sdown refl
  where
    known : (b : Bool) → c.sdown ≡ b → c.sdown ≡ false
    known false e = e
    known true e = let never : false ≡ true = rw e at h in absurd (cc)

-- a place of the list that isn't the configuration's
abbrev IsOther : Plan → Core → (m : ℕ) → Option ℕ → Type 0
IsOther plan core m None = Unit {0}
IsOther plan core m (Some k) = (k < length (nodes_of plan m)) × (k ≡ card_place plan core m → ⊥)

awaited_of : (plan : Plan) (core : Core) (m : ℕ) (choice : Option ℕ) → IsSoundPlan plan → m < master_count plan → IsOther plan core m choice →
    Best plan core.kept m (option_map (λ k. (k, addr_at plan m k)) choice)
awaited_of plan core m None p lt o = tt
awaited_of plan core m (Some k) p lt o =
    record {
      listed = o.0;
      addressed = refl;
      other = λ same. o.1 (sym (place_of_node plan m k (card_of core.kept m).addr p lt o.0 same));
    }

-- the node that took over
passing_other : (plan : Plan) (core : Core) (m now : ℕ) (place : Option ℕ) → ((k : ℕ) → place ≡ Some k → k < length (nodes_of plan m)) →
    IsOther plan core m (passing place (is_taking_over plan core m now))
passing_other plan core m now None inside = tt
passing_other plan core m now (Some k) inside = known (is_taking_over plan core m now k) refl
  where
    known : (b : Bool) → is_taking_over plan core m now k ≡ b → IsOther plan core m (if b then Some k else None)
    known false e = tt
    known true e = (inside k refl, eqb-false k (card_place plan core m) (not_true (eqb k (card_place plan core m)) (both (not (eqb k (card_place plan core m))) _ e).0))

followed_inside : (plan : Plan) (m : ℕ) (addr : Option Addr) (k : ℕ) → place_followed plan m addr ≡ Some k → k < length (nodes_of plan m)
followed_inside plan m None k e = absurd (cc)
followed_inside plan m (Some addr) k e = (position-Some (same_addr addr) (nodes_of plan m) k no_addr e).0

switched_other : (plan : Plan) (core : Core) (m now : ℕ) (profile : Profile) →
    IsOther plan core m (by_profile profile None
    (passing (place_followed plan m (unwrap_or (node_of core m (card_place plan core m)).info ASSUMED_INFO).master) (is_taking_over plan core m now)))
switched_other plan core m now Strict = tt
switched_other plan core m now Redis =
    passing_other plan core m now (place_followed plan m (unwrap_or (node_of core m (card_place plan core m)).info ASSUMED_INFO).master)
    (λ k e. followed_inside plan m (unwrap_or (node_of core m (card_place plan core m)).info ASSUMED_INFO).master k e)

first_other : (plan : Plan) (core : Core) (m : ℕ) (first second : Option ℕ) → IsOther plan core m first → IsOther plan core m second → IsOther plan core m (first_of first second)
first_other plan core m None second f g = g
first_other plan core m (Some k) second f g = f

unless_given_away : (plan : Plan) (core : Core) (m : ℕ) (away : Bool) (told : Option ℕ) → IsOther plan core m told → IsOther plan core m (if away then None else told)
unless_given_away plan core m true told f = tt
unless_given_away plan core m false told f = f

-- what is chosen of candidates that count as down where they are the configuration's node
listed_other : (plan : Plan) (core : Core) (m now : ℕ) (f : ℕ → Candidate) → ((k : ℕ) → (f k).sdown ≡ false → k ≡ card_place plan core m → ⊥) →
    IsOther plan core m (choice_of (at_places f 0 (length (nodes_of plan m))) now (limits_of plan core m now))
listed_other plan core m now f out = known (choice_of all now (limits_of plan core m now)) refl
  where
    all : List Candidate
    all = at_places f 0 (length (nodes_of plan m))

    known : (choice : Option ℕ) → choice_of all now (limits_of plan core m now) ≡ choice → IsOther plan core m choice
    known None e = tt
    known (Some k) e =
        let long : length all ≡ length (nodes_of plan m) = length-at_places f 0 (length (nodes_of plan m)) in
        let is = eligible all now (limits_of plan core m now) (length all) k e in
        let inside : k < length (nodes_of plan m) = subst (λ (c : ℕ). k < c) long is.0 in
        let there : candidate_at all k ≡ f k = at_place f 0 (length (nodes_of plan m)) k k no_candidate inside (omega arith) in
        (inside, out k (up now (limits_of plan core m now) (f k) (subst (λ (c : Candidate). is_eligible now (limits_of plan core m now) c ≡ true) there is.1)))

card_is_out : (plan : Plan) (core : Core) (m now k : ℕ) → (candidate_of plan core m now k).sdown ≡ false → k ≡ card_place plan core m → ⊥
card_is_out plan core m now k not_down =
    let up_or_card : (eqb k (card_place plan core m) || is_node_down plan core m now k) ≡ false =
    (or_parts (eqb k (card_place plan core m) || is_node_down plan core m now k) (node_of core m k).lost not_down).0 in
    eqb-false k (card_place plan core m) (or_parts (eqb k (card_place plan core m)) (is_node_down plan core m now k) up_or_card).0

either_other : (plan : Plan) (core : Core) (m : ℕ) (profile : Profile) (strict redis : Option ℕ) → IsOther plan core m strict → IsOther plan core m redis →
    IsOther plan core m (by_profile profile strict redis)
either_other plan core m Strict strict redis f g = f
either_other plan core m Redis strict redis f g = g

told_other : (plan : Plan) (core : Core) (m now : ℕ) → IsOther plan core m (best_told plan core m now)
told_other plan core m now =
    either_other plan core m plan.profile (choice_of (candidates_of plan core m now) now (limits_of plan core m now))
    (first_of (best_willing plan core m now false) (best_willing plan core m now true))
    (listed_other plan core m now (candidate_of plan core m now) (card_is_out plan core m now))
    (first_other plan core m (best_willing plan core m now false) (best_willing plan core m now true) (willing_other false) (willing_other true))
  where
    willing_other : (again : Bool) → IsOther plan core m (best_willing plan core m now again)
    willing_other again =
        listed_other plan core m now (willing_of plan core m now again)
        (λ k h. card_is_out plan core m now k (or_parts (candidate_of plan core m now k).sdown (is_passed_over plan core m now again k) h).0)

pub best_awaited : (plan : Plan) (core : Core) (m now : ℕ) → IsSoundPlan plan → m < master_count plan → Best plan core.kept m (best_of plan core m now)
best_awaited plan core m now p lt =
    awaited_of plan core m (best_place plan core m now) p lt
    (first_other plan core m (switched_to plan core m now)
    (if is_given_away plan core m now then None else best_told plan core m now)
    (switched_other plan core m now plan.profile)
    (unless_given_away plan core m (is_given_away plan core m now) (best_told plan core m now) (told_other plan core m now)))
