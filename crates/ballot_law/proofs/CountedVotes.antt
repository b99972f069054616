-- Votes that are counted are votes of so many different Sentinels.
use Rattle.std.proofs.Common.{◌≡◌, ℕ, zero, suc, ◌+◌, ◌<◌, ◌≤◌, Bool, true, false, cond, Option, Some, None, List, [], ◌∷◌, length, refl, ap, subst, ◌∙◌, inl, inr, ⊎_elim, arith, eqb}
use Rattle.std.specs.Prelude.{◌⊎◌, ◌&&◌, Contains, nat_lt, if◌then◌else◌}
use Rattle.std.proofs.lemmas.Bool.{eqb-true}
use Rattle.std.proofs.lemmas.Bool.Decides.{nat_tests}
use Rattle.ballot_law.specs.declared.addresses.RunId.{RunId}
use Rattle.ballot_law.specs.declared.hearings.HeardVote.{HeardVote}
use Rattle.ballot_law.specs.Counts.{count_below}
use Rattle.ballot_law.specs.Orders.{same_id}
use Rattle.ballot_law.specs.OwnVotes.{Book}
use Rattle.ballot_law.specs.Rosters.{AtLeast}
use Rattle.ballot_law.proofs.Counting.{AtLeast-fewer, AtLeast-count_below}
use Rattle.ballot_law.specs.VotesHeard.{Hearing, greater, latest, is_for, is_leader, IsElectedIn, HearsNone, HasVotedFor, hearing_of}

-- The count with one more that was not counted

abbrev with_one : (ℕ → Bool) → (one : ℕ) → ℕ → Bool
with_one p one v = if eqb v one then true else p v

eqb-of_less : (v one : ℕ) → v < one → eqb v one ≡ false
eqb-of_less v one lt = grind (arith, nat_tests)

eqb-of_greater : (v one : ℕ) → one < v → eqb v one ≡ false
eqb-of_greater v one lt = grind (arith, nat_tests)

pub eqb-same : (v : ℕ) → eqb v v ≡ true
eqb-same v = grind (arith, nat_tests)

count_below-before : (p : ℕ → Bool) (one n : ℕ) → n ≤ one → count_below (with_one p one) n ≡ count_below p n
count_below-before p one zero le = refl
count_below-before p one (suc n) le =
    let lt : n < one = omega arith in
    let ih : count_below (with_one p one) n ≡ count_below p n = count_below-before p one n (omega arith) in
    rw (eqb-of_less n one lt, ih) refl

count_below-with_one : (p : ℕ → Bool) (one n : ℕ) → one < n → p one ≡ false → count_below (with_one p one) n ≡ count_below p n + 1
count_below-with_one p one zero lt e = absurd (omega arith)
count_below-with_one p one (suc n) lt e = ⊎_elim (λ l. above l (count_below-with_one p one n l e)) here (split n one lt)
  where
    split : (n one : ℕ) → one < suc n → (one < n) ⊎ (n ≡ one)
    split n one lt = grind arith

    here : n ≡ one → count_below (with_one p one) (suc n) ≡ count_below p (suc n) + 1
    here same =
        let none : p n ≡ false = rw same e in
        let se : eqb n one ≡ true = rw same (eqb-same one) in
        rw (se, none, count_below-before p one n (omega arith)) refl

    above : one < n → count_below (with_one p one) n ≡ count_below p n + 1 → count_below (with_one p one) (suc n) ≡ count_below p (suc n) + 1
    above l earlier = known (p n) refl
      where
        ne : eqb n one ≡ false
        ne = eqb-of_greater n one l

        known : (b : Bool) → p n ≡ b → count_below (with_one p one) (suc n) ≡ count_below p (suc n) + 1
        known true h = rw (ne, h, earlier) refl
        known false h = rw (ne, h, earlier) refl

-- so many counted voters and the own one are so many
pub AtLeast-counted : (P : ℕ → Type 0) (p : ℕ → Bool) (n own need : ℕ) → own < n → p own ≡ false → ((v : ℕ) → p v ≡ true → P v) → P own → need ≤ count_below p n + 1 →
    AtLeast P n need
AtLeast-counted P p n own need lt e f g enough =
    AtLeast-fewer P n need (count_below (with_one p own) n) (rw (count_below-with_one p own n lt e) enough) (AtLeast-count_below P (with_one p own) passes n)
  where
    known : (v : ℕ) (b : Bool) → eqb v own ≡ b → with_one p own v ≡ true → P v
    known v true h w = let same : v ≡ own = eqb-true v own h in rw same g
    known v false h w = f v (rw h at w)

    passes : (v : ℕ) → with_one p own v ≡ true → P v
    passes v w = known v (eqb v own) refl w

-- Votes

same_parts : (a b c d : ℕ) → (eqb a b && eqb c d) ≡ true → (a ≡ b) × (c ≡ d)
same_parts a b c d h = (grind (arith, nat_tests), grind (arith, nat_tests))

pub same_id-equal : (a b : RunId) → same_id a b ≡ true → a ≡ b
same_id-equal a b h =
    let parts = same_parts a.hi b.hi a.lo b.lo h in
    ap (λ (hi : ℕ). record { hi = hi; lo = a.lo }) parts.0 ∙ ap (λ (lo : ℕ). record { hi = b.hi; lo = lo }) parts.1

pub both : (a b : Bool) → (a && b) ≡ true → (a ≡ true) × (b ≡ true)
both true b h = (refl, h)
both false b h = (cc, cc)

pub Contains-head : {X : Type 0} → (x : X) (xs : List X) → Contains (x ∷ xs) x
Contains-head x xs = (0, omega arith, refl)

pub Contains-later : {X : Type 0} → (x y : X) (xs : List X) → Contains xs y → Contains (x ∷ xs) y
Contains-later x y xs h = (suc h.0, (let l : h.0 < length xs = h.1 in omega arith), h.2)

-- what is known of a voter was heard from it
pub Contains-latest : (heard : List Hearing) (voter : ℕ) (vote : HeardVote) → latest heard voter ≡ Some vote → Contains heard (record { voter = voter; vote = vote })
Contains-latest [] voter vote e = absurd (cc)
Contains-latest (h ∷ es) voter vote e = step (λ kept k. Contains-latest es voter kept k) (eqb h.voter voter) refl (latest es voter) refl e
  where
    Is : HeardVote → Type 0
    Is v = Contains (h ∷ es) (record { voter = voter; vote = v })

    at_head : h.voter ≡ voter → Is h.vote
    at_head same = subst (λ (v : ℕ). Contains (h ∷ es) (record { voter = v; vote = h.vote })) same (Contains-head h es)

    at_tail : (kept : HeardVote) → Contains es (record { voter = voter; vote = kept }) → Is kept
    at_tail kept earlier = Contains-later h (record { voter = voter; vote = kept }) es earlier

    newer : (kept : HeardVote) (b : Bool) → h.voter ≡ voter → Contains es (record { voter = voter; vote = kept }) → Is (cond b h.vote kept)
    newer kept true same earlier = at_head same
    newer kept false same earlier = at_tail kept earlier

    is : (x y : HeardVote) → Some x ≡ Some y → Is x → Is y
    is x y same i = let equal : x ≡ y = cc in subst Is equal i

    step : ((kept : HeardVote) → latest es voter ≡ Some kept → Contains es (record { voter = voter; vote = kept })) → (b : Bool) → eqb h.voter voter ≡ b →
        (told : Option HeardVote) → latest es voter ≡ told → cond b (Some (greater told h.vote)) told ≡ Some vote → Is vote
    step earlier true t None k s = is h.vote vote s (at_head (eqb-true h.voter voter t))
    step earlier true t (Some kept) k s = is (cond (nat_lt kept.epoch h.vote.epoch) h.vote kept) vote s
        (newer kept (nat_lt kept.epoch h.vote.epoch) (eqb-true h.voter voter t) (earlier kept k))
    step earlier false t None k s = absurd (cc)
    step earlier false t (Some kept) k s = is kept vote s (at_tail kept (earlier kept k))

-- a voter that is counted was heard to vote so
Contains-is_for : (heard : List Hearing) (epoch : ℕ) (candidate : RunId) (voter : ℕ) → is_for epoch candidate (latest heard voter) ≡ true →
    Contains heard (hearing_of voter epoch candidate)
Contains-is_for heard epoch candidate voter e = known (latest heard voter) refl e
  where
    known : (told : Option HeardVote) → latest heard voter ≡ told → is_for epoch candidate told ≡ true → Contains heard (hearing_of voter epoch candidate)
    known None t h = absurd (cc)
    known (Some vote) t h =
        let parts = both (eqb vote.epoch epoch) (same_id vote.candidate candidate) h in
        let of_epoch : vote.epoch ≡ epoch = eqb-true vote.epoch epoch parts.0 in
        let of_candidate : vote.candidate ≡ candidate = same_id-equal vote.candidate candidate parts.1 in
        let same : vote ≡ record { candidate = candidate; epoch = epoch } =
        ap (λ (c : RunId). record { candidate = c; epoch = vote.epoch }) of_candidate ∙ ap (λ (e : ℕ). record { candidate = candidate; epoch = e }) of_epoch in
        subst (λ (v : HeardVote). Contains heard (record { voter = voter; vote = v })) same (Contains-latest heard voter vote t)

latest-of_none : (heard : List Hearing) (voter epoch : ℕ) (candidate : RunId) → HearsNone heard voter → is_for epoch candidate (latest heard voter) ≡ false
latest-of_none heard voter epoch candidate none = known (latest heard voter) refl
  where
    known : (told : Option HeardVote) → latest heard voter ≡ told → is_for epoch candidate (latest heard voter) ≡ false
    known None t = rw t refl
    known (Some vote) t = absurd (none vote (Contains-latest heard voter vote t))

leader-is_leader : (candidate : RunId) (leader : Option RunId) → is_leader candidate leader ≡ true → leader ≡ Some candidate
leader-is_leader candidate None h = absurd (cc)
leader-is_leader candidate (Some leader) h = ap (λ (id : RunId). Some id) (same_id-equal leader candidate h)

-- for any votes, and any P that holds of each voter whose vote counts and of the own vote
pub AtLeast-kept : (P : ℕ → Type 0) (votes : ℕ → Option HeardVote) (book : Book) (n own epoch : ℕ) (me : RunId) (need : ℕ) → own < n → is_for epoch me (votes own) ≡ false →
    ((v : ℕ) → is_for epoch me (votes v) ≡ true → P v) → (book.voted ≡ epoch → book.leader ≡ Some me → P own) → IsElectedIn votes book n epoch me need → AtLeast P n need
AtLeast-kept P votes book n own epoch me need lt none counted of_own elected = known ((eqb book.voted epoch) && is_leader me book.leader) refl elected
  where
    p : ℕ → Bool
    p v = is_for epoch me (votes v)

    known : (b : Bool) → ((eqb book.voted epoch) && is_leader me book.leader) ≡ b → need ≤ count_below p n + (cond b 1 0) → AtLeast P n need
    known true h enough =
        let parts = both (eqb book.voted epoch) (is_leader me book.leader) h in
        AtLeast-counted P p n own need lt none counted (of_own (eqb-true book.voted epoch parts.0) (leader-is_leader me book.leader parts.1)) enough
    known false h enough = AtLeast-fewer P n need (count_below p n) (omega arith) (AtLeast-count_below P p counted n)

-- for any P that holds of each voter that was heard and of the own vote
pub AtLeast-elected : (P : ℕ → Type 0) (heard : List Hearing) (book : Book) (n own epoch : ℕ) (me : RunId) (need : ℕ) → own < n → HearsNone heard own →
    ((v : ℕ) → Contains heard (hearing_of v epoch me) → P v) → (book.voted ≡ epoch → book.leader ≡ Some me → P own) → IsElectedIn (latest heard) book n epoch me need →
    AtLeast P n need
AtLeast-elected P heard book n own epoch me need lt none of_heard of_own elected =
    AtLeast-kept P (latest heard) book n own epoch me need lt (latest-of_none heard own epoch me none) (λ v h. of_heard v (Contains-is_for heard epoch me v h)) of_own elected

pub ElectedHasVotes-holds : (heard : List Hearing) (book : Book) (n own epoch : ℕ) (me : RunId) (need : ℕ) → own < n → HearsNone heard own →
    IsElectedIn (latest heard) book n epoch me need → AtLeast (HasVotedFor heard book own epoch me) n need
ElectedHasVotes-holds heard book n own epoch me need lt none elected =
    AtLeast-elected (HasVotedFor heard book own epoch me) heard book n own epoch me need lt none (λ v c. inl c) (λ voted leader. inr (refl, voted, leader)) elected
