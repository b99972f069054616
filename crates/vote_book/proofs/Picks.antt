-- The pick has most votes of the epoch, and the smaller id on a tie.
use Rattle.std.proofs.Common.{◌≡◌, ℕ, zero, suc, ◌+◌, ◌<◌, ◌≤◌, Bool, true, false, cond, Option, Some, None, refl, ap, ◌∙◌, ⊎_elim, arith, eqb}
use Rattle.std.specs.Prelude.{MatchOption, unwrap_or, ◌⊎◌}
use Rattle.std.proofs.lemmas.Bool.Decides.{nat_tests}
use Rattle.std.proofs.lemmas.Bool.{and_parts}
use Rattle.ballot_law.specs.declared.addresses.RunId.{RunId}
use Rattle.ballot_law.specs.Counts.{count_below}
use Rattle.ballot_law.specs.Orders.{same_id, id_before}
use Rattle.ballot_law.specs.declared.hearings.HeardVote.{HeardVote}
use Rattle.ballot_law.specs.VotesHeard.{is_for, count_in, leads, leader_of, with_vote, leader_below, pick_in, IsPick}
use Rattle.ballot_law.proofs.CountedVotes.{same_id-equal}
use Rattle.ballot_law.proofs.Counting.{below_suc}
use Rattle.ballot_law.proofs.Rising.{lex, lex_trans, lex_irrefl, id_strict}

-- Counts

counted : (p : ℕ → Bool) (n : ℕ) (b : Bool) → p n ≡ b → count_below p (suc n) ≡ cond b (count_below p n + 1) (count_below p n)
counted p n b e = ap (λ (v : Bool). cond v (count_below p n + 1) (count_below p n)) e

some_counted : (p : ℕ → Bool) (n v : ℕ) → v < n → p v ≡ true → 0 < count_below p n
some_counted p zero v lt e = absurd (omega arith)
some_counted p (suc n) v lt e = known (p n) refl (λ l. some_counted p n v l e)
  where
    known : (b : Bool) → p n ≡ b → (v < n → 0 < count_below p n) → 0 < count_below p (suc n)
    known true h earlier = rw (counted p n true h) (omega arith)
    known false h earlier = rw (counted p n false h) (⊎_elim earlier (λ same. let clash : p n ≡ true = rw (← same) e in cc) (below_suc v n lt))

none_counted : (p : ℕ → Bool) (n : ℕ) → ((v : ℕ) → v < n → p v ≡ false) → count_below p n ≡ 0
none_counted p zero h = refl
none_counted p (suc n) h = counted p n false (h n (omega arith)) ∙ none_counted p n (λ v lt. h v (omega arith))

counted_some : (p : ℕ → Bool) (n : ℕ) → 0 < count_below p n → (v : ℕ) × (v < n) × (p v ≡ true)
counted_some p zero h = absurd (omega arith)
counted_some p (suc n) h = known (p n) refl (counted_some p n)
  where
    known : (b : Bool) → p n ≡ b → (0 < count_below p n → (v : ℕ) × (v < n) × (p v ≡ true)) → (v : ℕ) × (v < suc n) × (p v ≡ true)
    known true e earlier = (n, omega arith, e)
    known false e earlier =
        let fewer : 0 < count_below p n = rw (counted p n false e) at h in
        let found = earlier fewer in
        (found.0, (let l : found.0 < n = found.1 in omega arith), found.2)

-- The order of candidates

lex_le : (p q : ℕ) (x : Bool) → lex p q x ≡ false → p ≤ q
lex_le p q x h = grind (arith, nat_tests)

lex_tie : (p q : ℕ) (x : Bool) → lex p q x ≡ false → p ≡ q → x ≡ false
lex_tie p q x h e = grind (arith, nat_tests)

lead_trans : (count : RunId → ℕ) (a b c : RunId) → leads count a b ≡ true → leads count b c ≡ true → leads count a c ≡ true
lead_trans count a b c h k = lex_trans (count a) (count b) (count c) (id_before a b) (id_before b c) (id_before a c) (id_strict.transitive a b c) h k

lead_irrefl : (count : RunId → ℕ) (a : RunId) → leads count a a ≡ false
lead_irrefl count a = lex_irrefl (count a) (id_before a a) (id_strict.irreflexive a)

id_same : (a : RunId) → same_id a a ≡ true
id_same a = grind (arith, nat_tests)

-- The leader among the first voters

abbrev Votes : Type 0
Votes = ℕ → Option HeardVote

record IsLeader (count : RunId → ℕ) (votes : Votes) (epoch n : ℕ) (leader : RunId) : Type 0 where
  pub voter : ℕ
  pub first : voter < n
  pub has : is_for epoch leader (votes voter) ≡ true
  pub none_ahead : (v : ℕ) (candidate : RunId) → v < n → is_for epoch candidate (votes v) ≡ true → leads count candidate leader ≡ false

abbrev NoVote : Votes → (epoch n : ℕ) → Type 0
NoVote votes epoch n = (v : ℕ) (candidate : RunId) → v < n → is_for epoch candidate (votes v) ≡ false

abbrev Led : (RunId → ℕ) → Votes → (epoch n : ℕ) → Option RunId → Type 0
Led count votes epoch n leader = MatchOption leader (NoVote votes epoch n) (IsLeader count votes epoch n)

-- a voter without a vote of the epoch changes nothing
without : (count : RunId → ℕ) (votes : Votes) (epoch n : ℕ) (leader : Option RunId) → ((candidate : RunId) → is_for epoch candidate (votes n) ≡ false) →
    Led count votes epoch n leader → Led count votes epoch (suc n) leader
without count votes epoch n None no_vote led =
    λ v candidate lt. ⊎_elim (λ l. led v candidate l) (λ same. rw same (no_vote candidate)) (below_suc v n lt)
without count votes epoch n (Some leader) no_vote led =
    record {
      voter = led.voter;
      first = let l = led.first in omega arith;
      has = led.has;
      none_ahead = λ v candidate lt e.
          ⊎_elim (λ l. led.none_ahead v candidate l e) (λ same. let never = no_vote candidate in let clash : is_for epoch candidate (votes n) ≡ true = rw (← same) e in cc)
          (below_suc v n lt);
    }

-- a vote of the epoch is for its candidate alone
own_candidate : (epoch : ℕ) (vote : HeardVote) (candidate : RunId) → is_for epoch candidate (Some vote) ≡ true → vote.candidate ≡ candidate
own_candidate epoch vote candidate e = same_id-equal vote.candidate candidate (and_parts (eqb vote.epoch epoch) (same_id vote.candidate candidate) e).1

new_leader : (count : RunId → ℕ) (votes : Votes) (epoch n : ℕ) (vote : HeardVote) → votes n ≡ Some vote → eqb vote.epoch epoch ≡ true →
    ((v : ℕ) (candidate : RunId) → v < n → is_for epoch candidate (votes v) ≡ true → leads count candidate vote.candidate ≡ false) →
    IsLeader count votes epoch (suc n) vote.candidate
new_leader count votes epoch n vote is e ahead =
    record {
      voter = n;
      first = omega arith;
      has = rw (is, e, id_same vote.candidate) refl;
      none_ahead = λ v candidate lt h.
          ⊎_elim
          (λ l. ahead v candidate l h)
          (λ same. let at_n : is_for epoch candidate (votes n) ≡ true = rw (← same) h in let his : is_for epoch candidate (Some vote) ≡ true = rw is at at_n in
          rw (← own_candidate epoch vote candidate his) (lead_irrefl count vote.candidate))
          (below_suc v n lt);
    }

old_leader : (count : RunId → ℕ) (votes : Votes) (epoch n : ℕ) (vote : HeardVote) (leader : RunId) → votes n ≡ Some vote → leads count vote.candidate leader ≡ false →
    IsLeader count votes epoch n leader → IsLeader count votes epoch (suc n) leader
old_leader count votes epoch n vote leader is behind led =
    record {
      voter = led.voter;
      first = let l = led.first in omega arith;
      has = led.has;
      none_ahead = λ v candidate lt h.
          ⊎_elim
          (λ l. led.none_ahead v candidate l h)
          (λ same. let at_n : is_for epoch candidate (votes n) ≡ true = rw (← same) h in let his : is_for epoch candidate (Some vote) ≡ true = rw is at at_n in
          rw (← own_candidate epoch vote candidate his) behind)
          (below_suc v n lt);
    }

taken : (count : RunId → ℕ) (votes : Votes) (epoch n : ℕ) (vote : HeardVote) (leader : Option RunId) → votes n ≡ Some vote → eqb vote.epoch epoch ≡ true →
    Led count votes epoch n leader → IsLeader count votes epoch (suc n) (leader_of count leader vote.candidate)
taken count votes epoch n vote None is e led =
    new_leader count votes epoch n vote is e (λ v candidate lt h. let never = led v candidate lt in cc)
taken count votes epoch n vote (Some leader) is e led = ahead (leads count vote.candidate leader) refl
  where
    overtaken : (candidate : RunId) → leads count vote.candidate leader ≡ true → leads count candidate leader ≡ false → (b : Bool) → leads count candidate vote.candidate ≡ b →
        b ≡ false
    overtaken candidate h behind true k = let t = lead_trans count candidate vote.candidate leader k h in cc
    overtaken candidate h behind false k = refl

    ahead : (b : Bool) → leads count vote.candidate leader ≡ b → IsLeader count votes epoch (suc n) (cond b vote.candidate leader)
    ahead true h = new_leader count votes epoch n vote is e (λ v candidate lt k. overtaken candidate h (led.none_ahead v candidate lt k) (leads count candidate vote.candidate)
        refl)
    ahead false h = old_leader count votes epoch n vote leader is h led

other_epoch : (epoch : ℕ) (vote : HeardVote) (candidate : RunId) → eqb vote.epoch epoch ≡ false → is_for epoch candidate (Some vote) ≡ false
other_epoch epoch vote candidate e = rw e refl

more : (count : RunId → ℕ) (votes : Votes) (epoch n : ℕ) (leader : Option RunId) (vote : Option HeardVote) → votes n ≡ vote → Led count votes epoch n leader →
    Led count votes epoch (suc n) (with_vote count epoch leader vote)
more count votes epoch n leader None is led = without count votes epoch n leader (λ candidate. rw is refl) led
more count votes epoch n leader (Some vote) is led = known (eqb vote.epoch epoch) refl
  where
    known : (b : Bool) → eqb vote.epoch epoch ≡ b → Led count votes epoch (suc n) (cond b (Some (leader_of count leader vote.candidate)) leader)
    known true e = taken count votes epoch n vote leader is e led
    known false e = without count votes epoch n leader (λ candidate. rw is (other_epoch epoch vote candidate e)) led

led_below : (count : RunId → ℕ) (votes : Votes) (epoch n : ℕ) → Led count votes epoch n (leader_below count votes epoch n)
led_below count votes epoch zero = λ v candidate lt. absurd (omega arith)
led_below count votes epoch (suc n) = more count votes epoch n (leader_below count votes epoch n) (votes n) refl (led_below count votes epoch n)

pick_of : (votes : Votes) (n epoch : ℕ) (me : RunId) (leader : Option RunId) → Led (count_in votes n epoch) votes epoch n leader → IsPick votes n epoch me (unwrap_or leader me)
pick_of votes n epoch me None led =
    let zero_count : (candidate : RunId) → count_in votes n epoch candidate ≡ 0 =
    λ candidate. none_counted (λ v. is_for epoch candidate (votes v)) n (λ v lt. led v candidate lt) in
    record {
      none = λ h. refl;
      most = λ candidate. let z = zero_count candidate in omega arith;
      smallest = λ candidate some e. absurd (let z = zero_count candidate in omega arith);
    }
pick_of votes n epoch me (Some leader) led =
    record {
      none = λ h. absurd (let z = h leader in let some = some_counted (λ v. is_for epoch leader (votes v)) n led.voter led.first led.has in omega arith);
      most = λ candidate. reached candidate (count_in votes n epoch candidate) refl;
      smallest = λ candidate some e. lex_tie (count_in votes n epoch candidate) (count_in votes n epoch leader) (id_before candidate leader) (behind candidate some) e;
    }
  where
    behind : (candidate : RunId) → 0 < count_in votes n epoch candidate → leads (count_in votes n epoch) candidate leader ≡ false
    behind candidate some = let found = counted_some (λ v. is_for epoch candidate (votes v)) n some in led.none_ahead found.0 candidate found.1 found.2

    reached : (candidate : RunId) (c : ℕ) → count_in votes n epoch candidate ≡ c → count_in votes n epoch candidate ≤ count_in votes n epoch leader
    reached candidate zero e = omega arith
    reached candidate (suc c) e = lex_le (count_in votes n epoch candidate) (count_in votes n epoch leader) (id_before candidate leader) (behind candidate (omega arith))

pub pick_most : (votes : Votes) (n epoch : ℕ) (me : RunId) → IsPick votes n epoch me (pick_in votes n epoch me)
pick_most votes n epoch me = pick_of votes n epoch me (leader_below (count_in votes n epoch) votes epoch n) (led_below (count_in votes n epoch) votes epoch n)
