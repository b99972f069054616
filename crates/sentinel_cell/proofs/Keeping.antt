-- What one turn leaves of a Sentinel and its store.
use Rattle.std.proofs.Common.{◌≡◌, ◌≢◌, ◌↔◌, ◌⊎◌, ℕ, zero, suc, ◌+◌, ◌-◌, ◌^◌, ◌<◌, Bool, true, false, cond, List, [], ◌∷◌, ◌++◌, drop, length, Option, Some, None, refl, sym, ap, ◌∙◌, subst, inl, inr, ⊎_elim, arith, true≢false, eq-eqb}
use Rattle.std.specs.Prelude.{slice_index_or, IfSome, IsOk, Result, Ok, Err, not, ◌&&◌, ◌||◌, ◌==◌}
use Rattle.std.proofs.Math.Seq.{drop-append_seam, drop-length}
use Rattle.std.proofs.lemmas.Bool.{eqb-true, and_parts, and_from}
use Rattle.ballot_law.specs.declared.addresses.RunId.{RunId}
use Rattle.ballot_law.specs.declared.cards.Card.{Card}
use Rattle.ballot_law.specs.declared.cards.Kept.{Kept}
use Rattle.ballot_law.specs.declared.cards.KeptMaster.{KeptMaster}
use Rattle.ballot_law.specs.declared.events.Input.{Input}
use Rattle.ballot_law.specs.declared.messages.Output.{Output}
use Rattle.ballot_law.specs.Ballots.{card_of, no_kept}
use Rattle.ballot_law.specs.Orders.{same_addr}
use Rattle.sentinel_conf.specs.Rewritten.{rewritten, IsKeptPart}
use Rattle.sentinel_rules.specs.Plans.{Plan, master_count}
use Rattle.sentinel_rules.specs.States.{Core}
use Rattle.ballot_law.specs.Limits.{IsWithinEvent}
use Rattle.sentinel_rules.specs.Takes.{Next, next}
use Rattle.sentinel_rules.proofs.Choices.{same_addr-equal, same_addr-same}
use Rattle.sentinel_outbox.specs.declared.faults.StoreFault.{StoreFault}
use Rattle.sentinel_outbox.specs.declared.faults.StoreFault.TheVariants.{Refused as WasRefused}
use Rattle.sentinel_outbox.specs.declared.phase.Phase.TheVariants.{Ready, Halted}
use Rattle.sentinel_core.specs.Sentinels.{Whole, IsWhole, is_flush}
use Rattle.sentinel_cell.specs.declared.entry.Entry.{Entry}
use Rattle.sentinel_cell.specs.declared.entry.Outcome.TheVariants.{Stored, Refused}
use Rattle.sentinel_cell.specs.declared.keeper.Keeper.{Keeper}
use Rattle.sentinel_cell.specs.Histories.{World, IsStep, IsLeft, IsText, after, entry_of, next_of, must_store, text_of, same_candidate, same_entry, same_entries, same_kept, same_card, changed_from, changed_card}

-- Whether two kept parts are the same

same_number : (a b : ℕ) → (a == b) ≡ true → a ≡ b
same_number a b e = eqb-true a b e

candidate_true : (c d : Option RunId) → same_candidate c d ≡ true → c ≡ d
candidate_true None None e = refl
candidate_true None (Some d) e = absurd (true≢false (sym e))
candidate_true (Some c) None e = absurd (true≢false (sym e))
candidate_true (Some c) (Some d) e =
    let one = and_parts (c.hi == d.hi) (c.lo == d.lo) e in
    let hi : c.hi ≡ d.hi = same_number c.hi d.hi one.0 in
    let lo : c.lo ≡ d.lo = same_number c.lo d.lo one.1 in
    λ i. Some (record { hi = hi i; lo = lo i })

entry_true : (a b : KeptMaster) → same_entry a b ≡ true → a ≡ b
entry_true a b e =
    let one = and_parts (a.card.epoch == b.card.epoch) (same_addr a.card.addr b.card.addr && ((a.voted == b.voted) && same_candidate a.candidate b.candidate)) e in
    let two = and_parts (same_addr a.card.addr b.card.addr) ((a.voted == b.voted) && same_candidate a.candidate b.candidate) one.1 in
    let three = and_parts (a.voted == b.voted) (same_candidate a.candidate b.candidate) two.1 in
    let epoch : a.card.epoch ≡ b.card.epoch = same_number a.card.epoch b.card.epoch one.0 in
    let addr : a.card.addr ≡ b.card.addr = same_addr-equal a.card.addr b.card.addr two.0 in
    let voted : a.voted ≡ b.voted = same_number a.voted b.voted three.0 in
    let candidate : a.candidate ≡ b.candidate = candidate_true a.candidate b.candidate three.1 in
    λ i. record { card = record { epoch = epoch i; addr = addr i }; voted = voted i; candidate = candidate i }

entries_true : (xs ys : List KeptMaster) → same_entries xs ys ≡ true → xs ≡ ys
entries_true [] [] e = refl
entries_true [] (y ∷ ys) e = absurd (true≢false (sym e))
entries_true (x ∷ xs) [] e = absurd (true≢false (sym e))
entries_true (x ∷ xs) (y ∷ ys) e =
    let one = and_parts (same_entry x y) (same_entries xs ys) e in
    let first : x ≡ y = entry_true x y one.0 in
    let rest : xs ≡ ys = entries_true xs ys one.1 in
    λ i. first i ∷ rest i

pub kept_true : (a b : Kept) → same_kept a b ≡ true → a ≡ b
kept_true a b e =
    let one = and_parts (a.current == b.current) (same_entries a.masters b.masters) e in
    let current : a.current ≡ b.current = same_number a.current b.current one.0 in
    let masters : a.masters ≡ b.masters = entries_true a.masters b.masters one.1 in
    λ i. record { current = current i; masters = masters i }

candidate_same : (c : Option RunId) → same_candidate c c ≡ true
candidate_same None = refl
candidate_same (Some c) = and_from (c.hi == c.hi) (c.lo == c.lo) (eq-eqb c.hi c.hi refl) (eq-eqb c.lo c.lo refl)

entries_same : (xs : List KeptMaster) → same_entries xs xs ≡ true
entries_same [] = refl
entries_same (x ∷ xs) =
    and_from (same_entry x x) (same_entries xs xs)
    (and_from (x.card.epoch == x.card.epoch) (same_addr x.card.addr x.card.addr && ((x.voted == x.voted) && same_candidate x.candidate x.candidate))
    (eq-eqb x.card.epoch x.card.epoch refl)
    (and_from (same_addr x.card.addr x.card.addr) ((x.voted == x.voted) && same_candidate x.candidate x.candidate) (same_addr-same x.card.addr)
    (and_from (x.voted == x.voted) (same_candidate x.candidate x.candidate) (eq-eqb x.voted x.voted refl) (candidate_same x.candidate))))
    (entries_same xs)

pub kept_same : (a b : Kept) → a ≡ b → same_kept a b ≡ true
kept_same a b e = subst (λ (x : Kept). same_kept a x ≡ true) e
    (and_from (a.current == a.current) (same_entries a.masters a.masters) (eq-eqb a.current a.current refl) (entries_same a.masters))

must_case : (changed same : Bool) (a b : Kept) → same_kept a b ≡ same → (changed ≡ true ↔ (a ≢ b)) → changed ≡ not same
must_case true true a b e h = absurd (h.0 refl (kept_true a b e))
must_case false true a b e h = refl
must_case changed false a b e h = h.1 (λ same. true≢false (sym (kept_same a b same) ∙ e))

-- The master whose configuration is another one

abbrev card_here : List KeptMaster → ℕ → Card
card_here xs m = (slice_index_or xs m no_kept).card

same_card-true : (a b : Card) → a ≡ b → same_card a b ≡ true
same_card-true a b e = subst (λ (x : Card). same_card a x ≡ true) e (and_from (a.epoch == a.epoch) (same_addr a.addr a.addr) (eq-eqb a.epoch a.epoch refl) (same_addr-same a.addr))

same_card-false : (a b : Card) (s : Bool) → same_card a b ≡ s → a ≢ b → s ≡ false
same_card-false a b true e apart =
    let one = and_parts (a.epoch == b.epoch) (same_addr a.addr b.addr) e in
    let epoch : a.epoch ≡ b.epoch = same_number a.epoch b.epoch one.0 in
    let addr : a.addr ≡ b.addr = same_addr-equal a.addr b.addr one.1 in
    absurd (apart (λ i. record { epoch = epoch i; addr = addr i }))
same_card-false a b false e apart = refl

none_changed : (base : ℕ) (xs ys : List KeptMaster) → length xs ≡ length ys → ((m : ℕ) → m < length xs → card_here ys m ≡ card_here xs m) → changed_from base xs ys ≡ None
none_changed base [] ys e same = refl
none_changed base (x ∷ xs) [] e same = refl
none_changed base (x ∷ xs) (y ∷ ys) e same =
    ap (λ (b : Bool). cond b (changed_from (base + 1) xs ys) (Some base)) (same_card-true x.card y.card (sym (same 0 (omega arith))))
    ∙ none_changed (base + 1) xs ys (omega arith) (λ m low. same (suc m) (omega arith))

one_changed : (base k : ℕ) (xs ys : List KeptMaster) → length xs ≡ length ys → k < length xs → card_here ys k ≢ card_here xs k → ((m : ℕ) → m ≢ k → card_here ys m ≡ card_here xs m)
    → changed_from base xs ys ≡ Some (base + k)
one_changed base k [] ys e low apart same = absurd (omega arith)
one_changed base k (x ∷ xs) [] e low apart same = absurd (omega arith)
one_changed base zero (x ∷ xs) (y ∷ ys) e low apart same =
    ap (λ (b : Bool). cond b (changed_from (base + 1) xs ys) (Some base)) (same_card-false x.card y.card (same_card x.card y.card) refl (λ s. apart (sym s)))
    ∙ ap (λ (n : ℕ). Some n) (let is : base ≡ base + 0 = omega arith in is)
one_changed base (suc k) (x ∷ xs) (y ∷ ys) e low apart same =
    ap (λ (b : Bool). cond b (changed_from (base + 1) xs ys) (Some base)) (same_card-true x.card y.card (sym (same 0 (omega arith))))
    ∙ (one_changed (base + 1) k xs ys (omega arith) (omega arith) apart (λ m other. same (suc m) (omega arith)) ∙
    ap (λ (n : ℕ). Some n) (let is : (base + 1) + k ≡ base + suc k = omega arith in is))

-- a change is told where one configuration changed, and no other did
change_is : (former now : Kept) (change : Option ℕ) → length former.masters ≡ length now.masters
    → IfSome change (λ m. (m < length now.masters) × (card_of now m ≢ card_of former m)) → ((m : ℕ) → change ≢ Some m → card_of now m ≡ card_of former m)
    → change ≡ changed_card former now
change_is former now None long one others = sym (none_changed 0 former.masters now.masters long (λ m _. others m (λ e. let none : ⊥ = cc in none)))
change_is former now (Some k) long one others =
    sym (one_changed 0 k former.masters now.masters long (let low : k < length now.masters = one.0 in omega arith) one.1 (λ m other. others m (λ e. other (sym (same_some k m e))))
    ∙ ap (λ (n : ℕ). Some n) (let is : 0 + k ≡ k = omega arith in is))
  where
    same_some : (a b : ℕ) → Some a ≡ Some b → a ≡ b
    same_some a b e = cc

-- the change that a Sentinel tells after a take
pub change_taken : (before now : Whole) → IsWhole before → IsWhole now → now.plan ≡ before.plan
    → IfSome now.change (λ m. (m < length now.core.kept.masters) × (card_of now.core.kept m ≢ card_of before.core.kept m))
    → ((m : ℕ) → now.change ≢ Some m → card_of now.core.kept m ≡ card_of before.core.kept m)
    → now.change ≡ changed_card before.core.kept now.core.kept
change_taken before now was is plan one others =
    change_is before.core.kept now.core.kept now.change (was.core.kept_masters ∙ (ap (λ (p : Plan). master_count p) (sym plan) ∙ sym is.core.kept_masters)) one others

module _ {S : Type 0} (text : S → Option (List ℕ)) (failures : S → ℕ) (w : World) (i : Input) (k : Keeper S) (left : IsLeft text failures w k) where
  abbrev gives : Next
  gives = next k.sentinel.plan k.sentinel.core i.now i.event

  same_next : gives ≡ next_of w i
  same_next = λ j. next (left.plan j) (left.core j) i.now i.event

  -- the master whose configuration was changed
  changes : (taken : Whole) → taken.core ≡ (next_of w i).core → changed_card k.sentinel.core.kept taken.core.kept ≡ changed_card w.core.kept (next_of w i).core.kept
  changes taken core = λ j. changed_card (left.core j).kept (core j).kept

  -- whether there was something to store
  pub musts : (changed : Bool) (core : Core) → core ≡ gives.core → (changed ≡ true ↔ (core.kept ≢ k.sentinel.core.kept)) → (changed || is_flush i.event) ≡ must_store w i
  musts changed core e h =
      let kept : core.kept ≡ (next_of w i).core.kept = ap (λ (c : Core). c.kept) (e ∙ ap (λ (n : Next). n.core) same_next) in
      let was : k.sentinel.core.kept ≡ w.core.kept = ap (λ (c : Core). c.kept) left.core in
      ap (λ (b : Bool). b || is_flush i.event) (must_case changed (same_kept core.kept k.sentinel.core.kept) core.kept k.sentinel.core.kept refl h ∙
      (λ j. not (same_kept (kept j) (was j))))

  -- a text that was written, or the one before
  written : (w2 : World) (must : Bool) (new : List ℕ) (before now : Option (List ℕ)) → w2.text ≡ cond must (Some new) w.text → w2.halted ≡ w.halted → w2.refused ≡ w.refused
      → (must ≡ false → now ≡ before) → (must ≡ true → IfSome now (λ bytes. bytes ≡ new)) → IfSome before (IsText text failures w) → IfSome now (IsText text failures w2)
  written w2 must new before None a b c same changed h = tt
  written w2 true new before (Some bytes) a b c same changed h = inl (a ∙ ap (λ (x : List ℕ). Some x) (sym (changed refl)))
  written w2 false new before (Some bytes) a b c same changed h =
      let was : IsText text failures w bytes = subst (λ (t : Option (List ℕ)). IfSome t (IsText text failures w)) (sym (same refl)) h in
      ⊎_elim (λ (e : w.text ≡ Some bytes). inl (a ∙ e)) (λ (e : (w.halted ≡ true) × (w.refused ≡ Some bytes)). inr (b ∙ e.0, c ∙ e.1)) was

  pub stored_turn : (number : ℕ) (k2 : Keeper S) (taken : Whole) (changed : Bool) (shown outputs shown2 : List Output) → w.halted ≡ false → IsWithinEvent i.event
      → taken.plan ≡ k.sentinel.plan → taken.core ≡ gives.core → (changed ≡ true ↔ (taken.core.kept ≢ k.sentinel.core.kept)) → IsKeptPart taken.plan.conf taken.core.kept
      → taken.change ≡ changed_card k.sentinel.core.kept taken.core.kept → outputs ≡ gives.outputs → shown2 ≡ shown ++ outputs →
      k2.sentinel ≡ record taken { stored = taken.core.kept; phase = Ready }
      → ((changed || is_flush i.event) ≡ false → text k2.store ≡ text k.store)
      → ((changed || is_flush i.event) ≡ true → IfSome (text k2.store) (λ bytes. bytes ≡ rewritten taken.plan.conf taken.core.kept))
      → failures k2.store ≡ failures k.store
      → let e = entry_of number i Stored (length shown) shown2 (failures k2.store) in IsStep w e × IsLeft text failures (after w e) k2
  stored_turn number k2 taken changed shown outputs shown2 running within plan core differs part change out more new same wrote count =
      let e : Entry = entry_of number i Stored (length shown) shown2 (failures k2.store) in
      let to_core : taken.core ≡ (next_of w i).core = core ∙ ap (λ (n : Next). n.core) same_next in
      let to_plan : taken.plan ≡ w.plan = plan ∙ left.plan in
      let must : (changed || is_flush i.event) ≡ must_store w i = musts changed taken.core core differs in
      let text_same : rewritten taken.plan.conf taken.core.kept ≡ text_of w i = (λ j. rewritten (to_plan j).conf (to_core j).kept) in (
        (
          running,
          (ap (drop (length shown)) more ∙ drop-append_seam shown outputs) ∙ (out ∙ ap (λ (n : Next). n.outputs) same_next),
          (let a : failures k2.store ≡ failures k.store = count in let b : failures k.store ≡ w.failures = left.failures_are in omega arith),
          within,
        ),
        record {
          plan = ap (λ (x : Whole). x.plan) new ∙ to_plan;
          core = ap (λ (x : Whole). x.core) new ∙ to_core;
          stored = ap (λ (x : Whole). x.stored) new ∙ ap (λ (c : Core). c.kept) to_core;
          phase = ap (λ (x : Whole). x.phase) new ∙ ap (λ (b : Bool). cond b Halted Ready) (sym running);
          change = ap (λ (x : Whole). x.change) new ∙ (change ∙ changes taken to_core);
          failures_are = refl;
          text_is = written (after w e) (must_store w i) (text_of w i) (text k.store) (text k2.store) refl refl refl
              (λ f. same (must ∙ f)) (λ t. subst (λ (x : List ℕ). IfSome (text k2.store) (λ bytes. bytes ≡ x)) text_same (wrote (must ∙ t))) left.text_is;
          kept = subst (λ (x : Plan × Core). IsKeptPart x.0.conf x.1.kept) (λ j. (to_plan j, to_core j)) part;
          room = λ h. subst (λ (n : ℕ). n < 2 ^ 64 - 1) (sym count) (left.room h);
        },
      )

  refused_text : (w2 : World) (new : List ℕ) (before now : Option (List ℕ)) → w.halted ≡ false → w2.text ≡ w.text → w2.halted ≡ true → w2.refused ≡ Some new
      → (now ≡ before) ⊎ IfSome now (λ bytes. bytes ≡ new) → IfSome before (IsText text failures w) → IfSome now (IsText text failures w2)
  refused_text w2 new before None running a b c either h = tt
  refused_text w2 new before (Some bytes) running a b c either h = ⊎_elim
      (λ (same : Some bytes ≡ before). let was : IsText text failures w bytes = subst (λ (t : Option (List ℕ)). IfSome t (IsText text failures w)) (sym same) h in
      ⊎_elim (λ (e : w.text ≡ Some bytes). inl (a ∙ e)) (λ (e : (w.halted ≡ true) × (w.refused ≡ Some bytes)). absurd (true≢false (sym e.0 ∙ running))) was)
      (λ (e : bytes ≡ new). inr (b, c ∙ ap (λ (x : List ℕ). Some x) (sym e)))
      either

  pub refused_turn : (number : ℕ) (k2 : Keeper S) (taken : Whole) (changed : Bool) (shown shown2 : List Output) → w.halted ≡ false → IsWithinEvent i.event
      → taken.plan ≡ k.sentinel.plan → taken.core ≡ gives.core → taken.stored ≡ k.sentinel.stored → taken.change ≡ changed_card k.sentinel.core.kept taken.core.kept →
      (changed ≡ true ↔ (taken.core.kept ≢ k.sentinel.core.kept))
      → shown2 ≡ shown → k2.sentinel ≡ record taken { phase = Halted } → (changed || is_flush i.event) ≡ true
      → (text k2.store ≡ text k.store) ⊎ IfSome (text k2.store) (λ bytes. bytes ≡ rewritten taken.plan.conf taken.core.kept)
      → failures k2.store ≡ failures k.store + 1
      → let e = entry_of number i Refused (length shown) shown2 (failures k2.store) in IsStep w e × IsLeft text failures (after w e) k2
  refused_turn number k2 taken changed shown shown2 running within plan core stored change differs out new pending either count =
      let e : Entry = entry_of number i Refused (length shown) shown2 (failures k2.store) in
      let to_core : taken.core ≡ (next_of w i).core = core ∙ ap (λ (n : Next). n.core) same_next in
      let to_plan : taken.plan ≡ w.plan = plan ∙ left.plan in
      let must : (changed || is_flush i.event) ≡ must_store w i = musts changed taken.core core differs in
      let text_same : rewritten taken.plan.conf taken.core.kept ≡ text_of w i = (λ j. rewritten (to_plan j).conf (to_core j).kept) in (
        (
          running,
          ap (drop (length shown)) out ∙ drop-length shown,
          (let a : failures k2.store ≡ failures k.store + 1 = count in let b : failures k.store ≡ w.failures = left.failures_are in omega arith),
          within,
          sym must ∙ pending,
        ),
        record {
          plan = ap (λ (x : Whole). x.plan) new ∙ to_plan;
          core = ap (λ (x : Whole). x.core) new ∙ to_core;
          stored = ap (λ (x : Whole). x.stored) new ∙ (stored ∙ left.stored);
          phase = ap (λ (x : Whole). x.phase) new;
          change = ap (λ (x : Whole). x.change) new ∙ (change ∙ changes taken to_core);
          failures_are = refl;
          text_is = refused_text (after w e) (text_of w i) (text k.store) (text k2.store) running refl refl refl
              (subst (λ (x : List ℕ). (text k2.store ≡ text k.store) ⊎ IfSome (text k2.store) (λ bytes. bytes ≡ x)) text_same either) left.text_is;
          kept = left.kept;
          room = λ (h : true ≡ false). absurd (true≢false h);
        },
      )

  -- a Sentinel that takes an input isn't halted
  pub runs : (k.sentinel.phase ≡ Halted → ⊥) → w.halted ≡ false
  runs not_halted = known w.halted left.phase
    where
      known : (b : Bool) → k.sentinel.phase ≡ cond b Halted Ready → b ≡ false
      known true e = absurd (not_halted e)
      known false e = refl

-- how a take or a store ended
pub ran : {X E : Type 0} (r : Result X E) (x : X) → r ≡ Ok x → {f : E} → r ≡ Err f → ⊥
ran r x a {f} b = let e : Ok x ≡ Err f = sym a ∙ b in cc

pub pends : {P X : Type 0} (r : Result X StoreFault) (must : Bool) → r ≡ Err WasRefused → (must ≡ false → P × IsOk r) → must ≡ true
pends {P} {X} r true e f = refl
pends {P} {X} r false e f = absurd (not_ok r e (f refl).1)
  where
    not_ok : (r : Result X StoreFault) → r ≡ Err WasRefused → IsOk r → ⊥
    not_ok (Ok x) e h = cc
    not_ok (Err y) e h = true≢false (sym h)
