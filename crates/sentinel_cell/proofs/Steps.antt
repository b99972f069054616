-- Each step keeps the rule.
use Rattle.std.proofs.Common.{◌≡◌, ◌≢◌, ◌⊎◌, ℕ, zero, suc, ◌+◌, ◌/◌, ◌%◌, ◌<◌, ◌≤◌, eqb, ltb, max, Bool, true, false, cond, List, [], ◌∷◌, ◌++◌, length, get_or, set, refl, sym, ap, ◌∙◌, subst, ⊎_elim, inl, inr, arith, eq-eqb, ne_eqb, ltb-true, ltb-false, length-append, length-set, get_or-set_same, get_or-set_other}
use mathlib.Core.Option.{Option, none, some, some-injective, some-ne-none}
use mathlib.Core.Logic.{dite}
use mathlib.Core.List.{append-nil}
use native.Mathlib.Decide.{ℕ_discrete}
use lib.ListN.{get_elem?}
use lib.Seq.{set-get_or}
use Rattle.std.proofs.lemmas.Bool.Decides.{nat_tests}
use Rattle.atomic_table.specs.Table.{State, Me, step, stepped, opening, keeps, takes, gives, Allows, Splits, Joins, put_back, rest, chain, Valid, carried_after}
use Rattle.atomic_table.proofs.Lists.{at_set, set_else, set_again, at_longer}
use Rattle.ballot_law.specs.declared.addresses.Addr.{Addr}
use Rattle.sentinel_cell.specs.declared.entry.Entry.{Entry}
use Rattle.sentinel_cell.specs.declared.shared.TheConstants.{MOST_SEATS}
use Rattle.sentinel_cell.specs.declared.view.View.{View}
use Rattle.sentinel_cell.specs.declared.view.Stage.{Stage}
use Rattle.sentinel_cell.specs.declared.view.Stage.TheVariants.{Opening, Filling, Idle, Looked, Waiting, Serving}
use Rattle.ballot_law.specs.declared.cards.Card.{Card}
use Rattle.sentinel_cell.specs.Calls.{Begins, Has, AreApart, calls_by, is_shorter, Answered, IsOfBeginning}
use Rattle.sentinel_cell.specs.Turns.{total, share_of, looks, looks_of, Queued, Owned, Knows, AtHome, Out, Orderly, IsNew, Ruled, unpacked, first_view_at, first_view, spent, Enters, Fills, looked, drawn, serving, raised, passed, answered, numbered, firsts, rests, left_half, right_half, merged, Follows, IsFresh, Sits, Draws, Turns, Raises, Passes, Tells, Names, Settles}
use Rattle.sentinel_cell.proofs.Fronts.{calls_left, begins_self, begins_empty, begins_more, begins_through, begins_longer, compared, calls-append, calls_between, calls_begin}
use Rattle.sentinel_cell.proofs.Owners.{has_either, apart_both, in_place, owned_after, owned_named, owned_split, owned_joined, has_or, no_calls}
use Rattle.sentinel_cell.proofs.Totals.{total_at, total_set, total-append, total_below, no_share}

pub same_ticket : (a b : ℕ) → Waiting a ≡ Waiting b → a ≡ b
same_ticket a b e = cc

module _ (stored : List Entry → ℕ → Card) where
  of_longer : (h h' : List Entry) (m : ℕ) (c : Card) → Begins h h' → IsOfBeginning stored h m c → IsOfBeginning stored h' m c
  of_longer h h' m c b a = (a.0, begins_through a.0 h h' a.1 b, a.2)

  -- what another seat knows stays so, where the history, the numbers and the tickets only grow
  later : (history flight history' flight' : List Entry) (given given' : ℕ) (owner owner' drawer drawer' : ℕ → ℕ) (served served' next next' seat : ℕ) (v : View)
      → Begins history history' → Begins (history ++ flight) (history' ++ flight')
      → ((n : ℕ) → n < given → owner n ≡ seat → (owner' n ≡ seat) × (calls_by n history' ≡ calls_by n history))
      → given ≤ given' → ((t : ℕ) → t < next → drawer' t ≡ drawer t) → next ≤ next'
      → ((t : ℕ) → drawer t ≡ seat → served ≤ t → served' ≤ t) → (drawer served ≡ seat → (served' ≡ served) × (history' ≡ history) × (flight' ≡ flight))
      → Knows stored history flight given owner drawer served next seat v → Knows stored history' flight' given' owner' drawer' served' next' seat v
  later history flight history' flight' given given' owner owner' drawer drawer' served served' next next' seat v grows grows' owns more draws on waits serves k = record {
    front = begins_through v.front history history' k.front grows;
    told = k.told;
    told_calls = k.told_calls;
    mine = λ n has. let m = k.mine n has in let below : n < given = m.0 in let o = owns n m.0 m.1 in (omega arith, o.0, o.1 ∙ m.2);
    apart = k.apart;
    armed = k.armed;
    answers = λ m c a. of_longer (history ++ flight) (history' ++ flight') m c grows' (k.answers m c a);
    tickets = let h = k.tickets in omega arith;
    numbers = let h : v.given ≤ given = k.numbers.upto in record { upto = omega arith; own = k.numbers.own; calls = k.numbers.calls };
    queued = queue v.stage k.queued;
  }
    where
      queue : (st : Stage) → Queued history flight drawer served next seat v.share v.front v.flight st →
          Queued history' flight' drawer' served' next' seat v.share v.front v.flight st
      queue Opening q = absurd q
      queue Filling q = absurd q
      queue Idle q = tt
      queue Looked q = q
      queue (Waiting t) q = let below : t < next = q.3 in (q.0, draws t q.3 ∙ q.1, waits t q.1 q.2, omega arith)
      queue (Serving t) q = let below : t < next = q.3 in let here = serves (ap drawer (sym q.2) ∙ q.1) in
          (q.0, draws t q.3 ∙ q.1, q.2 ∙ sym here.0, omega arith, q.4 ∙ sym here.1, q.5 ∙ sym here.2)

module _ {C : Type 0} (Legal : List Entry → Type 0) (stored : List Entry → ℕ → Card) (Fits : List Entry → C → Type 0) (at_place : ℕ → ℕ → Addr) (masters seats : ℕ) where
  abbrev St : Type 0
  St = State C View

  abbrev M : Type 0
  M = Me C View

  abbrev Rule : St → Type 0
  Rule = Orderly Legal stored Fits at_place masters seats

  abbrev served : St → ℕ
  served s = get_or s.words 0 0

  abbrev next : St → ℕ
  next s = get_or s.words 1 0

  seats_stay : (K : ℕ → View → Type 0) (vs : List View) (me : ℕ) (w : View) → K me w → ((j : ℕ) (u : View) → j ≢ me → get_elem? vs j ≡ some u → K j u)
      → (j : ℕ) (u : View) → get_elem? (set vs me w) j ≡ some u → K j u
  seats_stay K vs me w mine others j u e = ⊎_elim (λ (t : (j ≡ me) × (w ≡ u)). subst (λ (x : ℕ × View). K x.0 x.1) (λ i. (sym t.0 i, t.1 i)) mine)
      (λ (t : (j ≢ me) × (get_elem? vs j ≡ some u)). others j u t.0 t.1) (at_set vs me j w u e)

  -- the slot stays out where a seat moves that does not serve
  out_stays : (homes : List (Option C)) (views : List View) (id : ℕ) (v w : View) → get_elem? views id ≡ some v → ((t : ℕ) → v.stage ≡ Serving t → ⊥) → Out homes views →
      Out homes (set views id w)
  out_stays homes views id v w at idle out = (out.0, (out.1.0, out.1.1, out.1.2, set_else views id out.1.0 w apart ∙ out.1.3, out.1.4))
    where
      same : out.1.0 ≡ id → out.1.1 ≡ v
      same e = some-injective out.1.1 v (sym out.1.3 ∙ (ap (get_elem? views) e ∙ at))

      apart : out.1.0 ≢ id
      apart e = idle out.1.2 (sym (ap (λ (u : View). u.stage) (same e)) ∙ out.1.4)

  slot_stays : (history flight : List Entry) (homes : List (Option C)) (views : List View) (id : ℕ) (v w : View) → get_elem? views id ≡ some v → ((t : ℕ) → v.stage ≡ Serving t → ⊥)
      → AtHome Fits history flight homes ⊎ Out homes views → AtHome Fits history flight homes ⊎ Out homes (set views id w)
  slot_stays history flight homes views id v w at idle slot =
      ⊎_elim (λ (a : AtHome Fits history flight homes). inl a) (λ (o : Out homes views). inr (out_stays homes views id v w at idle o)) slot

  -- a seat that moves keeps its numbers
  stays_owned : (s : St) (r : Rule s) (id : ℕ) (v w : View) → get_elem? s.views id ≡ some v → w.numbers ≡ v.numbers → Owned r.given r.owner (set s.views id w)
  stays_owned s r id v w at same = owned_after s.views r.given r.owner id v w at (λ n h. subst (Has n) (sym same) h) r.owned

  -- a step that leaves the history and the served count
  moved : (s : St) (r : Rule s) (id : ℕ) (v w : View) → get_elem? s.views id ≡ some v
      → (words : List ℕ) → length words ≡ masters + 2 → ((m : ℕ) → m < masters → get_or words (m + 2) 0 ≡ get_or s.words (m + 2) 0) → get_or words 0 0 ≡ served s →
      next s ≤ get_or words 1 0
      → get_or words 1 0 + total looks_of (set s.views id w) ≤ 9223372036854775808 + seats → w.share ≡ v.share
      → (given : ℕ) → r.given ≤ given → (owner drawer : ℕ → ℕ) → ((n : ℕ) → n < r.given → owner n ≡ r.owner n) → ((t : ℕ) → t < next s → drawer t ≡ r.drawer t)
      → Knows stored r.history r.flight given owner drawer (served s) (get_or words 1 0) id w → Owned given owner (set s.views id w)
      → (homes : List (Option C)) → AtHome Fits r.history r.flight homes ⊎ Out homes (set s.views id w)
      → Rule record { words = words; homes = homes; views = set s.views id w }
  moved s r id v w at words wide shown same on room share given more owner drawer owns draws mine owned homes slot = record {
    history = r.history;
    flight = r.flight;
    given = given;
    owner = owner;
    drawer = drawer;
    legal = r.legal;
    wide = wide;
    cards = λ m low. ap (unpacked at_place m) (shown m low) ∙ r.cards m low;
    counted = r.counted ∙ sym same;
    ordered = let o = r.ordered in omega arith;
    room = room;
    shares = let t = total_set share_of s.views id v w at in let h = r.shares in omega arith;
    numbered = λ n h. r.numbered n (omega arith);
    owned = owned;
    each = subst (λ (z : ℕ). (j : ℕ) (u : View) → get_elem? (set s.views id w) j ≡ some u → Knows stored r.history r.flight given owner drawer z (get_or words 1 0) j u) (sym same)
        (seats_stay (Knows stored r.history r.flight given owner drawer (served s) (get_or words 1 0)) s.views id w mine
        (λ j u apart e. later stored r.history r.flight r.history r.flight r.given given r.owner owner r.drawer drawer (served s) (served s) (next s) (get_or words 1 0) j u
        (begins_self r.history) (begins_self (r.history ++ r.flight)) (λ n below own. (owns n below ∙ own, refl)) more draws on (λ t d l. l) (λ d. (refl, refl, refl))
        (r.each j u e)));
    slot = slot;
  }

  -- the same where no word changes, and the seat does not serve
  unmoved : (s : St) (r : Rule s) (id : ℕ) (v w : View) (i : ℕ) (cs : List (ℕ × C)) → get_elem? s.views id ≡ some v → ((t : ℕ) → v.stage ≡ Serving t → ⊥)
      → next s + total looks_of (set s.views id w) ≤ 9223372036854775808 + seats → w.share ≡ v.share
      → (given : ℕ) → r.given ≤ given → (owner : ℕ → ℕ) → ((n : ℕ) → n < r.given → owner n ≡ r.owner n)
      → Knows stored r.history r.flight given owner r.drawer (served s) (next s) id w → Owned given owner (set s.views id w)
      → Rule (stepped s i (get_or s.words i 0) id cs w keeps)
  unmoved s r id v w i cs at idle room share given more owner owns mine owned =
      subst (λ (ws : List ℕ). Rule record { words = ws; homes = s.homes; views = set s.views id w }) (sym (set-get_or s.words i 0))
      (moved s r id v w at s.words r.wide (λ m low. refl) refl (omega arith) room share given more owner r.drawer owns (λ t h. refl) mine owned s.homes
      (slot_stays r.history r.flight s.homes s.views id v w at idle r.slot))

  -- a step that changes nothing
  still : (s : St) (r : Rule s) (id : ℕ) (v : View) (i : ℕ) (cs : List (ℕ × C)) → get_elem? s.views id ≡ some v → Rule (stepped s i (get_or s.words i 0) id cs v keeps)
  still s r id v i cs at = subst (λ (x : List ℕ × List View). Rule record { words = x.0; homes = s.homes; views = x.1 })
      (λ k. (sym (set-get_or s.words i 0) k, sym (set_again s.views id v at) k)) r

  idle_serves : (st : Stage) → st ≡ Idle → (t : ℕ) → st ≡ Serving t → ⊥
  idle_serves st a t b = let e : Idle ≡ Serving t = sym a ∙ b in cc

  -- the sum of looks, where one seat's changes
  looks_set : (vs : List View) (id : ℕ) (v w : View) → get_elem? vs id ≡ some v → looks w.stage ≤ looks v.stage → total looks_of (set vs id w) ≤ total looks_of vs
  looks_set vs id v w at less = let t = total_set looks_of vs id v w at in omega arith

  -- each seat that looks has a part of the share
  looks_share : (history flight : List Entry) (drawer : ℕ → ℕ) (a b c sh : ℕ) (front mine : List Entry) (st : Stage) → Queued history flight drawer a b c sh front mine st →
      looks st ≤ sh
  looks_share history flight drawer a b c sh front mine Opening q = absurd q
  looks_share history flight drawer a b c sh front mine Filling q = absurd q
  looks_share history flight drawer a b c sh front mine Idle q = omega arith
  looks_share history flight drawer a b c sh front mine Looked q = omega arith
  looks_share history flight drawer a b c sh front mine (Waiting t) q = omega arith
  looks_share history flight drawer a b c sh front mine (Serving t) q = omega arith

  looks_all : (s : St) (r : Rule s) (id : ℕ) (v w : View) → get_elem? s.views id ≡ some v → looks w.stage ≤ 1 → 0 < v.share → w.share ≡ v.share →
      total looks_of (set s.views id w) ≤ seats
  looks_all s r id v w at one some_share same =
      let sum = total_set share_of s.views id v w at in
      let h = r.shares in
      let below : total looks_of (set s.views id w) ≤ total share_of (set s.views id w) = total_below looks_of share_of (set s.views id w)
      (seats_stay (λ j u. looks u.stage ≤ u.share) s.views id w (omega arith)
      (λ j u apart e. looks_share r.history r.flight r.drawer (served s) (next s) j u.share u.front u.flight u.stage (r.each j u e).queued)) in
      omega arith

  looked_stage : (share : ℕ) (b : Bool) (history flight : List Entry) (drawer : ℕ → ℕ) (a c j : ℕ) (front mine : List Entry) → 0 < share →
      (looks (cond b Looked Idle) ≤ 1) × Queued history flight drawer a c j share front mine (cond b Looked Idle)
  looked_stage share true history flight drawer a c j front mine h = (omega arith, h)
  looked_stage share false history flight drawer a c j front mine h = (omega arith, tt)

  sits : (slots id : ℕ) (me : M) → me.0.stage ≡ Idle → 0 < me.0.share → Allows Rule slots id me 1 (λ n. n) (Sits (step slots 1 0 0 none) me)
  sits slots id me idle some_share s r _ at _ =
      let n : ℕ = next s in
      let w : View = looked me.0 n in
      let k = r.each id me.0 at in
      let l = looked_stage me.0.share (ltb n 9223372036854775808) r.history r.flight r.drawer (served s) n id me.0.front me.0.flight some_share in (
        w,
        keeps,
        tt,
        unmoved s r id me.0 w 1 me.1 at (idle_serves me.0.stage idle)
            (sits_room n (total looks_of (set s.views id w)) (total looks_of s.views) (ltb n 9223372036854775808) refl (looks_all s r id me.0 w at l.0 some_share refl)
            (λ e. looks_set s.views id me.0 w at (e_looks (ltb n 9223372036854775808) e)) r.room) refl r.given (omega arith) r.owner (λ m h. refl)
            record {
              front = k.front;
              told = k.told;
              told_calls = k.told_calls;
              mine = k.mine;
              apart = k.apart;
              armed = k.armed;
              answers = k.answers;
              tickets =
                  omega arith;
              numbers = k.numbers;
              queued = l.1;
            }
            (stays_owned s r id me.0 w at refl),
        (refl, refl),
      )
    where
      e_looks : (b : Bool) → b ≡ false → looks (cond b Looked Idle) ≤ looks me.0.stage
      e_looks true e = absurd (cc)
      e_looks false e = omega arith

      sits_room : (n x y : ℕ) (b : Bool) → ltb n 9223372036854775808 ≡ b → x ≤ seats → (b ≡ false → x ≤ y) → n + y ≤ 9223372036854775808 + seats →
          n + x ≤ 9223372036854775808 + seats
      sits_room n x y true e a f room = grind (arith, nat_tests)
      sits_room n x y false e a f room = let h = f refl in omega arith

  looked_has : (history flight : List Entry) (drawer : ℕ → ℕ) (a b c share : ℕ) (front mine : List Entry) (st : Stage) → st ≡ Looked →
      Queued history flight drawer a b c share front mine st → 0 < share
  looked_has history flight drawer a b c share front mine st e q =
      let h : Queued history flight drawer a b c share front mine Looked = subst (Queued history flight drawer a b c share front mine) e q in h

  looked_serves : (st : Stage) → st ≡ Looked → (t : ℕ) → st ≡ Serving t → ⊥
  looked_serves st a t b = let e : Looked ≡ Serving t = sym a ∙ b in cc

  waiting_serves : (st : Stage) (u : ℕ) → st ≡ Waiting u → (t : ℕ) → st ≡ Serving t → ⊥
  waiting_serves st u a t b = let e : Waiting u ≡ Serving t = sym a ∙ b in cc

  draws : (slots id : ℕ) (me : M) → seats ≤ 4294967296 → me.0.stage ≡ Looked → Allows Rule slots id me 1 (λ n. (n + 1) % 18446744073709551616) (Draws (step slots 1 1 0 none) me)
  draws slots id me small_seats is s r _ at _ =
      let n : ℕ = next s in
      let w : View = drawn me.0 n in
      let k = r.each id me.0 at in
      let some_share : 0 < me.0.share = looked_has r.history r.flight r.drawer (served s) n id me.0.share me.0.front me.0.flight me.0.stage is k.queued in
      let one : looks me.0.stage ≡ 1 = ap looks is in
      let sum = total_set looks_of s.views id me.0 w at in
      let room = r.room in
      let up : (n + 1) % 18446744073709551616 ≡ n + 1 = omega arith in
      let words : List ℕ = set s.words 1 ((n + 1) % 18446744073709551616) in
      let wide = r.wide in
      let now : get_or words 1 0 ≡ n + 1 = get_or-set_same s.words 1 ((n + 1) % 18446744073709551616) 0 (omega arith) ∙ up in
      let still_served : get_or words 0 0 ≡ served s = get_or-set_other s.words 1 0 ((n + 1) % 18446744073709551616) 0 (λ e. omega arith) in
      let drawer : ℕ → ℕ = λ (t : ℕ). cond (eqb t n) id (r.drawer t) in
      let o = r.ordered in
      let tickets = k.tickets in (
        w,
        keeps,
        tt,
        moved s r id me.0 w at words (length-set s.words 1 ((n + 1) % 18446744073709551616) ∙ wide)
            (λ m low. get_or-set_other s.words 1 (m + 2) ((n + 1) % 18446744073709551616) 0 (λ e. omega arith)) still_served (omega arith) (omega arith) refl r.given (omega arith)
            r.owner drawer (λ m h. refl)
            (λ t h. ap (λ (b : Bool). cond b id (r.drawer t)) (ne_eqb t n (λ e. omega arith)))
            record {
              front = k.front;
              told = k.told;
              told_calls = k.told_calls;
              mine = k.mine;
              apart = k.apart;
              armed = k.armed;
              answers = k.answers;
              tickets = omega arith;
              numbers = k.numbers;
              queued = (some_share, ap (λ (b : Bool). cond b id (r.drawer n)) (eq-eqb n n refl), o, omega arith);
            }
            (stays_owned s r id me.0 w at refl)
            s.homes (slot_stays r.history r.flight s.homes s.views id me.0 w at (looked_serves me.0.stage is) r.slot),
        (refl, refl),
      )

  -- the seat that has the slot out serves
  slot_served : (s : St) (r : Rule s) (o : Out s.homes s.views) → Queued r.history r.flight r.drawer (served s) (next s) o.1.0 o.1.1.share o.1.1.front o.1.1.flight (Serving o.1.2)
  slot_served s r o = subst (Queued r.history r.flight r.drawer (served s) (next s) o.1.0 o.1.1.share o.1.1.front o.1.1.flight) o.1.4 (r.each o.1.0 o.1.1 o.1.3).queued

  -- where the seat's ticket is served and it does not serve yet, the slot is at home
  at_home : (s : St) (r : Rule s) (id : ℕ) (v : View) → get_elem? s.views id ≡ some v → v.stage ≡ Waiting (served s) → AtHome Fits r.history r.flight s.homes
  at_home s r id v at is = ⊎_elim (λ (a : AtHome Fits r.history r.flight s.homes). a) (λ (o : Out s.homes s.views). absurd (taken o)) r.slot
    where
      mine : Queued r.history r.flight r.drawer (served s) (next s) id v.share v.front v.flight (Waiting (served s))
      mine = subst (Queued r.history r.flight r.drawer (served s) (next s) id v.share v.front v.flight) is (r.each id v at).queued

      taken : Out s.homes s.views → ⊥
      taken o =
          let there = slot_served s r o in
          let same : id ≡ o.1.0 = sym mine.1 ∙ (ap r.drawer (sym there.2) ∙ there.1) in
          let one : v ≡ o.1.1 = some-injective v o.1.1 (sym at ∙ (ap (get_elem? s.views) same ∙ o.1.3)) in
          waiting_serves v.stage (served s) is o.1.2 (ap (λ (x : View). x.stage) one ∙ o.1.4)

  turns : (slots id : ℕ) (me : M) (t : ℕ) → me.0.stage ≡ Waiting t → Allows Rule slots id me 0 (λ n. n) (Turns Legal Fits (step slots 0 0 0 none) me)
  turns slots id me t is s r _ at _ = dite (ℕ_discrete (served s) t)
      (λ hit.
      let now : me.0.stage ≡ Waiting (served s) = is ∙ ap Waiting (sym hit) in
      let h = at_home s r id me.0 at now in
      let k = r.each id me.0 at in
      let q : Queued r.history r.flight r.drawer (served s) (next s) id me.0.share me.0.front me.0.flight (Waiting (served s)) =
      subst (Queued r.history r.flight r.drawer (served s) (next s) id me.0.share me.0.front me.0.flight) now k.queued in
      let w : View = serving me.0 (served s) r.history r.given in (
        w,
        takes 0 h.0,
        subst (λ (l : List (Option C)). get_elem? l 0 ≡ some (some h.0)) (sym h.1) refl,
        subst (λ (x : List ℕ × List (Option C)). Rule record { words = x.0; homes = x.1; views = set s.views id w })
            (λ i. (sym (set-get_or s.words 0 0) i, ap (λ (l : List (Option C)). set l 0 none) (sym h.1) i))
            (moved s r id me.0 w at s.words r.wide (λ m low. refl) refl (omega arith) (let less = looks_set s.views id me.0 w at (omega arith) in let room = r.room in omega arith)
            refl r.given (omega arith) r.owner r.drawer (λ m l. refl) (λ m l. refl)
            record {
              front = begins_self r.history;
              told = begins_empty r.history;
              told_calls = λ n has. absurd has;
              mine = λ n has. let m = k.mine n has in (m.0, m.1, refl);
              apart = k.apart;
              armed = k.armed;
              answers = k.answers;
              tickets = k.tickets;
              numbers = record { upto = omega arith; own = λ n has. (k.mine n has).0; calls = r.numbered };
              queued = (q.0, q.1, refl, q.3, refl, sym h.3);
            }
            (stays_owned s r id me.0 w at refl)
            (none ∷ []) (inr (refl, (id, w, served s, in_place s.views id me.0 w at, refl)))),
        (
          (λ _. (
            r.history,
            h.0,
            (r.given, refl, k.numbers.upto),
            refl,
            subst Legal (ap (λ (l : List Entry). r.history ++ l) h.3 ∙ append-nil r.history) r.legal,
            h.2,
            (k.front, λ n has. (k.mine n has).2),
            sym r.counted,
          )),
          (λ not. absurd (not now)),
        ),
      ))
      (λ miss. (
        me.0,
        keeps,
        tt,
        still s r id me.0 0 me.1 at,
        ((λ now. absurd (miss (same_ticket (served s) t (sym now ∙ is)))), (λ _. refl)),
      ))

  other_number : (n m : ℕ) (e : Entry) → n ≢ e.number → (xs : List Entry) → calls_by n (xs ++ e ∷ []) ≡ calls_by n xs
  other_number n m e apart xs = calls-append n xs (e ∷ []) ∙ (ap (λ (b : Bool). calls_by n xs ++ cond b (e ∷ []) []) (ne_eqb n e.number apart) ∙ append-nil (calls_by n xs))

  filled : (homes : List (Option C)) (views : List View) (history flight : List Entry) (c : C) → AtHome Fits history flight homes ⊎ Out homes views →
      set homes 0 (some c) ≡ some c ∷ []
  filled homes views history flight c slot = ⊎_elim (λ (a : AtHome Fits history flight homes). ap (λ (l : List (Option C)). set l 0 (some c)) a.1)
      (λ (o : Out homes views). ap (λ (l : List (Option C)). set l 0 (some c)) o.0) slot

  past : (x n : ℕ) → x ≢ n → n ≤ x → n + 1 ≤ x
  past x n a b = omega arith

  -- the seat that serves passes the turn with the entry that it has announced
  passes : (slots id : ℕ) (me : M) (t : ℕ) (e : Entry) (c : C) → seats ≤ 4294967296 → me.0.stage ≡ Serving t → me.1 ≡ (0, c) ∷ [] → me.0.flight ≡ e ∷ [] → Has e.number me.0.numbers
      → Fits (me.0.front ++ e ∷ []) c → Allows Rule slots id me 0 (λ n. (n + 1) % 18446744073709551616) (Passes stored (step slots 0 1 0 none) me)
  passes slots id me t e c small_seats is holds_it announced has fits s r _ at _ =
      let n : ℕ = served s in
      let m : ℕ = next s in
      let k = r.each id me.0 at in
      let q : Queued r.history r.flight r.drawer n m id me.0.share me.0.front me.0.flight (Serving t) =
      subst (Queued r.history r.flight r.drawer n m id me.0.share me.0.front me.0.flight) is k.queued in
      let w : View = passed me.0 in
      let history : List Entry = r.history ++ e ∷ [] in
      let flying : r.flight ≡ e ∷ [] = sym q.5 ∙ announced in
      let all : r.history ++ r.flight ≡ history ++ [] = ap (λ (l : List Entry). r.history ++ l) flying ∙ sym (append-nil history) in
      let front : me.0.front ++ me.0.flight ≡ history = (λ i. q.4 i ++ announced i) in
      let fronts : me.0.front ++ e ∷ [] ≡ history = ap (λ (l : List Entry). l ++ e ∷ []) q.4 in
      let below : t < m = q.3 in
      let turn : t ≡ n = q.2 in
      let room = r.room in
      let up : (n + 1) % 18446744073709551616 ≡ n + 1 = omega arith in
      let words : List ℕ = set s.words 0 ((n + 1) % 18446744073709551616) in
      let wide = r.wide in
      let now : get_or words 0 0 ≡ n + 1 = get_or-set_same s.words 0 ((n + 1) % 18446744073709551616) 0 (omega arith) ∙ up in
      let still_next : get_or words 1 0 ≡ m = get_or-set_other s.words 0 1 ((n + 1) % 18446744073709551616) 0 (λ x. omega arith) in
      let own = k.mine e.number has in
      let given : e.number < r.given = own.0 in
      let drew : r.drawer n ≡ id = ap r.drawer (sym turn) ∙ q.1 in
      let known : (x : ℕ) → me.0.given ≤ x → calls_by x (me.0.front ++ me.0.flight) ≡ [] = λ x high.
      let low : e.number < me.0.given = k.numbers.own e.number has in
      ap (λ (l : List Entry). calls_by x (me.0.front ++ l)) announced ∙ (other_number x x e (λ same. omega arith) me.0.front ∙ k.numbers.calls x high) in
      let less = looks_set s.views id me.0 w at (omega arith) in (
        w,
        gives,
        tt,
        subst (λ (l : List (ℕ × C)). Rule record { words = words; homes = put_back s.homes l; views = set s.views id w }) (sym holds_it) record {
          history = history;
          flight = [];
          given = r.given;
          owner = r.owner;
          drawer = r.drawer;
          legal = subst Legal all r.legal;
          wide = length-set s.words 0 ((n + 1) % 18446744073709551616) ∙ wide;
          cards = λ x low. ap (unpacked at_place x) (get_or-set_other s.words 0 (x + 2) ((n + 1) % 18446744073709551616) 0 (λ y. omega arith)) ∙
              (r.cards x low ∙ ap (λ (l : List Entry). stored l x) all);
          counted = length-append r.history (e ∷ []) ∙ (ap (λ (x : ℕ). x + 1) r.counted ∙ sym now);
          ordered = omega arith;
          room = omega arith;
          shares = let sum = total_set share_of s.views id me.0 w at in let h = r.shares in omega arith;
          numbered = λ x h. other_number x x e (λ same. omega arith) r.history ∙ r.numbered x h;
          owned = stays_owned s r id me.0 w at refl;
          each = subst (λ (z : ℕ × ℕ). (j : ℕ) (u : View) → get_elem? (set s.views id w) j ≡ some u → Knows stored history [] r.given r.owner r.drawer z.0 z.1 j u)
              (λ i. (sym now i, sym still_next i))
              (seats_stay (Knows stored history [] r.given r.owner r.drawer (n + 1) m) s.views id w
              record {
                front = ([], sym (append-nil (me.0.front ++ me.0.flight) ∙ front));
                told = begins_empty (me.0.front ++ me.0.flight);
                told_calls = λ x h. absurd h;
                mine = λ x h. let o = k.mine x h in (o.0, o.1, ap (calls_by x) (sym front));
                apart = k.apart;
                armed = k.armed;
                answers = λ x d a. subst (λ (l : List Entry). IsOfBeginning stored l x d) all (k.answers x d a);
                tickets = k.tickets;
                numbers = record { upto = k.numbers.upto; own = k.numbers.own; calls = known };
                queued = tt;
              }
              (λ j u apart there. later stored r.history r.flight history [] r.given r.given r.owner r.owner r.drawer r.drawer n (n + 1) m m j u
              (begins_more r.history (e ∷ [])) ([], sym (append-nil (r.history ++ r.flight) ∙ all))
              (λ x low ours. (ours, other_number x x e (λ same. apart (sym ours ∙ (ap r.owner same ∙ own.1))) r.history))
              (omega arith) (λ x l. refl) (omega arith)
              (λ x d l. past x n (λ same. apart (sym d ∙ (ap r.drawer same ∙ drew))) l)
              (λ d. absurd (apart (sym d ∙ drew)))
              (r.each j u there)));
          slot = inl (c, filled s.homes s.views r.history r.flight c r.slot, subst (λ (l : List Entry). Fits l c) fronts fits, refl);
        },
        (refl, ap rest holds_it, (λ x d a. subst (λ (l : List Entry). IsOfBeginning stored l x d) (all ∙ (append-nil history ∙ sym front)) (k.answers x d a)), known),
      )

  -- the greater word has the newer card
  newer_word : (m n k : ℕ) (a b : Card) → unpacked at_place m n ≡ a → unpacked at_place m k ≡ b → (a ≡ b) ⊎ (a.epoch < b.epoch) → unpacked at_place m (max n k) ≡ b
  newer_word m n k a b e f order = ⊎_elim
      (λ (same : a ≡ b). ⊎_elim (λ (x : max n k ≡ n). ap (unpacked at_place m) x ∙ (e ∙ same)) (λ (x : max n k ≡ k). ap (unpacked at_place m) x ∙ f) (either_one n k))
      (λ (less : a.epoch < b.epoch). let x : n / 65536 ≡ a.epoch = ap (λ (z : Card). z.epoch) e in let y : k / 65536 ≡ b.epoch = ap (λ (z : Card). z.epoch) f in
      let up : max n k ≡ k = omega arith in ap (unpacked at_place m) up ∙ f)
      order
    where
      either_one : (n k : ℕ) → (max n k ≡ n) ⊎ (max n k ≡ k)
      either_one n k = dite (ℕ_discrete (max n k) n) (λ h. inl h) (λ h. inr (omega arith))

  -- the seat that serves announces its entry, by the word of the master whose card it may have changed. It gives the slot back and takes it at once
  raises : (slots id : ℕ) (me : M) (t : ℕ) (e : Entry) (c : C) (m k : ℕ) → me.0.stage ≡ Serving t → me.1 ≡ (0, c) ∷ [] → me.0.flight ≡ [] → Legal (me.0.front ++ e ∷ [])
      → m < masters → unpacked at_place m k ≡ stored (me.0.front ++ e ∷ []) m →
      (stored me.0.front m ≡ stored (me.0.front ++ e ∷ []) m) ⊎ ((stored me.0.front m).epoch < (stored (me.0.front ++ e ∷ []) m).epoch)
      → ((x : ℕ) → x ≢ m → stored (me.0.front ++ e ∷ []) x ≡ stored me.0.front x)
      → Allows Rule slots id me (m + 2) (λ n. max n k) (Raises e (step slots (m + 2) k 0 none) me)
  raises slots id me t e c m k is holds_it empty legal low told newer others s r _ at _ =
      let kn = r.each id me.0 at in
      let q : Queued r.history r.flight r.drawer (served s) (next s) id me.0.share me.0.front me.0.flight (Serving t) =
      subst (Queued r.history r.flight r.drawer (served s) (next s) id me.0.share me.0.front me.0.flight) is kn.queued in
      let w : View = raised me.0 e in
      let n : ℕ = get_or s.words (m + 2) 0 in
      let wide = r.wide in
      let flying : r.flight ≡ [] = sym q.5 ∙ empty in
      let all : r.history ++ r.flight ≡ me.0.front = (ap (λ (l : List Entry). r.history ++ l) flying ∙ append-nil r.history) ∙ sym q.4 in
      let longer : me.0.front ++ e ∷ [] ≡ r.history ++ e ∷ [] = ap (λ (l : List Entry). l ++ e ∷ []) q.4 in
      let before : unpacked at_place m n ≡ stored me.0.front m = r.cards m low ∙ ap (λ (l : List Entry). stored l m) all in
      let up : unpacked at_place m (max n k) ≡ stored (me.0.front ++ e ∷ []) m = newer_word m n k (stored me.0.front m) (stored (me.0.front ++ e ∷ []) m) before told newer in
      let words : List ℕ = set s.words (m + 2) (max n k) in
      let now : get_or words (m + 2) 0 ≡ max n k = get_or-set_same s.words (m + 2) (max n k) 0 (omega arith) in
      let still_served : get_or words 0 0 ≡ served s = get_or-set_other s.words (m + 2) 0 (max n k) 0 (λ x. omega arith) in
      let still_next : get_or words 1 0 ≡ next s = get_or-set_other s.words (m + 2) 1 (max n k) 0 (λ x. omega arith) in
      let less = looks_set s.views id me.0 w at (omega arith) in
      let room = r.room in
      let ordered = r.ordered in
      let drew : r.drawer (served s) ≡ id = ap r.drawer (sym q.2) ∙ q.1 in
      let full = filled s.homes s.views r.history r.flight c r.slot in (
        w,
        chain gives (takes 0 c),
        subst (λ (l : List (ℕ × C)). Valid s.homes l (chain gives (takes 0 c))) (sym holds_it) (tt, ap (λ (l : List (Option C)). get_elem? l 0) full),
        subst (λ (l : List (ℕ × C)). Rule (stepped s (m + 2) (max n k) id l w (chain gives (takes 0 c)))) (sym holds_it) record {
          history = r.history;
          flight = e ∷ [];
          given = r.given;
          owner = r.owner;
          drawer = r.drawer;
          legal = subst Legal longer legal;
          wide = length-set s.words (m + 2) (max n k) ∙ wide;
          cards = λ x small. dite (ℕ_discrete x m)
              (λ same. subst (λ (y : ℕ). unpacked at_place y (get_or words (y + 2) 0) ≡ stored (r.history ++ e ∷ []) y) (sym same)
              (ap (unpacked at_place m) now ∙ (up ∙ ap (λ (l : List Entry). stored l m) longer)))
              (λ other. ap (unpacked at_place x) (get_or-set_other s.words (m + 2) (x + 2) (max n k) 0 (λ y. other (omega arith))) ∙
              (r.cards x small ∙ (ap (λ (l : List Entry). stored l x) all ∙ (sym (others x other) ∙ ap (λ (l : List Entry). stored l x) longer))));
          counted = r.counted ∙ sym still_served;
          ordered = omega arith;
          room = omega arith;
          shares = let sum = total_set share_of s.views id me.0 w at in let h = r.shares in omega arith;
          numbered = r.numbered;
          owned = stays_owned s r id me.0 w at refl;
          each = subst (λ (z : ℕ × ℕ). (j : ℕ) (u : View) → get_elem? (set s.views id w) j ≡ some u → Knows stored r.history (e ∷ []) r.given r.owner r.drawer z.0 z.1 j u)
              (λ i. (sym still_served i, sym still_next i))
              (seats_stay (Knows stored r.history (e ∷ []) r.given r.owner r.drawer (served s) (next s)) s.views id w
              record {
                front = kn.front;
                told = kn.told;
                told_calls = kn.told_calls;
                mine = kn.mine;
                apart = kn.apart;
                armed = kn.armed;
                answers = λ x d a. of_longer stored (r.history ++ r.flight) (r.history ++ e ∷ []) x d (e ∷ [], sym longer ∙ ap (λ (l : List Entry). l ++ e ∷ []) (sym all))
                    (kn.answers x d a);
                tickets = kn.tickets;
                numbers = kn.numbers;
                queued = subst (Queued r.history (e ∷ []) r.drawer (served s) (next s) id w.share w.front w.flight) (sym is) (q.0, q.1, q.2, q.3, q.4, refl);
              }
              (λ j u apart there. later stored r.history r.flight r.history (e ∷ []) r.given r.given r.owner r.owner r.drawer r.drawer (served s) (served s) (next s) (next s) j u
              (begins_self r.history) (e ∷ [], sym longer ∙ ap (λ (l : List Entry). l ++ e ∷ []) (sym all)) (λ x h own. (own, refl)) (omega arith) (λ x l. refl) (omega arith)
              (λ x d l. l)
              (λ d. absurd (apart (sym d ∙ drew))) (r.each j u there)));
          slot = inr (ap (λ (l : List (Option C)). set l 0 none) full, (id, w, t, in_place s.views id me.0 w at, is));
        },
        (refl, subst (λ (l : List (ℕ × C)). carried_after l (chain gives (takes 0 c)) ≡ l) (sym holds_it) refl),
      )

  answered_either : (m : ℕ) (c : Card) (xs ys : List (ℕ × Card)) → Answered m c (xs ++ ys) → Answered m c xs ⊎ Answered m c ys
  answered_either m c [] ys h = inr h
  answered_either m c (x ∷ xs) ys h = ⊎_elim (λ (e : (m ≡ x.0) × (c ≡ x.1)). inl (inl e))
      (λ (t : Answered m c (xs ++ ys)). ⊎_elim (λ (p : Answered m c xs). inl (inr p)) (λ (p : Answered m c ys). inr p) (answered_either m c xs ys t)) h

  -- a word tells what is stored, and no card of a legal history has a later epoch than one after it
  tells : (slots id : ℕ) (me : M) (m : ℕ) → m < masters → me.0.stage ≡ Idle →
      ((x : ℕ) (part whole : List Entry) → Begins part whole → Legal whole → (stored part x).epoch ≤ (stored whole x).epoch)
      → Allows Rule slots id me (m + 2) (λ n. n) (Tells Legal stored at_place (step slots (m + 2) 0 0 none) me)
  tells slots id me m low is rises s r _ at _ =
      let k = r.each id me.0 at in
      let n : ℕ = get_or s.words (m + 2) 0 in
      let card : Card = unpacked at_place m n in
      let w : View = answered me.0 m card in
      let all : List Entry = r.history ++ r.flight in
      let there : card ≡ stored all m = r.cards m low in
      let less = looks_set s.views id me.0 w at (omega arith) in
      let room = r.room in
      let begins : Begins me.0.front all = begins_longer me.0.front r.history r.flight k.front in
      let below : (part : List Entry) → Begins part all → (stored part m).epoch ≤ card.epoch =
      λ part b. let h = rises m part all b r.legal in let same : card.epoch ≡ (stored all m).epoch = ap (λ (z : Card). z.epoch) there in omega arith in
      let fresh : IsFresh Legal stored me.0 m card = (
        all,
        r.legal,
        begins,
        there,
        below me.0.front begins,
        λ c a. let o = k.answers m c a in let h = below o.0 o.1 in
            let same : c.epoch ≡ (stored o.0 m).epoch = ap (λ (z : Card). z.epoch) o.2 in omega arith,
      ) in (
        w,
        keeps,
        tt,
        unmoved s r id me.0 w (m + 2) me.1 at (idle_serves me.0.stage is) (omega arith) refl r.given (omega arith) r.owner (λ x h. refl)
            record {
              front = k.front;
              told = k.told;
              told_calls = k.told_calls;
              mine = k.mine;
              apart = k.apart;
              armed = k.armed;
              answers = λ x c a. ⊎_elim (λ (old : Answered x c me.0.answers). k.answers x c old)
                  (λ (new : Answered x c ((m, card) ∷ [])). ⊎_elim (λ (e : (x ≡ m) × (c ≡ card)). (all, begins_self all, e.1 ∙ (there ∙ ap (stored all) (sym e.0))))
                  (λ (none : ⊥). absurd none) new)
                  (answered_either x c me.0.answers ((m, card) ∷ []) a);
              tickets = k.tickets;
              numbers = k.numbers;
              queued = subst (Queued r.history r.flight r.drawer (served s) (next s) id me.0.share me.0.front me.0.flight) (sym is) tt;
            }
            (stays_owned s r id me.0 w at refl),
        (λ x e. let same : m ≡ x = omega arith in subst (λ (y : ℕ). (answered me.0 m card ≡ answered me.0 y (unpacked at_place y n)) × (me.1 ≡ me.1) ×
            IsFresh Legal stored me.0 y (unpacked at_place y n)) same (refl, refl, fresh)),
      )

  names : (slots id : ℕ) (me : M) → me.0.stage ≡ Idle → 0 < me.0.share → Allows Rule slots id me 0 (λ n. n) (Names (step slots 0 0 0 none) me)
  names slots id me is some_share s r _ at _ =
      let k = r.each id me.0 at in
      let n : ℕ = r.given in
      let w : View = numbered me.0 n in
      let owner : ℕ → ℕ = λ (x : ℕ). cond (eqb x n) id (r.owner x) in
      let quiet : calls_by n me.0.front ≡ [] = calls_begin n me.0.front r.history k.front (r.numbered n (omega arith)) in
      let less = looks_set s.views id me.0 w at (omega arith) in
      let room = r.room in
      let new : ¬ Has n me.0.numbers = λ has. let m = k.mine n has in let low : n < n = m.0 in omega arith in
      let as_before : (x : ℕ) → x < n → owner x ≡ r.owner x = λ x low. ap (λ (b : Bool). cond b id (r.owner x)) (ne_eqb x n (λ e. omega arith)) in (
        w,
        keeps,
        tt,
        unmoved s r id me.0 w 0 me.1 at (idle_serves me.0.stage is) (omega arith) refl (n + 1) (omega arith) owner as_before
            record {
              front = k.front;
              told = k.told;
              told_calls = k.told_calls;
              mine = λ x has. ⊎_elim
                  (λ (e : x ≡ n). (
                    omega arith,
                    ap (λ (b : Bool). cond b id (r.owner x)) (eq-eqb x n e),
                    ap (λ (y : ℕ). calls_by y r.history) e ∙
                        (r.numbered n (omega arith) ∙ (sym quiet ∙ ap (λ (y : ℕ). calls_by y me.0.front) (sym e))),
                  ))
                  (λ (h : Has x me.0.numbers). let m = k.mine x h in let low : x < n = m.0 in (omega arith, as_before x low ∙ m.1, m.2)) has;
              apart = (new, k.apart);
              armed = λ _ _. some_share;
              answers = k.answers;
              tickets = k.tickets;
              numbers = record {
                upto = omega arith;
                own = λ x has. ⊎_elim (λ (e : x ≡ n). omega arith) (λ (h : Has x me.0.numbers). let m = k.mine x h in let low : x < n = m.0 in omega arith) has;
                calls = λ x high. calls_begin x me.0.front r.history k.front (r.numbered x (omega arith));
              };
              queued = subst (Queued r.history r.flight r.drawer (served s) (next s) id me.0.share me.0.front me.0.flight) (sym is) tt;
            }
            (owned_named s.views n r.owner id me.0 at r.owned),
        (n, refl, refl, k.numbers.upto, new, quiet),
      )

  settles : (slots id : ℕ) (me : M) → seats ≤ MOST_SEATS → Allows Rule slots id me 0 (λ n. n) (Settles (step slots 0 0 0 none) me)
  settles slots id me few s r _ at _ =
      let k = r.each id me.0 at in
      let part = total_at share_of s.views id me.0 at in
      let all = r.shares in
      (me.0, keeps, tt, still s r id me.0 0 me.1 at, (refl, omega arith, k.told, k.told_calls, k.apart))

  at_end : {A : Type 0} (l : List A) (a b : A) (j : ℕ) → get_elem? (l ++ a ∷ []) j ≡ some b → (get_elem? l j ≡ some b) ⊎ ((j ≡ length l) × (a ≡ b))
  at_end [] a b zero e = inr (refl, some-injective a b e)
  at_end [] a b (suc j) e = absurd (some-ne-none b (sym e))
  at_end (x ∷ xs) a b zero e = inl e
  at_end (x ∷ xs) a b (suc j) e = ⊎_elim (λ (h : get_elem? xs j ≡ some b). inl h) (λ (h : (j ≡ length xs) × (a ≡ b)). inr (ap suc h.0, h.1)) (at_end xs a b j e)

  -- other seats with the same history, words and slot, who have other numbers
  reseated : (s : St) (r : Rule s) (views : List View) (owner : ℕ → ℕ) → next s + total looks_of views ≤ 9223372036854775808 + seats → total share_of views ≡ seats
      → ((j : ℕ) (u : View) → get_elem? views j ≡ some u → Knows stored r.history r.flight r.given owner r.drawer (served s) (next s) j u)
      → Owned r.given owner views → AtHome Fits r.history r.flight s.homes ⊎ Out s.homes views → Rule record { words = s.words; homes = s.homes; views = views }
  reseated s r views owner room shares each owned slot = record {
    history = r.history;
    flight = r.flight;
    given = r.given;
    owner = owner;
    drawer = r.drawer;
    legal = r.legal;
    wide = r.wide;
    cards = r.cards;
    counted = r.counted;
    ordered = r.ordered;
    room = room;
    shares = shares;
    numbered = r.numbered;
    owned = owned;
    each = each;
    slot = slot;
  }

  -- a new seat at the end has none of the other seats' numbers but n
  splits : (id : ℕ) (v : View) (n : ℕ) (ns : List ℕ) → v.stage ≡ Idle → 2 ≤ v.share → v.numbers ≡ n ∷ ns → ¬ Has n ns → Splits Rule id v (left_half v) (right_half v)
  splits id v n ns is two numbers fresh s r at =
      let k = r.each id v at in
      let left : View = left_half v in
      let right : View = right_half v in
      let new : ℕ = length s.views in
      let mine = k.mine n (subst (Has n) (sym numbers) (inl refl)) in
      let owner : ℕ → ℕ = λ (x : ℕ). cond (eqb x n) new (r.owner x) in
      let else_owner : (x : ℕ) → x ≢ n → owner x ≡ r.owner x = λ x apart. ap (λ (b : Bool). cond b new (r.owner x)) (ne_eqb x n apart) in
      let sum = total_set share_of s.views id v left at in
      let all = total-append share_of (set s.views id left) right in
      let whole = r.shares in
      let looking = total-append looks_of (set s.views id left) right in
      let less = looks_set s.views id v left at (omega arith) in
      let room = r.room in
      let K : ℕ → View → Type 0 = Knows stored r.history r.flight r.given owner r.drawer (served s) (next s) in
      let firsts_are : firsts v.numbers ≡ n ∷ [] = ap firsts numbers in
      let rests_are : rests v.numbers ≡ ns = ap rests numbers in
      let mine_left : K id left = record {
        front = k.front;
        told = k.told;
        told_calls = k.told_calls;
        mine = λ x has. let h : Has x ns = subst (Has x) rests_are has in let m = k.mine x (subst (Has x) (sym numbers) (inr h)) in
            (m.0, else_owner x (λ e. fresh (subst (λ (y : ℕ). Has y ns) e h)) ∙ m.1, m.2);
        apart = subst AreApart (sym rests_are) (subst AreApart numbers k.apart).1;
        armed = λ _ _. omega arith;
        answers = k.answers;
        tickets = k.tickets;
        numbers = record { upto = k.numbers.upto; own = λ x has. k.numbers.own x (subst (Has x) (sym numbers) (inr (subst (Has x) rests_are has))); calls = k.numbers.calls };
        queued = subst (Queued r.history r.flight r.drawer (served s) (next s) id left.share left.front left.flight) (sym is) tt;
      } in
      let mine_right : K new right = record {
        front = k.front;
        told = begins_empty v.front;
        told_calls = λ x h. absurd h;
        mine = λ x has. let h : Has x (n ∷ []) = subst (Has x) firsts_are has in let e : x ≡ n = ⊎_elim (λ (p : x ≡ n). p) (λ (none : ⊥). absurd none) h in (
          subst (λ (y : ℕ). y < r.given) (sym e) mine.0,
          ap (λ (b : Bool). cond b new (r.owner x)) (eq-eqb x n e),
          subst (λ (y : ℕ). calls_by y r.history ≡ calls_by y v.front)
              (sym e) mine.2,
        );
        apart = subst AreApart (sym firsts_are) ((λ (none : ⊥). none), tt);
        armed = λ _ _. omega arith;
        answers = k.answers;
        tickets = k.tickets;
        numbers = record {
          upto = k.numbers.upto;
          own = λ x has. ⊎_elim (λ (e : x ≡ n). k.numbers.own x (subst (Has x) (sym numbers) (inl e))) (λ (none : ⊥). absurd none) (subst (Has x) firsts_are has);
          calls = k.numbers.calls;
        };
        queued = tt;
      } in
      reseated s r (set s.views id left ++ right ∷ []) owner (omega arith) (omega arith)
      (λ j u e. ⊎_elim
      (λ (there : get_elem? (set s.views id left) j ≡ some u). seats_stay K s.views id left mine_left
      (λ i x apart was. later stored r.history r.flight r.history r.flight r.given r.given r.owner owner r.drawer r.drawer (served s) (served s) (next s) (next s) i x
      (begins_self r.history) (begins_self (r.history ++ r.flight))
      (λ y low own. (else_owner y (λ same. apart (sym own ∙ (ap r.owner same ∙ mine.1))) ∙ own, refl)) (omega arith) (λ t l. refl) (omega arith) (λ t d l. l)
      (λ d. (refl, refl, refl)) (r.each i x was)) j u there)
      (λ (last : (j ≡ length (set s.views id left)) × (right ≡ u)). subst (λ (x : ℕ × View). K x.0 x.1) (λ i. (sym (last.0 ∙ length-set s.views id left) i, last.1 i)) mine_right)
      (at_end (set s.views id left) right u j e))
      (owned_split s.views r.given r.owner id v n ns at numbers r.owned)
      (⊎_elim (λ (a : AtHome Fits r.history r.flight s.homes). inl a)
      (λ (o : Out s.homes (set s.views id left)). inr (o.0, (o.1.0, o.1.1, o.1.2, at_longer (set s.views id left) (right ∷ []) o.1.0 o.1.1 o.1.3, o.1.4)))
      (slot_stays r.history r.flight s.homes s.views id v left at (idle_serves v.stage is) r.slot))

  -- the longer of two fronts has all calls of both seats' numbers, and the shorter begins it
  record Joined (history : List Entry) (v w : View) (b : Bool) : Type 0 where
    front : Begins (cond b w.front v.front) history
    told : Begins (cond b v.front w.front) (cond b w.front v.front)
    told_calls : (n : ℕ) → Has n (cond b v.numbers w.numbers) → calls_by n (cond b w.front v.front) ≡ calls_by n (cond b v.front w.front)
    first_calls : (n : ℕ) → Has n v.numbers → calls_by n history ≡ calls_by n (cond b w.front v.front)
    second_calls : (n : ℕ) → Has n w.numbers → calls_by n history ≡ calls_by n (cond b w.front v.front)

  joined_front : (history : List Entry) (v w : View) → Follows v history → Follows w history → (b : Bool) → is_shorter v.front w.front ≡ b → Joined history v w b
  joined_front history v w f g true e =
      let begins = compared v.front w.front history f.0 g.0 (let l : length v.front < length w.front = ltb-true (length v.front) (length w.front) e in omega arith) in
      let same : (n : ℕ) → Has n v.numbers → calls_by n w.front ≡ calls_by n v.front = λ n has. calls_between n v.front w.front history begins g.0 (f.1 n has) in
      record { front = g.0; told = begins; told_calls = same; first_calls = λ n has. f.1 n has ∙ sym (same n has); second_calls = g.1 }
  joined_front history v w f g false e =
      let begins = compared w.front v.front history g.0 f.0 (ltb-false (length v.front) (length w.front) e) in
      let same : (n : ℕ) → Has n w.numbers → calls_by n v.front ≡ calls_by n w.front = λ n has. calls_between n w.front v.front history begins f.0 (g.1 n has) in
      record { front = f.0; told = begins; told_calls = same; first_calls = f.1; second_calls = λ n has. g.1 n has ∙ sym (same n has) }

  -- the calls of the longer front, by the numbers that both seats know
  joined_calls : (v w : View) → ((n : ℕ) → v.given ≤ n → calls_by n v.front ≡ []) → ((n : ℕ) → w.given ≤ n → calls_by n w.front ≡ []) → (b : Bool)
      → (n : ℕ) → max v.given w.given ≤ n → calls_by n (cond b w.front v.front) ≡ []
  joined_calls v w f g true n h = g n (omega arith)
  joined_calls v w f g false n h = f n (omega arith)

  joins : (id : ℕ) (v : View) (other : ℕ) (w : View) → v.stage ≡ Idle → w.stage ≡ Idle → Joins Rule id v other w (merged v w) spent
  joins id v other w is is' s r at apart there =
      let both : View = merged v w in
      let here : get_elem? s.views other ≡ some w = sym (set_else s.views id other both apart) ∙ there in
      let k = r.each id v at in
      let l = r.each other w here in
      let owner : ℕ → ℕ = λ (x : ℕ). cond (eqb (r.owner x) other) id (r.owner x) in
      let else_owner : (x : ℕ) → r.owner x ≢ other → owner x ≡ r.owner x = λ x no. ap (λ (b : Bool). cond b id (r.owner x)) (ne_eqb (r.owner x) other no) in
      let f = joined_front r.history v w (k.front, λ n has. (k.mine n has).2) (l.front, λ n has. (l.mine n has).2) (is_shorter v.front w.front) refl in
      let views : List View = set s.views id both in
      let sum = total_set share_of s.views id v both at in
      let sum' = total_set share_of views other w spent there in
      let whole = r.shares in
      let less = looks_set s.views id v both at (omega arith) in
      let less' = looks_set views other w spent there (omega arith) in
      let room = r.room in
      let a = k.tickets in
      let b = l.tickets in
      let K : ℕ → View → Type 0 = Knows stored r.history r.flight r.given owner r.drawer (served s) (next s) in
      let mine_both : K id both = record {
        front = f.front;
        told = f.told;
        told_calls = f.told_calls;
        mine = λ n has. ⊎_elim
            (λ (h : Has n v.numbers). let m = k.mine n h in (m.0, else_owner n (λ e. apart (sym e ∙ m.1)) ∙ m.1, f.first_calls n h))
            (λ (h : Has n w.numbers). let m = l.mine n h in (m.0, ap (λ (c : Bool). cond c id (r.owner n)) (eq-eqb (r.owner n) other m.1), f.second_calls n h))
            (has_either n v.numbers w.numbers has);
        apart = apart_both v.numbers w.numbers k.apart l.apart (λ n (h : Has n v.numbers) (h' : Has n w.numbers). apart (sym (l.mine n h').1 ∙ (k.mine n h).1));
        armed = λ n has. ⊎_elim
            (λ (h : Has n v.numbers). let part : 0 < v.share = k.armed n h in omega arith)
            (λ (h : Has n w.numbers). let part : 0 < w.share = l.armed n h in omega arith)
            (has_either n v.numbers w.numbers has);
        answers = λ m c a. ⊎_elim (λ (h : Answered m c v.answers). k.answers m c h) (λ (h : Answered m c w.answers). l.answers m c h) (answered_either m c v.answers w.answers a);
        tickets = omega arith;
        numbers = let one : v.given ≤ r.given = k.numbers.upto in let two : w.given ≤ r.given = l.numbers.upto in record {
          upto = omega arith;
          own = λ n has. ⊎_elim
              (λ (h : Has n v.numbers). let low : n < v.given = k.numbers.own n h in omega arith)
              (λ (h : Has n w.numbers). let low : n < w.given = l.numbers.own n h in omega arith)
              (has_either n v.numbers w.numbers has);
          calls = joined_calls v w k.numbers.calls l.numbers.calls (is_shorter v.front w.front);
        };
        queued = tt;
      } in
      reseated s r (set views other spent) owner (omega arith) (omega arith)
      (seats_stay K views other spent
      record {
        front = begins_empty r.history;
        told = begins_empty [];
        told_calls = λ x h. absurd h;
        mine = λ x h. absurd h;
        apart = tt;
        armed = λ x h. absurd h;
        answers = λ x c h. absurd h;
        tickets = omega arith;
        numbers = record { upto = omega arith; own = λ x h. absurd h; calls = λ x h. refl };
        queued = tt;
      }
      (λ j u off e. seats_stay (λ i x. i ≢ other → K i x) s.views id both (λ _. mine_both)
      (λ i x not was away. later stored r.history r.flight r.history r.flight r.given r.given r.owner owner r.drawer r.drawer (served s) (served s) (next s) (next s) i x
      (begins_self r.history) (begins_self (r.history ++ r.flight))
      (λ y low own. (else_owner y (λ same. away (sym own ∙ same)) ∙ own, refl)) (omega arith) (λ t h. refl) (omega arith) (λ t d h. h) (λ d. (refl, refl, refl)) (r.each i x was))
      j u e off))
      (owned_joined s.views r.given r.owner id v other w at here apart r.owned)
      (slot_stays r.history r.flight s.homes views other w spent there (idle_serves w.stage is')
      (slot_stays r.history r.flight s.homes s.views id v both at (idle_serves v.stage is) r.slot))

  only_one : (v u : View) (j : ℕ) → get_elem? (v ∷ []) j ≡ some u → (j ≡ 0) × (v ≡ u)
  only_one v u zero e = (refl, some-injective v u e)
  only_one v u (suc j) e = absurd (some-ne-none u (sym e))

  opens : (c : C) (ws : List ℕ) → 0 < seats → Legal [] → Fits [] c → length ws ≡ masters + 2 → get_or ws 0 0 ≡ 0 → get_or ws 1 0 ≡ 0 →
      ((m : ℕ) → m < masters → unpacked at_place m (get_or ws (m + 2) 0) ≡ stored [] m) → Rule (opening ws (c ∷ []) (first_view seats))
  opens c ws some_seats legal fits wide zero_served zero_drawn cards = record {
    history = [];
    flight = [];
    given = 1;
    owner = λ (n : ℕ). 0;
    drawer = λ (t : ℕ). 0;
    legal = legal;
    wide = wide;
    cards = cards;
    counted = sym zero_served;
    ordered = omega arith;
    room = omega arith;
    shares = omega arith;
    numbered = λ n h. refl;
    owned = λ n low. (first_view seats, refl, inl (omega arith));
    each = λ j u e. let o = only_one (first_view seats) u j e in
        subst (λ (x : ℕ × View). Knows stored [] [] 1 (λ (n : ℕ). 0) (λ (t : ℕ). 0) (get_or ws 0 0) (get_or ws 1 0) x.0 x.1) (λ i. (sym o.0 i, o.1 i))
        record {
          front = begins_empty [];
          told = begins_empty [];
          told_calls = λ n h. absurd h;
          mine = λ n h. ⊎_elim (λ (p : n ≡ 0). (omega arith, refl, refl)) (λ (p : ⊥). absurd p) h;
          apart = ((λ (none : ⊥). none), tt);
          armed = λ _ _. some_seats;
          answers = λ m d h. absurd h;
          tickets = omega arith;
          numbers = record { upto = omega arith; own = λ n h. ⊎_elim (λ (p : n ≡ 0). omega arith) (λ (p : ⊥). absurd p) h; calls = λ n h. refl };
          queued = tt;
        };
    slot = inl (c, refl, fits, refl);
  }

  -- where one seat has the whole share and does not serve, the slot is at home
  pub closes : (s : St) (r : Rule s) (id : ℕ) (v : View) → get_elem? s.views id ≡ some v → v.share ≡ seats → v.stage ≡ Idle → AtHome Fits r.history r.flight s.homes
  closes s r id v at whole is = ⊎_elim (λ (a : AtHome Fits r.history r.flight s.homes). a) (λ (o : Out s.homes s.views). absurd (taken o)) r.slot
    where
      taken : Out s.homes s.views → ⊥
      taken o =
          let u : View = o.1.1 in
          let some_share : 0 < u.share = (slot_served s r o).0 in
          dite (ℕ_discrete o.1.0 id)
          (λ same. idle_serves v.stage is o.1.2 (ap (λ (x : View). x.stage) (some-injective v u (sym at ∙ (ap (get_elem? s.views) (sym same) ∙ o.1.3))) ∙ o.1.4))
          (λ apart. let none = no_share s.views id o.1.0 v u at (whole ∙ sym r.shares) apart o.1.3 in omega arith)

  -- and each call of the history is under a number of that seat, which has seen them all
  pub all_seen : (s : St) (r : Rule s) (id : ℕ) (v : View) → get_elem? s.views id ≡ some v → v.share ≡ seats →
      ((n : ℕ) → ¬ Has n v.numbers → calls_by n v.front ≡ []) × (v.front ≡ r.history)
  all_seen s r id v at whole = (
    (λ n away. calls_begin n v.front r.history k.front (unheld n away)),
    sym
        (k.front.1 ∙ (ap (λ (l : List Entry). v.front ++ l) none_left ∙ append-nil v.front)),
  )
    where
      k : Knows stored r.history r.flight r.given r.owner r.drawer (served s) (next s) id v
      k = r.each id v at

      of_seat : (n : ℕ) → ¬ Has n v.numbers → n < r.given → ⊥
      of_seat n away low =
          let o = r.owned n low in
          let part : 0 < o.0.share = (r.each (r.owner n) o.0 o.1).armed n o.2 in
          dite (ℕ_discrete (r.owner n) id)
          (λ same. away (subst (λ (u : View). Has n u.numbers) (some-injective o.0 v (sym o.1 ∙ (ap (get_elem? s.views) same ∙ at))) o.2))
          (λ apart. let none = no_share s.views id (r.owner n) v o.0 at (whole ∙ sym r.shares) apart o.1 in omega arith)

      given_or : (n : ℕ) (b : Bool) → ltb n r.given ≡ b → ¬ Has n v.numbers → calls_by n r.history ≡ []
      given_or n true e away = absurd (of_seat n away (ltb-true n r.given e))
      given_or n false e away = r.numbered n (ltb-false n r.given e)

      unheld : (n : ℕ) → ¬ Has n v.numbers → calls_by n r.history ≡ []
      unheld n away = given_or n (ltb n r.given) refl away

      none_left : k.front.0 ≡ []
      none_left = no_calls k.front.0 (λ n. calls_left n v.front k.front.0
          (ap (calls_by n) (sym k.front.1) ∙ ⊎_elim (λ (h : Has n v.numbers). (k.mine n h).2)
          (λ (away : ¬ Has n v.numbers). unheld n away ∙ sym (calls_begin n v.front r.history k.front (unheld n away))) (has_or n v.numbers)))

  -- A new table

  abbrev All : C → St → Type 0
  All empty = Ruled Legal stored Fits empty at_place masters seats

  abbrev IsBegun : Stage → Type 0
  IsBegun st = (st ≢ Opening) × (st ≢ Filling)

  idle_begun : (st : Stage) → st ≡ Idle → IsBegun st
  idle_begun st is = ((λ e. let no : Idle ≡ Opening = sym is ∙ e in cc), (λ e. let no : Idle ≡ Filling = sym is ∙ e in cc))

  looked_begun : (st : Stage) → st ≡ Looked → IsBegun st
  looked_begun st is = ((λ e. let no : Looked ≡ Opening = sym is ∙ e in cc), (λ e. let no : Looked ≡ Filling = sym is ∙ e in cc))

  waiting_begun : (st : Stage) (t : ℕ) → st ≡ Waiting t → IsBegun st
  waiting_begun st t is = ((λ e. let no : Waiting t ≡ Opening = sym is ∙ e in cc), (λ e. let no : Waiting t ≡ Filling = sym is ∙ e in cc))

  serving_begun : (st : Stage) (t : ℕ) → st ≡ Serving t → IsBegun st
  serving_begun st t is = ((λ e. let no : Serving t ≡ Opening = sym is ∙ e in cc), (λ e. let no : Serving t ≡ Filling = sym is ∙ e in cc))

  -- a seat that has begun is of no new table
  not_new : (empty : C) (s : St) (id : ℕ) (v : View) → get_elem? s.views id ≡ some v → IsBegun v.stage → IsNew stored empty at_place masters seats s → ⊥
  not_new empty s id v at begun new = ⊎_elim
      (λ (a : (s.homes ≡ some empty ∷ []) × (s.views ≡ first_view_at Opening seats ∷ [])). begun.0 (stage_of (first_view_at Opening seats) a.1))
      (λ (a : (s.homes ≡ none ∷ []) × (s.views ≡ first_view_at Filling seats ∷ [])). begun.1 (stage_of (first_view_at Filling seats) a.1))
      new.slot
    where
      stage_of : (u : View) → s.views ≡ u ∷ [] → v.stage ≡ u.stage
      stage_of u only = ap (λ (x : View). x.stage) (sym (only_one u v id (ap (λ (l : List View). get_elem? l id) (sym only) ∙ at)).1)

  -- the steps of a seat that has begun keep the whole rule
  begun : (empty : C) (slots id : ℕ) (me : M) (i : ℕ) (f : ℕ → ℕ) (then : ℕ → M → Type 0) → IsBegun me.0.stage → Allows Rule slots id me i f then →
      Allows (All empty) slots id me i f then
  begun empty slots id me i f then is allows s r len at bound = ⊎_elim
      (λ (new : IsNew stored empty at_place masters seats s). absurd (not_new empty s id me.0 at is new))
      (λ (o : Rule s). let x = allows s o len at bound in (x.0, x.1, x.2, inr x.3, x.4))
      r

  begun_splits : (empty : C) (id : ℕ) (v left right : View) → IsBegun v.stage → Splits Rule id v left right → Splits (All empty) id v left right
  begun_splits empty id v left right is splits s r at = ⊎_elim
      (λ (new : IsNew stored empty at_place masters seats s). absurd (not_new empty s id v at is new))
      (λ (o : Rule s). inr (splits s o at))
      r

  begun_joins : (empty : C) (id : ℕ) (v : View) (other : ℕ) (w both gone : View) → IsBegun v.stage → Joins Rule id v other w both gone → Joins (All empty) id v other w both gone
  begun_joins empty id v other w both gone is joins s r at apart there = ⊎_elim
      (λ (new : IsNew stored empty at_place masters seats s). absurd (not_new empty s id v at is new))
      (λ (o : Rule s). inr (joins s o at apart there))
      r

  pub orderly : (empty : C) (s : St) (id : ℕ) (v : View) → get_elem? s.views id ≡ some v → v.stage ≡ Idle → All empty s → Rule s
  orderly empty s id v at is r = ⊎_elim
      (λ (new : IsNew stored empty at_place masters seats s). absurd (not_new empty s id v at (idle_begun v.stage is) new))
      (λ (o : Rule s). o)
      r

  pub sits_all : (empty : C) (slots id : ℕ) (me : M) → me.0.stage ≡ Idle → 0 < me.0.share → Allows (All empty) slots id me 1 (λ n. n) (Sits (step slots 1 0 0 none) me)
  sits_all empty slots id me is some_share =
      begun empty slots id me 1 (λ n. n) (Sits (step slots 1 0 0 none) me) (idle_begun me.0.stage is) (sits slots id me is some_share)

  pub draws_all : (empty : C) (slots id : ℕ) (me : M) → seats ≤ 4294967296 → me.0.stage ≡ Looked →
      Allows (All empty) slots id me 1 (λ n. (n + 1) % 18446744073709551616) (Draws (step slots 1 1 0 none) me)
  draws_all empty slots id me few is =
      begun empty slots id me 1 (λ n. (n + 1) % 18446744073709551616) (Draws (step slots 1 1 0 none) me) (looked_begun me.0.stage is) (draws slots id me few is)

  pub turns_all : (empty : C) (slots id : ℕ) (me : M) (t : ℕ) → me.0.stage ≡ Waiting t → Allows (All empty) slots id me 0 (λ n. n) (Turns Legal Fits (step slots 0 0 0 none) me)
  turns_all empty slots id me t is =
      begun empty slots id me 0 (λ n. n) (Turns Legal Fits (step slots 0 0 0 none) me) (waiting_begun me.0.stage t is) (turns slots id me t is)

  pub passes_all : (empty : C) (slots id : ℕ) (me : M) (t : ℕ) (e : Entry) (c : C) → seats ≤ 4294967296 → me.0.stage ≡ Serving t → me.1 ≡ (0, c) ∷ [] → me.0.flight ≡ e ∷ [] →
      Has e.number me.0.numbers
      → Fits (me.0.front ++ e ∷ []) c → Allows (All empty) slots id me 0 (λ n. (n + 1) % 18446744073709551616) (Passes stored (step slots 0 1 0 none) me)
  passes_all empty slots id me t e c few is holds_it announced has fits =
      begun empty slots id me 0 (λ n. (n + 1) % 18446744073709551616) (Passes stored (step slots 0 1 0 none) me) (serving_begun me.0.stage t is)
      (passes slots id me t e c few is holds_it announced has fits)

  pub raises_all : (empty : C) (slots id : ℕ) (me : M) (t : ℕ) (e : Entry) (c : C) (m k : ℕ) → me.0.stage ≡ Serving t → me.1 ≡ (0, c) ∷ [] → me.0.flight ≡ [] →
      Legal (me.0.front ++ e ∷ [])
      → m < masters → unpacked at_place m k ≡ stored (me.0.front ++ e ∷ []) m →
      (stored me.0.front m ≡ stored (me.0.front ++ e ∷ []) m) ⊎ ((stored me.0.front m).epoch < (stored (me.0.front ++ e ∷ []) m).epoch)
      → ((x : ℕ) → x ≢ m → stored (me.0.front ++ e ∷ []) x ≡ stored me.0.front x)
      → Allows (All empty) slots id me (m + 2) (λ n. max n k) (Raises e (step slots (m + 2) k 0 none) me)
  raises_all empty slots id me t e c m k is holds_it none_flying legal low told newer others =
      begun empty slots id me (m + 2) (λ n. max n k) (Raises e (step slots (m + 2) k 0 none) me) (serving_begun me.0.stage t is)
      (raises slots id me t e c m k is holds_it none_flying legal low told newer others)

  pub tells_all : (empty : C) (slots id : ℕ) (me : M) (m : ℕ) → m < masters → me.0.stage ≡ Idle →
      ((x : ℕ) (part whole : List Entry) → Begins part whole → Legal whole → (stored part x).epoch ≤ (stored whole x).epoch)
      → Allows (All empty) slots id me (m + 2) (λ n. n) (Tells Legal stored at_place (step slots (m + 2) 0 0 none) me)
  tells_all empty slots id me m low is rises =
      begun empty slots id me (m + 2) (λ n. n) (Tells Legal stored at_place (step slots (m + 2) 0 0 none) me) (idle_begun me.0.stage is) (tells slots id me m low is rises)

  pub names_all : (empty : C) (slots id : ℕ) (me : M) → me.0.stage ≡ Idle → 0 < me.0.share → Allows (All empty) slots id me 0 (λ n. n) (Names (step slots 0 0 0 none) me)
  names_all empty slots id me is some_share = begun empty slots id me 0 (λ n. n) (Names (step slots 0 0 0 none) me) (idle_begun me.0.stage is) (names slots id me is some_share)

  pub settles_all : (empty : C) (slots id : ℕ) (me : M) → me.0.stage ≡ Idle → seats ≤ MOST_SEATS → Allows (All empty) slots id me 0 (λ n. n) (Settles (step slots 0 0 0 none) me)
  settles_all empty slots id me is few = begun empty slots id me 0 (λ n. n) (Settles (step slots 0 0 0 none) me) (idle_begun me.0.stage is) (settles slots id me few)

  pub splits_all : (empty : C) (id : ℕ) (v : View) (n : ℕ) (ns : List ℕ) → v.stage ≡ Idle → 2 ≤ v.share → v.numbers ≡ n ∷ ns → ¬ Has n ns →
      Splits (All empty) id v (left_half v) (right_half v)
  splits_all empty id v n ns is two numbers fresh = begun_splits empty id v (left_half v) (right_half v) (idle_begun v.stage is) (splits id v n ns is two numbers fresh)

  pub joins_all : (empty : C) (id : ℕ) (v : View) (other : ℕ) (w : View) → v.stage ≡ Idle → w.stage ≡ Idle → Joins (All empty) id v other w (merged v w) spent
  joins_all empty id v other w is is' = begun_joins empty id v other w (merged v w) spent (idle_begun v.stage is) (joins id v other w is is')

  -- a new table, whose slot is empty
  pub starts : (empty : C) (ws : List ℕ) → 0 < seats → length ws ≡ masters + 2 → get_or ws 0 0 ≡ 0 → get_or ws 1 0 ≡ 0 →
      ((m : ℕ) → m < masters → unpacked at_place m (get_or ws (m + 2) 0) ≡ stored [] m)
      → All empty (opening ws (empty ∷ []) (first_view_at Opening seats))
  starts empty ws some_seats wide zero_served zero_drawn cards =
      inl (record { some_seats = some_seats; wide = wide; none_served = zero_served; none_drawn = zero_drawn; cards = cards; slot = inl (refl, refl) })

  not_opening : (s : St) (r : Rule s) (id : ℕ) (v : View) (st : Stage) → get_elem? s.views id ≡ some v → v.stage ≡ st
      → Queued r.history r.flight r.drawer (served s) (next s) id v.share v.front v.flight st
  not_opening s r id v st at is = subst (Queued r.history r.flight r.drawer (served s) (next s) id v.share v.front v.flight) is (r.each id v at).queued

  -- the one view of a new table
  the_one : (s : St) (id : ℕ) (v u : View) → get_elem? s.views id ≡ some v → s.views ≡ u ∷ [] → (id ≡ 0) × (u ≡ v)
  the_one s id v u at only = only_one u v id (ap (λ (l : List View). get_elem? l id) (sym only) ∙ at)

  one_view : (views : List View) (id : ℕ) (u w : View) → views ≡ u ∷ [] → id ≡ 0 → w ∷ [] ≡ set views id w
  one_view views id u w only first = λ i. set (sym only i) (sym first i) w

  -- the first seat takes the empty slot
  pub enters : (empty : C) (slots id : ℕ) (me : M) → me.0 ≡ first_view_at Opening seats → Allows (All empty) slots id me 0 (λ n. n) (Enters empty (step slots 0 0 0 none) me)
  enters empty slots id me is s r _ at _ = ⊎_elim
      (λ (new : IsNew stored empty at_place masters seats s). ⊎_elim
      (λ (a : (s.homes ≡ some empty ∷ []) × (s.views ≡ first_view_at Opening seats ∷ [])).
      let one = the_one s id me.0 (first_view_at Opening seats) at a.1 in
      let w : View = first_view_at Filling seats in (
        w,
        takes 0 empty,
        ap (λ (l : List (Option C)). get_elem? l 0) a.0,
        subst (λ (x : List ℕ × List (Option C) × List View). All empty record { words = x.0; homes = x.1; views = x.2 })
            (λ i. (sym (set-get_or s.words 0 0) i, ap (λ (l : List (Option C)). set l 0 none) (sym a.0) i, one_view s.views id (first_view_at Opening seats) w a.1 one.0 i))
            (inl (record { some_seats = new.some_seats; wide = new.wide; none_served = new.none_served; none_drawn = new.none_drawn; cards = new.cards; slot = inr (refl, refl) })),
        (ap (λ (v : View). let x : View = record v { stage = Filling } in x) (sym is), refl),
      ))
      (λ (a : (s.homes ≡ none ∷ []) × (s.views ≡ first_view_at Filling seats ∷ [])).
      let no : Filling ≡ Opening = ap (λ (v : View). v.stage) ((the_one s id me.0 (first_view_at Filling seats) at a.1).1 ∙ is) in absurd (let e : ⊥ = cc in e))
      new.slot)
      (λ (o : Rule s). absurd (not_opening s o id me.0 Opening at (ap (λ (v : View). v.stage) is)))
      r

  -- and gives it back filled
  pub fills : (empty : C) (slots id : ℕ) (me : M) (c : C) → me.0 ≡ first_view_at Filling seats → me.1 ≡ (0, c) ∷ [] → Legal [] → Fits [] c →
      Allows (All empty) slots id me 0 (λ n. n) (Fills (step slots 0 0 0 none) me)
  fills empty slots id me c is holds_it legal fits s r _ at _ = ⊎_elim
      (λ (new : IsNew stored empty at_place masters seats s). ⊎_elim
      (λ (a : (s.homes ≡ some empty ∷ []) × (s.views ≡ first_view_at Opening seats ∷ [])).
      let no : Opening ≡ Filling = ap (λ (v : View). v.stage) ((the_one s id me.0 (first_view_at Opening seats) at a.1).1 ∙ is) in absurd (let e : ⊥ = cc in e))
      (λ (a : (s.homes ≡ none ∷ []) × (s.views ≡ first_view_at Filling seats ∷ [])).
      let one = the_one s id me.0 (first_view_at Filling seats) at a.1 in
      let w : View = first_view seats in (
        w,
        gives,
        tt,
        subst (λ (l : List (ℕ × C)). All empty record { words = set s.words 0 (get_or s.words 0 0); homes = put_back s.homes l; views = set s.views id w }) (sym holds_it)
            (subst (λ (x : List ℕ × List (Option C) × List View). All empty record { words = x.0; homes = x.1; views = x.2 })
            (λ i. (sym (set-get_or s.words 0 0) i, ap (λ (l : List (Option C)). set l 0 (some c)) (sym a.0) i, one_view s.views id (first_view_at Filling seats) w a.1 one.0 i))
            (inr (opens c s.words new.some_seats legal fits new.wide new.none_served new.none_drawn new.cards))),
        (ap (λ (v : View). let x : View = record v { stage = Idle } in x) (sym is), ap rest holds_it),
      ))
      new.slot)
      (λ (o : Rule s). absurd (not_opening s o id me.0 Filling at (ap (λ (v : View). v.stage) is)))
      r
