-- What one turn adds to the history.
use Rattle.std.proofs.Common.{◌≡◌, ◌≢◌, ℕ, ◌+◌, ◌<◌, ◌≤◌, Bool, cond, List, [], ◌∷◌, ◌++◌, drop, length, length-append, Option, Some, None, Result, Ok, Err, refl, sym, ap, ◌∙◌, subst, lt-ltb}
use mathlib.Core.List.{append-nil}
use Rattle.atomic_table.specs.Table.{Me}
use Rattle.ballot_law.specs.declared.cards.Kept.{Kept}
use Rattle.sentinel_rules.specs.Plans.{Plan, addr_at}
use Rattle.sentinel_rules.specs.Changes.{IsSameOrNewer}
use Rattle.ballot_law.specs.declared.events.Input.{Input}
use Rattle.ballot_law.specs.declared.messages.Output.{Output}
use Rattle.sentinel_outbox.specs.Outboxes.{Outputs}
use Rattle.sentinel_cell.specs.declared.entry.Entry.{Entry}
use Rattle.sentinel_cell.specs.declared.entry.Outcome.{Outcome}
use Rattle.sentinel_cell.specs.declared.view.View.{View}
use Rattle.sentinel_cell.specs.declared.view.Stage.TheVariants.{Opening, Filling, Idle, Looked}
use Rattle.sentinel_cell.specs.declared.keeper.Keeper.{Keeper}
use Rattle.ballot_law.specs.declared.cards.Card.{Card}
use Rattle.ballot_law.specs.Ballots.{card_of}
use Rattle.sentinel_cell.specs.Calls.{Has, calls_by, AreOf}
use Rattle.sentinel_cell.proofs.Cards.{same_plan}
use Rattle.sentinel_cell.specs.Histories.{World, IsOutcome, IsStep, AreSteps, IsLegal, IsLeft, Fits, Announces, after, replay, stored_at, entry_of}
use Rattle.sentinel_cell.specs.Turns.{unpacked, answered, first_view_at, AreGiven, IsFresh, looked, drawn, serving, raised, passed, numbered, left_half, right_half, Follows}
use Rattle.sentinel_cell.specs.Standing.{Standing, standing, head_view, first_number, Adds, Acted, IsSame, answer_of}
use Rattle.std.specs.Result.{IfOk, OnErr}
use Rattle.sentinel_cell.specs.declared.place.TicketsSpent.{TicketsSpent}
use Rattle.sentinel_cell.specs.declared.fault.Reply.{Reply}
use Rattle.sentinel_cell.specs.declared.fault.ActFault.{ActFault}
use Rattle.sentinel_cell.specs.declared.fault.ActFault.TheVariants.{NoMemory, Spent, Halted as ActHalted, StoreRefused}
use Rattle.sentinel_cell.specs.declared.entry.Outcome.TheVariants.{Stored, Refused, Halted}
use Rattle.atomic_table.specs.Seated.{TableId}
use Rattle.sentinel_cell.proofs.Fronts.{calls-append, none_after}

pub replay-append : (w : World) (xs ys : List Entry) → replay w (xs ++ ys) ≡ replay (replay w xs) ys
replay-append w [] ys = refl
replay-append w (e ∷ es) ys = replay-append (after w e) es ys

pub legal-append : (w : World) (xs ys : List Entry) → AreSteps w xs → AreSteps (replay w xs) ys → AreSteps w (xs ++ ys)
legal-append w [] ys a b = b
legal-append w (e ∷ es) ys a b = (a.0, legal-append (after w e) es ys a.1 b)

pub legal_step : (w : World) (history : List Entry) (e : Entry) → IsLegal w history → IsStep (replay w history) e → IsLegal w (history ++ e ∷ [])
legal_step w history e a b = (a.0, legal-append w history (e ∷ []) a.1 (b, tt))

pub fits_step : {S : Type 0} (text : S → Option (List ℕ)) (failures : S → ℕ) (w : World) (history : List Entry) (e : Entry) (k : Keeper S) →
    IsLeft text failures (after (replay w history) e) k → Fits text failures w (history ++ e ∷ []) (Some k)
fits_step text failures w history e k left = (k, refl, subst (λ (x : World). IsLeft text failures x k) (sym (replay-append w history (e ∷ []))) left)

-- the views of one turn
abbrev pub turned : View → ℕ → ℕ → List Entry → ℕ → View
turned v r t history given = serving (drawn (looked v r) t) t history given

pub adds : (start : World) (v w : View) (input : Input) (outcome : Outcome) (outputs : List Output) (r t : ℕ) (history : List Entry) (given : ℕ) (e : Entry)
    → w ≡ passed (raised (turned v r t history given) e) → v.given ≤ given → IsLegal start (history ++ e ∷ []) → Follows v history
    → e.number ≡ first_number v.numbers → e.input ≡ input → e.outcome ≡ outcome → e.outputs ≡ outputs → AreOf (stored_at start) w.answers w.front → AreGiven w.given w.front →
    Adds start v input outcome outputs w
adds start v w input outcome outputs r t history given e is more legal follows number asked came out known calls =
    subst (λ (x : View). Adds start v input outcome outputs x) (sym is) (
      follows.0.0,
      e,
      ap (λ (l : List Entry). l ++ e ∷ []) follows.0.1,
      legal,
      λ n has. none_after (calls_by n v.front) (calls_by n follows.0.0) []
          (append-nil (calls_by n v.front ++ calls_by n follows.0.0) ∙ (sym (calls-append n v.front follows.0.0) ∙ (ap (calls_by n) (sym follows.0.1) ∙ follows.1 n has))),
      number,
      asked,
      came,
      out,
      refl,
      refl,
      refl,
      subst (λ (x : View). AreOf (stored_at start) x.answers x.front) is known,
      more,
      subst (λ (x : View). AreGiven x.given x.front) is calls,
    )

pub looks_low : (v : View) (r : ℕ) → r < 9223372036854775808 → (looked v r).stage ≡ Looked
looks_low v r h = ap (λ (b : Bool). cond b Looked Idle) (lt-ltb r 9223372036854775808 h)

module _ {C : Type 0} where
  pub in_turn : (m0 m1 m2 m3 : Me C View) (r t : ℕ) (history : List Entry) (given : ℕ) (c : C) → m1.0 ≡ looked m0.0 r → m2.0 ≡ drawn m1.0 t →
      m3 ≡ (serving m2.0 t history given, (0, c) ∷ m2.1) → m3.0 ≡ turned m0.0 r t history given
  in_turn m0 m1 m2 m3 r t history given c a b d = ap (λ (x : Me C View). x.0) d ∙ ap (λ (v : View). serving v t history given) (b ∙ ap (λ (v : View). drawn v t) a)

  pub follows_first : (m0 m1 m2 : Me C View) (r t : ℕ) (history : List Entry) → m1.0 ≡ looked m0.0 r → m2.0 ≡ drawn m1.0 t → Follows m2.0 history → Follows m0.0 history
  follows_first m0 m1 m2 r t history a b f = let h : Follows (drawn (looked m0.0 r) t) history = subst (λ (v : View). Follows v history) (b ∙ ap (λ (v : View). drawn v t) a) f in h

  pub given_first : (m0 m1 m2 : Me C View) (r t given : ℕ) → m1.0 ≡ looked m0.0 r → m2.0 ≡ drawn m1.0 t → m2.0.given ≤ given → m0.0.given ≤ given
  given_first m0 m1 m2 r t given a b h = let x : (drawn (looked m0.0 r) t).given ≤ given = subst (λ (v : View). v.given ≤ given) (b ∙ ap (λ (v : View). drawn v t) a) h in x

  pub kept_view : (m3 m4 m5 : Me C View) (v : View) (l l' : List (ℕ × C)) → m3.0 ≡ v → m4 ≡ (m3.0, l) → m5 ≡ (m4.0, l') → m5.0 ≡ v
  kept_view m3 m4 m5 v l l' a b d = ap (λ (x : Me C View). x.0) d ∙ (ap (λ (x : Me C View). x.0) b ∙ a)

  pub filling_view : (a b d : Me C View) (l l' : List (ℕ × C)) (seats : ℕ) → a ≡ (first_view_at Opening seats, l) → b.0 ≡ record a.0 { stage = Filling } → d ≡ (b.0, l') →
      d.0 ≡ first_view_at Filling seats
  filling_view a b d l l' seats e f h = ap (λ (x : Me C View). x.0) h ∙ (f ∙ ap (λ (x : Me C View). let v : View = record x.0 { stage = Filling } in v) e)

  pub slots_of : (m : Me C View) (v : View) (l : List (ℕ × C)) → m ≡ (v, l) → m.1 ≡ l
  slots_of m v l e = ap (λ (x : Me C View). x.1) e

  pub view_of : (m : Me C View) (v : View) (l : List (ℕ × C)) → m ≡ (v, l) → m.0 ≡ v
  view_of m v l e = ap (λ (x : Me C View). x.0) e

module _ {S : Type 0} (text : S → Option (List ℕ)) (failures : S → ℕ) where
  pub slot_out : (start : World) (history : List Entry) (m0 m1 m2 m3 : Me (Option (Keeper S)) View) (v : View) (c : Option (Keeper S)) → m0.1 ≡ [] → m1.1 ≡ m0.1 → m2.1 ≡ m1.1
      → m3 ≡ (v, (0, c) ∷ m2.1) → (f : Fits text failures start history c) → m3.1 ≡ (0, Some f.0) ∷ []
  slot_out start history m0 m1 m2 m3 v c a b d e f = ap (λ (x : Me (Option (Keeper S)) View). x.1) e ∙ (λ i. (0, f.1 i) ∷ (d ∙ (b ∙ a)) i)

  abbrev some_or : Keeper S → Option (Keeper S) → Keeper S
  some_or d (Some k) = k
  some_or d None = d

  abbrev keeper_in : Keeper S → List (ℕ × Option (Keeper S)) → Keeper S
  keeper_in d [] = d
  keeper_in d (x ∷ xs) = some_or d x.1

  same_keeper : (k k' : Keeper S) (l : List (ℕ × Option (Keeper S))) → l ≡ (0, Some k) ∷ [] → l ≡ (0, Some k') ∷ [] → k' ≡ k
  same_keeper k k' l a b = ap (keeper_in k) (sym b ∙ a)

  pub left_out : (start : World) (history : List Entry) (c : Option (Keeper S)) (f : Fits text failures start history c) (k : Keeper S) (l : List (ℕ × Option (Keeper S))) →
      l ≡ (0, Some f.0) ∷ [] → l ≡ (0, Some k) ∷ []
      → IsLeft text failures (replay start history) k
  left_out start history c f k l a b = subst (IsLeft text failures (replay start history)) (sym (same_keeper f.0 k l a b)) f.2

  pub left_plan : (start : World) (history : List Entry) (e : Entry) (k : Keeper S) → IsLeft text failures (after (replay start history) e) k → k.sentinel.plan ≡ start.plan
  left_plan start history e k left = left.plan ∙ (sym (ap (λ (u : World). u.plan) (replay-append start history (e ∷ []))) ∙ same_plan start (history ++ e ∷ []))

  -- what is announced
  pub announced : (start : World) (history : List Entry) (m5 : Me (Option (Keeper S)) View) (w : View) (e : Entry) (old k : Keeper S) (master word : ℕ) → m5.0 ≡ w →
      w.front ≡ history → IsLegal start history
      → IsLeft text failures (replay start history) old → IsStep (replay start history) e × IsLeft text failures (after (replay start history) e) k
      → unpacked (addr_at k.sentinel.plan) master word ≡ card_of k.sentinel.stored master
      → ((x : ℕ) → IsSameOrNewer (card_of old.sentinel.stored x) (card_of k.sentinel.stored x)) →
      ((x : ℕ) → x ≢ master → card_of k.sentinel.stored x ≡ card_of old.sentinel.stored x)
      → IsLegal start (m5.0.front ++ e ∷ []) × Announces start m5.0.front e master word
  announced start history m5 w e old k master word is front legal left step packed_is newer others =
      let there : history ≡ m5.0.front = sym (ap (λ (x : View). x.front) is ∙ front) in
      let was : (x : ℕ) → card_of old.sentinel.stored x ≡ stored_at start history x = λ x. ap (λ (u : Kept). card_of u x) left.stored in
      let on : (x : ℕ) → card_of k.sentinel.stored x ≡ stored_at start (history ++ e ∷ []) x =
      λ x. ap (λ (u : Kept). card_of u x) step.1.stored ∙ sym (ap (λ (u : World). card_of u.stored x) (replay-append start history (e ∷ []))) in
      let plan : k.sentinel.plan ≡ start.plan = left_plan start history e k step.1 in
      let P : List Entry → Type 0 = λ l. IsLegal start (l ++ e ∷ []) × Announces start l e master word in
      let at : P history = (
        legal_step start history e legal step.0,
        (
          subst (λ (p : Plan). unpacked (addr_at p) master word ≡ stored_at start (history ++ e ∷ []) master) plan (packed_is ∙ on master),
          subst (λ (c : Card × Card). IsSameOrNewer c.0 c.1) (λ i. (was master i, on master i)) (newer master),
          λ x apart. sym (on x) ∙ (others x apart ∙ was x),
        ),
      ) in
      subst P there at

  pub passes_on : (start : World) (history : List Entry) (m5 m6 : Me (Option (Keeper S)) View) (v w : View) (e : Entry) (k : Keeper S) → m5 ≡ (v, (0, Some k) ∷ []) →
      m6 ≡ (raised m5.0 e, m5.1) → m5.0 ≡ w → w.front ≡ history → Has e.number m5.0.numbers
      → IsLeft text failures (after (replay start history) e) k
      → (x : Entry) × (c : Option (Keeper S)) × (m6.0.flight ≡ x ∷ []) × Has x.number m6.0.numbers × (m6.1 ≡ (0, c) ∷ []) × Fits text failures start (m6.0.front ++ x ∷ []) c
  passes_on start history m5 m6 v w e k slot up is front has left =
      let view : m6.0 ≡ raised m5.0 e = ap (λ (x : Me (Option (Keeper S)) View). x.0) up in
      let there : history ++ e ∷ [] ≡ m6.0.front ++ e ∷ [] =
      ap (λ (l : List Entry). l ++ e ∷ []) (sym (ap (λ (x : View). x.front) view ∙ (ap (λ (x : View). x.front) is ∙ front))) in (
        e,
        Some k,
        ap (λ (x : View). x.flight) view,
        subst (λ (x : View). Has e.number x.numbers) (sym view) has,
        ap (λ (x : Me (Option (Keeper S)) View). x.1) up ∙ ap (λ (x : Me (Option (Keeper S)) View). x.1) slot,
        subst (λ (l : List Entry). Fits text failures start l (Some k)) there (fits_step text failures start history e k left),
      )

  -- the entry, with the numbers that the call read
  pub same_step : (w : World) (number : ℕ) (input : Input) (outcome : Outcome) (first first' : ℕ) (shown : List Output) (count count' : ℕ) (k : Keeper S) → first ≡ first' →
      count ≡ count'
      → IsStep w (entry_of number input outcome first shown count) × IsLeft text failures (after w (entry_of number input outcome first shown count)) k
      → IsStep w (entry_of number input outcome first' shown count') × IsLeft text failures (after w (entry_of number input outcome first' shown count')) k
  same_step w number input outcome first first' shown count count' k a b step =
      subst (λ (x : ℕ × ℕ). IsStep w (entry_of number input outcome x.0 shown x.1) × IsLeft text failures (after w (entry_of number input outcome x.0 shown x.1)) k)
      (λ i. (a i, b i)) step

pub passed_at : {C : Type 0} (m5 m6 m7 : Me C View) (v : View) (e : Entry) → m5.0 ≡ v → m6 ≡ (raised m5.0 e, m5.1) → m7 ≡ (passed m6.0, []) → m7.0 ≡ passed (raised v e)
passed_at {C} m5 m6 m7 v e a b d = ap (λ (x : Me C View). x.0) d ∙ ap (λ (x : View). passed x) (ap (λ (x : Me C View). x.0) b ∙ ap (λ (x : View). raised x e) a)

pub still_answers : {C : Type 0} (start : World) (m6 m7 : Me C View) → m7 ≡ (passed m6.0, []) → AreOf (stored_at start) m6.0.answers m7.0.front →
    AreOf (stored_at start) m7.0.answers m7.0.front
still_answers {C} start m6 m7 d a = subst (λ (l : List (ℕ × Card)). AreOf (stored_at start) l m7.0.front) (sym (ap (λ (x : Me C View). x.0.answers) d)) a

pub first_has : (v w : View) → v ≡ w → Has (first_number w.numbers) w.numbers → Has (first_number v.numbers) v.numbers
first_has v w e h = subst (λ (x : View). Has (first_number x.numbers) x.numbers) (sym e) h

module _ {C : Type 0} where
  pub halves : (m m1 m2 m3 : Me C View) (n : ℕ) → m1.0 ≡ numbered m.0 n → m1.1 ≡ m.1 → m.1 ≡ [] → m2 ≡ (left_half m1.0, m1.1) → m3 ≡ (right_half m1.0, []) → m.0.given ≤ n →
      ¬ Has n m.0.numbers → calls_by n m.0.front ≡ []
      → (x : ℕ) × (m2 ≡ (left_half (numbered m.0 x), [])) × (m3 ≡ (right_half (numbered m.0 x), [])) × (m.0.given ≤ x) × (¬ Has x m.0.numbers) × (calls_by x m.0.front ≡ [])
  halves m m1 m2 m3 n a b d e f low g h = (n, e ∙ (λ i. (left_half (a i), (b ∙ d) i)), f ∙ (λ i. (right_half (a i), [])), low, g, h)

pub first_steps : (w : World) (xs ys : List Entry) → AreSteps w (xs ++ ys) → AreSteps w xs
first_steps w [] ys a = tt
first_steps w (x ∷ xs) ys a = (a.0, first_steps (after w x) xs ys a.1)

pub last_step : (w : World) (xs : List Entry) (e : Entry) → AreSteps w (xs ++ e ∷ []) → IsStep (replay w xs) e
last_step w [] e a = a.0
last_step w (x ∷ xs) e a = last_step (after w x) xs e a.1

module _ (start : World) (v : View) (input : Input) (outputs : List Output) (w : View) where
  no_outputs : (outcome : Outcome) → ((u : World) (i : Input) (o : List Output) (n : ℕ) → IsOutcome u i o n outcome → o ≡ []) → Adds start v input outcome outputs w → outputs ≡ []
  no_outputs outcome none a =
      let e = a.1 in
      let step = last_step start (v.front ++ a.0) e (subst (IsLegal start) a.2 a.3).1 in
      sym a.8 ∙ none (replay start (v.front ++ a.0)) e.input e.outputs e.failures (subst (IsOutcome (replay start (v.front ++ a.0)) e.input e.outputs e.failures) a.7 step)

  pub as_told : (acted : Result (Outcome × ℕ) TicketsSpent) (first end : ℕ) → IfOk acted (λ turn. Adds start v input turn.0 outputs w) →
      OnErr acted ((9223372036854775808 ≤ w.tickets) × IsSame v w × (outputs ≡ [])) → Acted start v input outputs w (answer_of acted first end)
  as_told (Ok (Stored, _)) first end a s = a
  as_told (Ok (Refused, _)) first end a s = (no_outputs Refused (λ u i o n h. h.1) a, a)
  as_told (Ok (Halted, _)) first end a s = (no_outputs Halted (λ u i o n h. h.1) a, a)
  as_told (Err _) first end a s = (s.2, s.1, s.0)

-- the ticket of a turn is its entry's place in the history
pub counted_entry : (v w : View) (r t : ℕ) (history : List Entry) (given : ℕ) (e : Entry) → w ≡ passed (raised (turned v r t history given) e) → t ≡ length history →
    t + 1 ≡ length w.front
counted_entry v w r t history given e is here = ap (λ (n : ℕ). n + 1) here ∙ (sym (length-append history (e ∷ [])) ∙ ap (λ (x : View). length x.front) (sym is))

-- the views that the seat had before and has after
module _ (start : World) (input : Input) (outputs : List Output) (result : Result Reply ActFault) where
  pub acted_between : (x x' : View) (seat : Standing) (t : TableId) (before after' : List View) → standing t (head_view before) ≡ seat → before ≡ x ∷ [] → after' ≡ x' ∷ [] →
      Acted start x input outputs x' result
      → Acted start seat.view input outputs (head_view after') result
  acted_between x x' seat t before after' a b d acted =
      subst (λ (y : View × View). Acted start y.0 input outputs y.1 result) (λ i. ((sym (ap head_view b) ∙ ap (λ (s : Standing). s.view) a) i, sym (ap head_view d) i)) acted

pub err_more : {E T : Type 0} (r : Result T E) (P Q : Type 0) → (P → Q) → OnErr r P → OnErr r Q
err_more (Ok x) P Q f h = h
err_more (Err x) P Q f h = f h

pub shown_none : (first second : Outputs) (n : ℕ) (items : List Output) → first ≡ second → second.shown ≡ items → drop n items ≡ [] → drop n first.shown ≡ []
shown_none first second n items a b d = ap (λ (x : Outputs). drop n x.shown) a ∙ (ap (drop n) b ∙ d)

pub told_seat : {C : Type 0} (start : World) (seat : Standing) (t : TableId) (before after' : List View) (m m' : Me C View) (n : ℕ) (told card : Card)
    → standing t (head_view before) ≡ seat → before ≡ m.0 ∷ [] → after' ≡ m'.0 ∷ [] → m' ≡ (answered m.0 n told, m.1) → card ≡ told
    → IsFresh (IsLegal start) (stored_at start) m.0 n told
    → (head_view after' ≡ answered seat.view n card) × IsFresh (IsLegal start) (stored_at start) seat.view n card
told_seat {C} start seat t before after' m m' n told card a b d e f fresh =
    let view : m.0 ≡ seat.view = sym (ap head_view b) ∙ ap (λ (s : Standing). s.view) a in (
      ap head_view d ∙ (ap (λ (x : Me C View). x.0) e ∙ (λ i. answered (view i) n (sym f i))),
      subst (λ (x : View × Card). IsFresh (IsLegal start) (stored_at start) x.0 n x.1) (λ i. (view i, sym f i)) fresh,
    )

adds_same : (start : World) (v w : View) (input : Input) (outputs : List Output) (outcome : Outcome) → Adds start v input outcome outputs w →
    (w.numbers ≡ v.numbers) × (w.answers ≡ v.answers) × (w.share ≡ v.share)
adds_same start v w input outputs outcome a = (a.9, a.10, a.11)

pub acted_same : (start : World) (v w : View) (input : Input) (outputs : List Output) (result : Result Reply ActFault) → Acted start v input outputs w result →
    (w.numbers ≡ v.numbers) × (w.answers ≡ v.answers) × (w.share ≡ v.share)
acted_same start v w input outputs (Ok reply) a = adds_same start v w input outputs Stored a
acted_same start v w input outputs (Err Spent) a = (a.1.1, a.1.2, a.1.3)
acted_same start v w input outputs (Err ActHalted) a = adds_same start v w input outputs Halted a.1
acted_same start v w input outputs (Err StoreRefused) a = adds_same start v w input outputs Refused a.1
acted_same start v w input outputs (Err NoMemory) a = (ap (λ (x : View). x.numbers) a.1, ap (λ (x : View). x.answers) a.1, ap (λ (x : View). x.share) a.1)
