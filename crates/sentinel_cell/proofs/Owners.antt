-- Which seat has which number.
use Rattle.std.proofs.Common.{◌≡◌, ◌≢◌, ◌⊎◌, ℕ, zero, suc, ◌+◌, ◌<◌, eqb, Bool, true, false, cond, List, [], ◌∷◌, ◌++◌, length, set, refl, sym, ap, ◌∙◌, subst, ⊎_elim, inl, inr, arith, eq-eqb, ne_eqb, length-set}
use Rattle.std.proofs.lemmas.List.Elements.{All-nil, All-cons}
use mathlib.Core.Option.{some, some-injective, some-ne-none}
use mathlib.Core.Logic.{dite}
use native.Mathlib.Decide.{ℕ_discrete}
use lib.ListN.{get_elem?}
use Rattle.atomic_table.proofs.Lists.{set_else, at_longer}
use Rattle.sentinel_cell.specs.declared.entry.Entry.{Entry}
use Rattle.sentinel_cell.specs.declared.view.View.{View}
use Rattle.sentinel_cell.specs.Calls.{Has, AreApart, AreUnder, calls_by}
use Rattle.sentinel_cell.specs.Turns.{Owned, numbered, firsts, rests, left_half, right_half, merged, spent}

-- numbers

pub has_or : (n : ℕ) (ns : List ℕ) → Has n ns ⊎ (¬ Has n ns)
has_or n [] = inr (λ none. none)
has_or n (x ∷ xs) = dite (ℕ_discrete n x) (λ (same : n ≡ x). inl (inl same))
    (λ (other : n ≢ x). ⊎_elim (λ (h : Has n xs). inl (inr h)) (λ (none : ¬ Has n xs). inr (λ (h : (n ≡ x) ⊎ Has n xs). ⊎_elim other none h)) (has_or n xs))

pub has_left : (n : ℕ) (xs ys : List ℕ) → Has n xs → Has n (xs ++ ys)
has_left n [] ys h = absurd h
has_left n (x ∷ xs) ys h = ⊎_elim (λ (e : n ≡ x). inl e) (λ (t : Has n xs). inr (has_left n xs ys t)) h

pub has_right : (n : ℕ) (xs ys : List ℕ) → Has n ys → Has n (xs ++ ys)
has_right n [] ys h = h
has_right n (x ∷ xs) ys h = inr (has_right n xs ys h)

pub has_either : (n : ℕ) (xs ys : List ℕ) → Has n (xs ++ ys) → Has n xs ⊎ Has n ys
has_either n [] ys h = inr h
has_either n (x ∷ xs) ys h = ⊎_elim (λ (e : n ≡ x). inl (inl e))
    (λ (t : Has n (xs ++ ys)). ⊎_elim (λ (p : Has n xs). inl (inr p)) (λ (p : Has n ys). inr p) (has_either n xs ys t)) h

pub apart_both : (xs ys : List ℕ) → AreApart xs → AreApart ys → ((n : ℕ) → Has n xs → ¬ Has n ys) → AreApart (xs ++ ys)
apart_both [] ys a b other = b
apart_both (x ∷ xs) ys a b other =
    (λ (h : Has x (xs ++ ys)). ⊎_elim a.0 (other x (inl refl)) (has_either x xs ys h), apart_both xs ys a.1 b (λ n h. other n (inr h)))

pub apart_halves : (xs ys : List ℕ) → AreApart (xs ++ ys) → (n : ℕ) → Has n xs → ¬ Has n ys
apart_halves [] ys a n h = absurd h
apart_halves (x ∷ xs) ys a n h = ⊎_elim
    (λ (e : n ≡ x). λ (t : Has n ys). a.0 (has_right x xs ys (subst (λ (m : ℕ). Has m ys) e t)))
    (λ (t : Has n xs). apart_halves xs ys a.1 n t)
    h

-- calls

head_not_none : (b : Bool) (e : Entry) (xs : List Entry) → cond b (e ∷ xs) xs ≡ [] → xs ≡ []
head_not_none true e xs is = absurd (let no : ⊥ = cc in no)
head_not_none false e xs is = is

own_call : (e : Entry) (xs : List Entry) → ¬ (cond (eqb e.number e.number) (e ∷ xs) xs ≡ [])
own_call e xs is = let no : (e ∷ xs) ≡ [] = sym (ap (λ (b : Bool). cond b (e ∷ xs) xs) (eq-eqb e.number e.number refl)) ∙ is in cc

-- where no other number has a call, each call is under these
pub under : (numbers : List ℕ) (history : List Entry) → ((n : ℕ) → ¬ Has n numbers → calls_by n history ≡ []) → AreUnder numbers history
under numbers [] none = All-nil (λ (e : Entry). Has e.number numbers)
under numbers (e ∷ es) none = All-cons (λ (x : Entry). Has x.number numbers) e es
    (⊎_elim (λ (h : Has e.number numbers). h) (λ (out : ¬ Has e.number numbers). absurd (own_call e (calls_by e.number es) (none e.number out))) (has_or e.number numbers))
    (under numbers es (λ n out. head_not_none (eqb n e.number) e (calls_by n es) (none n out)))

pub no_calls : (history : List Entry) → ((n : ℕ) → calls_by n history ≡ []) → history ≡ []
no_calls [] none = refl
no_calls (e ∷ es) none = absurd (own_call e (calls_by e.number es) (none e.number))

-- seats

pub in_place : {A : Type 0} (l : List A) (i : ℕ) (a b : A) → get_elem? l i ≡ some a → get_elem? (set l i b) i ≡ some b
in_place [] i a b e = absurd (some-ne-none a (sym e))
in_place (x ∷ xs) zero a b e = refl
in_place (x ∷ xs) (suc i) a b e = in_place xs i a b e

at_new : {A : Type 0} (l : List A) (a : A) → get_elem? (l ++ a ∷ []) (length l) ≡ some a
at_new [] a = refl
at_new (x ∷ xs) a = at_new xs a

-- the seat at this place has the number
abbrev Holder : ℕ → List View → ℕ → Type 0
Holder n views j = (v : View) × (get_elem? views j ≡ some v) × Has n v.numbers

moved_to : (n : ℕ) (views : List View) (j j' : ℕ) → j' ≡ j → Holder n views j → Holder n views j'
moved_to n views j j' e h = subst (Holder n views) (sym e) h

-- its numbers are those of the view that it has
has_at : (n : ℕ) (views : List View) (j id : ℕ) (v : View) → get_elem? views id ≡ some v → j ≡ id → Holder n views j → Has n v.numbers
has_at n views j id v at same h = subst (λ (u : View). Has n u.numbers) (some-injective h.0 v (sym h.1 ∙ (ap (get_elem? views) same ∙ at))) h.2

-- a seat that changes and keeps the number
held_after : (n : ℕ) (views : List View) (j id : ℕ) (v w : View) → get_elem? views id ≡ some v → (j ≡ id → Has n v.numbers → Has n w.numbers) → Holder n views j →
    Holder n (set views id w) j
held_after n views j id v w at keeps h = dite (ℕ_discrete j id)
    (λ (same : j ≡ id). (w, ap (get_elem? (set views id w)) same ∙ in_place views id v w at, keeps same (has_at n views j id v at same h)))
    (λ (other : j ≢ id). (h.0, set_else views id j w other ∙ h.1, h.2))

pub owned_after : (views : List View) (given : ℕ) (owner : ℕ → ℕ) (id : ℕ) (v w : View) → get_elem? views id ≡ some v → ((n : ℕ) → Has n v.numbers → Has n w.numbers) →
    Owned given owner views → Owned given owner (set views id w)
owned_after views given owner id v w at keeps owned n low = held_after n views (owner n) id v w at (λ _ h. keeps n h) (owned n low)

-- a new number
pub owned_named : (views : List View) (given : ℕ) (owner : ℕ → ℕ) (id : ℕ) (v : View) → get_elem? views id ≡ some v → Owned given owner views
    → Owned (given + 1) (λ (x : ℕ). cond (eqb x given) id (owner x)) (set views id (numbered v given))
owned_named views given owner id v at owned n low = dite (ℕ_discrete n given)
    (λ (same : n ≡ given). moved_to n (set views id (numbered v given)) id (cond (eqb n given) id (owner n)) (ap (λ (b : Bool). cond b id (owner n)) (eq-eqb n given same))
    (numbered v given, in_place views id v (numbered v given) at, inl same))
    (λ (other : n ≢ given). let below : n < given = omega arith in
    moved_to n (set views id (numbered v given)) (owner n) (cond (eqb n given) id (owner n)) (ap (λ (b : Bool). cond b id (owner n)) (ne_eqb n given other))
    (held_after n views (owner n) id v (numbered v given) at (λ _ h. inr h) (owned n below)))

-- a seat that is cut in two
pub owned_split : (views : List View) (given : ℕ) (owner : ℕ → ℕ) (id : ℕ) (v : View) (n : ℕ) (ns : List ℕ) → get_elem? views id ≡ some v → v.numbers ≡ n ∷ ns →
    Owned given owner views
    → Owned given (λ (x : ℕ). cond (eqb x n) (length views) (owner x)) (set views id (left_half v) ++ right_half v ∷ [])
owned_split views given owner id v n ns at numbers owned x low =
    let kept : List View = set views id (left_half v) in
    let all : List View = kept ++ right_half v ∷ [] in
    let to : ℕ = cond (eqb x n) (length views) (owner x) in
    dite (ℕ_discrete x n)
    (λ (same : x ≡ n). moved_to x all (length kept) to (ap (λ (b : Bool). cond b (length views) (owner x)) (eq-eqb x n same) ∙ sym (length-set views id (left_half v)))
    (right_half v, at_new kept (right_half v), subst (Has x) (sym (ap firsts numbers)) (inl same)))
    (λ (other : x ≢ n).
    let rest : Has x v.numbers → Has x (rests v.numbers) = λ h. subst (Has x) (sym (ap rests numbers))
    (⊎_elim (λ (e : x ≡ n). absurd (other e)) (λ (t : Has x ns). t) (subst (Has x) numbers h)) in
    let h : Holder x kept (owner x) = held_after x views (owner x) id v (left_half v) at (λ _ p. rest p) (owned x low) in
    moved_to x all (owner x) to (ap (λ (b : Bool). cond b (length views) (owner x)) (ne_eqb x n other)) (h.0, at_longer kept (right_half v ∷ []) (owner x) h.0 h.1, h.2))

-- two seats that are joined
pub owned_joined : (views : List View) (given : ℕ) (owner : ℕ → ℕ) (id : ℕ) (v : View) (other : ℕ) (w : View) → get_elem? views id ≡ some v → get_elem? views other ≡ some w →
    other ≢ id → Owned given owner views
    → Owned given (λ (x : ℕ). cond (eqb (owner x) other) id (owner x)) (set (set views id (merged v w)) other spent)
owned_joined views given owner id v other w at there apart owned x low =
    let both : View = merged v w in
    let one : List View = set views id both in
    let all : List View = set one other spent in
    let to : ℕ = cond (eqb (owner x) other) id (owner x) in
    dite (ℕ_discrete (owner x) other)
    (λ (theirs : owner x ≡ other). moved_to x all id to (ap (λ (b : Bool). cond b id (owner x)) (eq-eqb (owner x) other theirs)) (
      both,
      set_else one other id spent (λ (e : id ≡ other). apart (sym e)) ∙
          in_place views id v both at,
      has_right x v.numbers w.numbers (has_at x views (owner x) other w there theirs (owned x low)),
    ))
    (λ (not : owner x ≢ other).
    let h : Holder x one (owner x) = held_after x views (owner x) id v both at (λ _ p. has_left x v.numbers w.numbers p) (owned x low) in
    moved_to x all (owner x) to (ap (λ (b : Bool). cond b id (owner x)) (ne_eqb (owner x) other not)) (h.0, set_else one other (owner x) spent not ∙ h.1, h.2))
