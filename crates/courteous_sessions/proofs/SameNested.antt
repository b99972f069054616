-- Both protocols say the same of what COMMAND answers.
use Rattle.std.proofs.Common.{◌≡◌, ◌⊎◌, inl, inr, ◌∙◌, ◌+◌, ◌%◌, ◌/◌, ◌==◌, ◌||◌, ◌<◌, ◌^◌, ℕ, suc, Bool, true, false, eqb, List, [], ◌∷◌, ◌++◌, refl, sym, ap, subst, append_assoc, decimal, drop, arith}
use Rattle.std.proofs.lemmas.Bool.{eqb-true}
use Rattle.resp2.specs.Framing.Frame.{Frame, FrameList, simple, fault, int, bulk, null_bulk, items, null_items, no_frames, frame, count, line_end, spelling, IsPlain, ArePlain}
use Rattle.resp2.proofs.FramingLemmas.Streams.{one_spelling}
use Rattle.courteous_sessions.specs.declared.nested.Manner.{Manner}
use Rattle.courteous_sessions.specs.declared.nested.Manner.TheVariants.{AsTwo, InRows, InDocs}
use Rattle.courteous_sessions.specs.Nested.{is_odd, is_list, begins_with_number, is_one_text, is_change, kind_in_rows, kind_begun, kind_in_docs, kind_in, number_of, spelling_in, spellings_in, rows_spelling}
use Rattle.courteous_sessions.specs.Retelling.{with_one_null, each_with_one_null}
use Rattle.courteous_sessions.proofs.Headers.{header_split, one_more, none_or_more, lead, apart, halves, half_below}

-- ---- the kinds of arrays

-- in protocol 3 an array is told as one, as a set, or as a map of names and values
abbrev IsKind : (kind count : ℕ) → Type 0
IsKind kind n = (kind ≡ 42) ⊎ ((kind ≡ 126) ⊎ ((kind ≡ 37) × (n % 2 ≡ 0)))

one_kind : (n a b : ℕ) (test : Bool) → IsKind a n → IsKind b n → IsKind (elim test as (λ _. ℕ) [ true ↦ a | false ↦ b ]) n
one_kind n a b true h k = h
one_kind n a b false h k = k

-- the tests decide which
odd_kind : (n : ℕ) (test : Bool) → is_odd n ≡ test → IsKind (elim test as (λ _. ℕ) [ true ↦ 37 | false ↦ 42 ]) (suc n)
odd_kind n true h = inr (inr (refl, (let odd : n % 2 ≡ 1 = eqb-true (n % 2) 1 h in omega (arith, odd))))
odd_kind n false h = inl refl

begun_kind : (f : Frame) (fs : FrameList) → IsKind (kind_begun f fs) (suc (count fs))
begun_kind (simple line) fs = inr (inl refl)
begun_kind (fault line) fs = inl refl
begun_kind (int n) fs = inl refl
begun_kind (bulk bytes) fs = one_kind (suc (count fs)) 42 _ (is_one_text fs) (inl refl) (odd_kind (count fs) (is_odd (count fs)) refl)
begun_kind null_bulk fs = inl refl
begun_kind (items gs) fs = one_kind (suc (count fs)) 126 42 (is_change gs) (inr (inl refl)) (inl refl)
begun_kind null_items fs = inl refl

docs_kind : (fs : FrameList) → IsKind (kind_in_docs fs) (count fs)
docs_kind no_frames = inr (inr (refl, refl))
docs_kind (frame f fs) = begun_kind f fs

rows_kind : (fs : FrameList) → IsKind (kind_in_rows fs) (count fs)
rows_kind no_frames = inr (inl refl)
rows_kind (frame f fs) = one_kind (suc (count fs)) 42 126 (is_list f || begins_with_number fs) (inl refl) (inr (inl refl))

a_kind : (manner : Manner) (fs : FrameList) → IsKind (kind_in manner fs) (count fs)
a_kind AsTwo fs = inl refl
a_kind InRows fs = rows_kind fs
a_kind InDocs fs = docs_kind fs

-- so the kind and the number tell how many items there are
same_count : (k n m : ℕ) → IsKind k n → IsKind k m → number_of k n ≡ number_of k m → n ≡ m
same_count k n m (inl is) b e = subst (λ (j : ℕ). number_of j n ≡ number_of j m) is e
same_count k n m (inr (inl is)) b e = subst (λ (j : ℕ). number_of j n ≡ number_of j m) is e
same_count k n m (inr (inr is)) (inl other) e = absurd (apart 37 42 refl (sym is.0 ∙ other))
same_count k n m (inr (inr is)) (inr (inl other)) e = absurd (apart 37 126 refl (sym is.0 ∙ other))
same_count k n m (inr (inr is)) (inr (inr other)) e = halves n m is.1 other.1 (subst (λ (j : ℕ). number_of j n ≡ number_of j m) is.0 e)

number_below : (k n : ℕ) (test : Bool) → n < 2 ^ 64 → elim test as (λ _. ℕ) [ true ↦ n / 2 | false ↦ n ] < 2 ^ 64
number_below k n true h = half_below n h
number_below k n false h = h

-- no other value begins with the byte of such a kind
not_lead : (k n other : ℕ) → IsKind k n → eqb 42 other ≡ false → eqb 126 other ≡ false → eqb 37 other ≡ false → k ≡ other → ⊥
not_lead k n other (inl is) a b c e = apart 42 other a (sym is ∙ e)
not_lead k n other (inr (inl is)) a b c e = apart 126 other b (sym is ∙ e)
not_lead k n other (inr (inr is)) a b c e = apart 37 other c (sym is.0 ∙ e)

-- ---- values

-- in protocol 3
abbrev InThree : Manner → Type 0
InThree AsTwo = ⊥
InThree InRows = Unit {0}
InThree InDocs = Unit {0}

-- a value that is no array, as protocol 3 spells it
abbrev leaf : Frame → List ℕ
leaf null_bulk = 95 ∷ line_end
leaf null_items = 95 ∷ line_end
leaf f = spelling f

-- an array as its kind has it, any other value as a leaf
abbrev three : Manner → Frame → List ℕ
three manner (items fs) = spelling_in manner (items fs)
three manner f = leaf f

is_three : (manner : Manner) → InThree manner → (f : Frame) → spelling_in manner f ≡ three manner f
is_three AsTwo h f = absurd h
is_three InRows h (items fs) = refl
is_three InRows h f = refl
is_three InDocs h (items fs) = refl
is_three InDocs h f = refl

mutual
  same_in : (manner : Manner) → InThree manner → (f g : Frame) (x y : List ℕ) → IsPlain f → IsPlain g → three manner f ++ x ≡ three manner g ++ y
      → (with_one_null f ≡ with_one_null g) × (x ≡ y)
  same_in manner h (simple s) (simple t) x y p q e = one_spelling (simple s) (simple t) x y p q e
  same_in manner h (fault s) (fault t) x y p q e = one_spelling (fault s) (fault t) x y p q e
  same_in manner h (int n) (int m) x y p q e = one_spelling (int n) (int m) x y p q e
  same_in manner h (bulk s) (bulk t) x y p q e = one_spelling (bulk s) (bulk t) x y p q e
  same_in manner h null_bulk null_bulk x y p q e = (refl, ap (drop 3) e)
  same_in manner h null_bulk null_items x y p q e = (refl, ap (drop 3) e)
  same_in manner h null_items null_bulk x y p q e = (refl, ap (drop 3) e)
  same_in manner h null_items null_items x y p q e = (refl, ap (drop 3) e)
  same_in manner h (items fs) (items gs) x y p q e =
      let kind = kind_in manner fs in
      let kinds : kind ≡ kind_in manner gs = ap lead e in
      let alike = e ∙ ap (λ (k : ℕ). (k ∷ ((decimal (number_of k (count gs)) ++ line_end) ++ spellings_in manner gs)) ++ y) (sym kinds) in
      let parts = header_split kind (number_of kind (count fs)) (number_of kind (count gs)) (spellings_in manner fs) (spellings_in manner gs) x y
      (number_below kind (count fs) (kind == 37) p.0) (number_below kind (count gs) (kind == 37) q.0) alike
      in
      let counts = same_count kind (count fs) (count gs) (a_kind manner fs) (subst (λ (k : ℕ). IsKind k (count gs)) (sym kinds) (a_kind manner gs)) parts.0 in
      let rest = sames_in manner h fs gs x y p.1 q.1 counts parts.1 in
      (ap items rest.0, rest.1)
  same_in manner h (items fs) g x y p q e =
      absurd (not_lead (kind_in manner fs) (count fs) (lead (three manner g ++ y)) (a_kind manner fs) refl refl refl (ap lead e))
  same_in manner h f (items gs) x y p q e =
      absurd (not_lead (kind_in manner gs) (count gs) (lead (three manner f ++ x)) (a_kind manner gs) refl refl refl (sym (ap lead e)))
  same_in manner h f g x y p q e = absurd (apart (lead (three manner f ++ x)) (lead (three manner g ++ y)) refl (ap lead e))

  sames_in : (manner : Manner) → InThree manner → (fs gs : FrameList) (x y : List ℕ) → ArePlain fs → ArePlain gs → count fs ≡ count gs
      → spellings_in manner fs ++ x ≡ spellings_in manner gs ++ y → (each_with_one_null fs ≡ each_with_one_null gs) × (x ≡ y)
  sames_in manner h no_frames no_frames x y p q c e = (refl, e)
  sames_in manner h no_frames (frame g gs) x y p q c e = absurd (none_or_more (count gs) c)
  sames_in manner h (frame f fs) no_frames x y p q c e = absurd (none_or_more (count fs) (sym c))
  sames_in manner h (frame f fs) (frame g gs) x y p q c e =
      let some = spellings_in manner fs ++ x in
      let other = spellings_in manner gs ++ y in
      let whole = ap (λ (t : List ℕ). t ++ some) (sym (is_three manner h f))
      ∙ sym (append_assoc (spelling_in manner f) (spellings_in manner fs) x) ∙ e ∙ append_assoc (spelling_in manner g) (spellings_in manner gs) y
      ∙ ap (λ (t : List ℕ). t ++ other) (is_three manner h g)
      in
      let first = same_in manner h f g some other p.0 q.0 whole in
      let rest = sames_in manner h fs gs x y p.1 q.1 (one_more (count fs) (count gs) c) first.1 in
      (ap (λ (k : Frame). frame k (each_with_one_null fs)) first.0 ∙ ap (λ (ks : FrameList). frame (with_one_null g) ks) rest.0, rest.1)

pub same_docs : (f g : Frame) (x y : List ℕ) → IsPlain f → IsPlain g → spelling_in InDocs f ++ x ≡ spelling_in InDocs g ++ y
    → (with_one_null f ≡ with_one_null g) × (x ≡ y)
same_docs f g x y p q e =
    same_in InDocs tt f g x y p q
    (ap (λ (t : List ℕ). t ++ x) (sym (is_three InDocs tt f)) ∙ e ∙ ap (λ (t : List ℕ). t ++ y) (is_three InDocs tt g))

pub same_rows : (f g : Frame) (x y : List ℕ) → IsPlain f → IsPlain g → rows_spelling f ++ x ≡ rows_spelling g ++ y
    → (with_one_null f ≡ with_one_null g) × (x ≡ y)
same_rows (items fs) (items gs) x y p q e =
    let parts = header_split 42 (count fs) (count gs) (spellings_in InRows fs) (spellings_in InRows gs) x y p.0 q.0 e in
    let rest = sames_in InRows tt fs gs x y p.1 q.1 parts.0 parts.1 in
    (ap items rest.0, rest.1)
same_rows (items fs) g x y p q e = absurd (apart 42 (lead (rows_spelling g ++ y)) refl (ap lead e))
same_rows f (items gs) x y p q e = absurd (apart (lead (rows_spelling f ++ x)) 42 refl (ap lead e))
same_rows f g x y p q e = same_in InRows tt f g x y p q e
