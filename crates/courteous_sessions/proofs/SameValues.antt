-- Both protocols say the same.
use Rattle.std.proofs.Common.{◌≡◌, ◌||◌, inl, inr, ◌∙◌, ◌+◌, ◌/◌, ◌<◌, ◌^◌, ℕ, suc, Bool, true, false, List, [], ◌∷◌, ◌++◌, refl, sym, ap, subst, append_assoc, length, decimal, drop, arith}
use Rattle.std.specs.Prelude.{bytes_eq, codes}
use Rattle.std.proofs.lemmas.Slice.Eq.{bytes_eq-Decides}
use Rattle.resp2.specs.Framing.Frame.{Frame, FrameList, simple, fault, int, bulk, null_bulk, items, null_items, no_frames, frame, count, line_end, spelling, spellings, IsPlain, ArePlain}
use Rattle.resp2.proofs.FramingLemmas.Streams.{one_spelling}
use Rattle.courteous_sessions.proofs.Headers.{header_split, one_more, none_or_more, lead, apart, halves, half_below}
use Rattle.courteous_sessions.proofs.SameNested.{same_rows, same_docs}
use Rattle.courteous_sessions.specs.declared.shapes.Shape.TheVariants.{Plain, Whole, Pairs, Tables, Verbatim, Pushes, Rows, Docs}
use Rattle.courteous_sessions.specs.Retelling.{spelling3, spellings3, map_spelling, map_spellings, table_spelling, text_spelling, push_spelling, with_one_null, each_with_one_null, IsPaired, ArePaired, HasPairedRows, HasShortText, SaysTheSame, null_line, without_null, HoldsNoNull, HoldNoNull, PlainIsSpelled}

mutual
  same3 : (f g : Frame) (x y : List ℕ) → IsPlain f → IsPlain g → spelling3 f ++ x ≡ spelling3 g ++ y → (with_one_null f ≡ with_one_null g) × (x ≡ y)
  same3 (simple s) (simple t) x y p q e = one_spelling (simple s) (simple t) x y p q e
  same3 (fault s) (fault t) x y p q e = one_spelling (fault s) (fault t) x y p q e
  same3 (int n) (int m) x y p q e = one_spelling (int n) (int m) x y p q e
  same3 (bulk s) (bulk t) x y p q e = one_spelling (bulk s) (bulk t) x y p q e
  same3 null_bulk null_bulk x y p q e = (refl, ap (drop 3) e)
  same3 null_bulk null_items x y p q e = (refl, ap (drop 3) e)
  same3 null_items null_bulk x y p q e = (refl, ap (drop 3) e)
  same3 null_items null_items x y p q e = (refl, ap (drop 3) e)
  same3 (items fs) (items gs) x y p q e =
      let parts = header_split 42 (count fs) (count gs) (spellings3 fs) (spellings3 gs) x y p.0 q.0 e in
      let rest = sames3 fs gs x y p.1 q.1 parts.0 parts.1 in
      (ap items rest.0, rest.1)
  same3 f g x y p q e = absurd (apart (lead (spelling3 f ++ x)) (lead (spelling3 g ++ y)) refl (ap lead e))

  sames3 : (fs gs : FrameList) (x y : List ℕ) → ArePlain fs → ArePlain gs → count fs ≡ count gs → spellings3 fs ++ x ≡ spellings3 gs ++ y
      → (each_with_one_null fs ≡ each_with_one_null gs) × (x ≡ y)
  sames3 no_frames no_frames x y p q c e = (refl, e)
  sames3 no_frames (frame g gs) x y p q c e = absurd (none_or_more (count gs) c)
  sames3 (frame f fs) no_frames x y p q c e = absurd (none_or_more (count fs) (sym c))
  sames3 (frame f fs) (frame g gs) x y p q c e =
      let whole = sym (append_assoc (spelling3 f) (spellings3 fs) x) ∙ e ∙ append_assoc (spelling3 g) (spellings3 gs) y in
      let first = same3 f g (spellings3 fs ++ x) (spellings3 gs ++ y) p.0 q.0 whole in
      let rest = sames3 fs gs x y p.1 q.1 (one_more (count fs) (count gs) c) first.1 in
      (ap (λ (h : Frame). frame h (each_with_one_null fs)) first.0 ∙ ap (λ (hs : FrameList). frame (with_one_null g) hs) rest.0, rest.1)

same_map : (f g : Frame) (x y : List ℕ) → IsPlain f → IsPlain g → IsPaired f → IsPaired g → map_spelling f ++ x ≡ map_spelling g ++ y
    → (with_one_null f ≡ with_one_null g) × (x ≡ y)
same_map (items fs) (items gs) x y p q a b e =
    let parts = header_split 37 (count fs / 2) (count gs / 2) (spellings3 fs) (spellings3 gs) x y (half_below (count fs) p.0) (half_below (count gs) q.0) e in
    let rest = sames3 fs gs x y p.1 q.1 (halves (count fs) (count gs) a b parts.0) parts.1 in
    (ap items rest.0, rest.1)
same_map (items fs) g x y p q a b e = absurd (apart 37 (lead (map_spelling g ++ y)) refl (ap lead e))
same_map f (items gs) x y p q a b e = absurd (apart (lead (map_spelling f ++ x)) 37 refl (ap lead e))
same_map f g x y p q a b e = same3 f g x y p q e

same_maps : (fs gs : FrameList) (x y : List ℕ) → ArePlain fs → ArePlain gs → ArePaired fs → ArePaired gs → count fs ≡ count gs
    → map_spellings fs ++ x ≡ map_spellings gs ++ y → (each_with_one_null fs ≡ each_with_one_null gs) × (x ≡ y)
same_maps no_frames no_frames x y p q a b c e = (refl, e)
same_maps no_frames (frame g gs) x y p q a b c e = absurd (none_or_more (count gs) c)
same_maps (frame f fs) no_frames x y p q a b c e = absurd (none_or_more (count fs) (sym c))
same_maps (frame f fs) (frame g gs) x y p q a b c e =
    let first = same_map f g (map_spellings fs ++ x) (map_spellings gs ++ y) p.0 q.0 a.0 b.0
    (sym (append_assoc (map_spelling f) (map_spellings fs) x) ∙ e ∙ append_assoc (map_spelling g) (map_spellings gs) y)
    in
    let rest = same_maps fs gs x y p.1 q.1 a.1 b.1 (one_more (count fs) (count gs) c) first.1 in
    (ap (λ (h : Frame). frame h (each_with_one_null fs)) first.0 ∙ ap (λ (hs : FrameList). frame (with_one_null g) hs) rest.0, rest.1)

same_table : (f g : Frame) (x y : List ℕ) → IsPlain f → IsPlain g → HasPairedRows f → HasPairedRows g → table_spelling f ++ x ≡ table_spelling g ++ y
    → (with_one_null f ≡ with_one_null g) × (x ≡ y)
same_table (items fs) (items gs) x y p q a b e =
    let parts = header_split 42 (count fs) (count gs) (map_spellings fs) (map_spellings gs) x y p.0 q.0 e in
    let rest = same_maps fs gs x y p.1 q.1 a b parts.0 parts.1 in
    (ap items rest.0, rest.1)
same_table (items fs) g x y p q a b e = absurd (apart 42 (lead (table_spelling g ++ y)) refl (ap lead e))
same_table f (items gs) x y p q a b e = absurd (apart (lead (table_spelling f ++ x)) 42 refl (ap lead e))
same_table f g x y p q a b e = same3 f g x y p q e

same_push : (f g : Frame) (x y : List ℕ) → IsPlain f → IsPlain g → push_spelling f ++ x ≡ push_spelling g ++ y → (with_one_null f ≡ with_one_null g) × (x ≡ y)
same_push (items fs) (items gs) x y p q e =
    let parts = header_split 62 (count fs) (count gs) (spellings3 fs) (spellings3 gs) x y p.0 q.0 e in
    let rest = sames3 fs gs x y p.1 q.1 parts.0 parts.1 in
    (ap items rest.0, rest.1)
same_push (items fs) g x y p q e = absurd (apart 62 (lead (push_spelling g ++ y)) refl (ap lead e))
same_push f (items gs) x y p q e = absurd (apart (lead (push_spelling f ++ x)) 62 refl (ap lead e))
same_push f g x y p q e = same3 f g x y p q e

-- after `txt:` the same text, as long as told, and what follows
same_text_after : (s t x y : List ℕ) → length s ≡ length t → length s < 2 ^ 64 → length t < 2 ^ 64
    → ((codes "txt:" ++ s) ++ line_end) ++ x ≡ ((codes "txt:" ++ t) ++ line_end) ++ y → (bulk s ≡ bulk t) × (x ≡ y)
same_text_after s t x y same low below e =
    let texts : (s ++ line_end) ++ x ≡ (t ++ line_end) ++ y = ap (drop 4) e in
    let front : (decimal (length s) ++ line_end) ++ ((s ++ line_end) ++ x) ≡ (decimal (length t) ++ line_end) ++ ((t ++ line_end) ++ y) =
    ap (λ (n : ℕ). (decimal n ++ line_end) ++ ((s ++ line_end) ++ x)) same ∙ ap (λ (r : List ℕ). (decimal (length t) ++ line_end) ++ r) texts
    in
    one_spelling (bulk s) (bulk t) x y low below
    (ap (λ (r : List ℕ). 36 ∷ r)
    (append_assoc (decimal (length s) ++ line_end) (s ++ line_end) x ∙ front ∙ sym (append_assoc (decimal (length t) ++ line_end) (t ++ line_end) y)))

four_less : (n m : ℕ) → n + 4 ≡ m + 4 → n ≡ m
four_less n m e = omega (arith, e)

same_text : (f g : Frame) (x y : List ℕ) → IsPlain f → IsPlain g → HasShortText f → HasShortText g → text_spelling f ++ x ≡ text_spelling g ++ y
    → (with_one_null f ≡ with_one_null g) × (x ≡ y)
same_text (bulk s) (bulk t) x y p q a b e =
    let parts = header_split 61 (length s + 4) (length t + 4) ((codes "txt:" ++ s) ++ line_end) ((codes "txt:" ++ t) ++ line_end) x y a b e in
    same_text_after s t x y (four_less (length s) (length t) parts.0) p q parts.1
same_text (bulk s) g x y p q a b e = absurd (apart 61 (lead (text_spelling g ++ y)) refl (ap lead e))
same_text f (bulk t) x y p q a b e = absurd (apart (lead (text_spelling f ++ x)) 61 refl (ap lead e))
same_text f g x y p q a b e = same3 f g x y p q e

pub says_the_same : SaysTheSame
says_the_same Plain f g x y p q a b e = same3 f g x y p q e
says_the_same Whole f g x y p q a b e = same3 f g x y p q e
says_the_same Pairs f g x y p q a b e = same_map f g x y p q a b e
says_the_same Tables f g x y p q a b e = same_table f g x y p q a b e
says_the_same Verbatim f g x y p q a b e = same_text f g x y p q a b e
says_the_same Pushes f g x y p q a b e = same_push f g x y p q e
says_the_same Rows f g x y p q a b e = same_rows f g x y p q e
says_the_same Docs f g x y p q a b e = same_docs f g x y p q e

-- ---- what is told as it is

mutual
  spelled_alike : (f : Frame) → HoldsNoNull f → spelling3 f ≡ spelling f
  spelled_alike (simple text) h = refl
  spelled_alike (fault text) h = refl
  spelled_alike (int n) h = refl
  spelled_alike (bulk bytes) h = refl
  spelled_alike null_bulk h = absurd h
  spelled_alike (items fs) h = ap (λ (t : List ℕ). 42 ∷ ((decimal (count fs) ++ line_end) ++ t)) (all_spelled_alike fs h)
  spelled_alike null_items h = absurd h

  all_spelled_alike : (fs : FrameList) → HoldNoNull fs → spellings3 fs ≡ spellings fs
  all_spelled_alike no_frames h = refl
  all_spelled_alike (frame f fs) h =
      ap (λ (t : List ℕ). t ++ spellings3 fs) (spelled_alike f h.0) ∙ ap (λ (t : List ℕ). spelling f ++ t) (all_spelled_alike fs h.1)

-- values that differ have spellings that differ
differs_from : (f g : Frame) → IsPlain f → IsPlain g → (f ≡ g → ⊥) → bytes_eq (spelling f) (spelling g) ≡ false
differs_from f g p q differs = at (bytes_eq (spelling f) (spelling g)) refl where
  at : (v : Bool) → bytes_eq (spelling f) (spelling g) ≡ v → v ≡ false
  at true e =
      let same : spelling f ≡ spelling g = (bytes_eq-Decides (spelling f) (spelling g)).0 e in
      absurd (differs (one_spelling f g [] [] p q (ap (λ (t : List ℕ). t ++ []) same)).0)
  at false e = refl

no_null_bulk : (f : Frame) → HoldsNoNull f → f ≡ null_bulk → ⊥
no_null_bulk f h is = subst HoldsNoNull is h

no_null_items : (f : Frame) → HoldsNoNull f → f ≡ null_items → ⊥
no_null_items f h is = subst HoldsNoNull is h

kept_alike : (f : Frame) → IsPlain f → HoldsNoNull f → without_null (spelling f) ≡ spelling3 f
kept_alike f p h =
    ap (λ (b : Bool). elim (b || bytes_eq (spelling f) (spelling null_items)) as (λ _. List ℕ) [ true ↦ null_line | false ↦ spelling f ])
    (differs_from f null_bulk p tt (no_null_bulk f h))
    ∙ ap (λ (b : Bool). elim b as (λ _. List ℕ) [ true ↦ null_line | false ↦ spelling f ]) (differs_from f null_items p tt (no_null_items f h))
    ∙ sym (spelled_alike f h)

pub plain_is_spelled : PlainIsSpelled
plain_is_spelled f p (inl is) = ap without_null (ap spelling is) ∙ sym (ap spelling3 is)
plain_is_spelled f p (inr (inl is)) = ap without_null (ap spelling is) ∙ sym (ap spelling3 is)
plain_is_spelled f p (inr (inr h)) = kept_alike f p h
