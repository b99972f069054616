-- A text is cut where a byte first stands.
use Rattle.std.proofs.Common.{◌≡◌, ℕ, zero, suc, ◌≤◌, ◌<◌, Bool, true, false, eqb, List, [], ◌∷◌, ◌++◌, append-nil, length, take, drop, refl, ap, sym, ◌∙◌, arith}
use Rattle.std.proofs.lemmas.List.{nil_from_length, take-append-drop}
use Rattle.ballot_law.specs.Cuts.{with_first, cut_at, lines, IsEnd}

-- the place is one further behind one more byte
pub tail_end : (test : ℕ → Bool) (b : ℕ) (bs : List ℕ) (end : ℕ) → IsEnd test (b ∷ bs) (suc end) → IsEnd test bs end
tail_end test b bs end e = record {
  within = let h : suc end ≤ suc (length bs) = e.within in omega arith;
  before = λ k h. e.before (suc k) (omega (arith, h));
  here = λ h. e.here (omega (arith, h));
}

-- there is always a part
abbrev pub IsSomeParts : List (List ℕ) → Type 0
IsSomeParts ps = (p : List ℕ) × (qs : List (List ℕ)) × (ps ≡ p ∷ qs)

some_more : (b : ℕ) (ps : List (List ℕ)) → IsSomeParts (with_first b ps)
some_more b [] = (b ∷ [], [], refl)
some_more b (p ∷ ps) = (b ∷ p, ps, refl)

some_by : (stop b : ℕ) (bs : List ℕ) (t : Bool) → eqb b stop ≡ t → IsSomeParts (cut_at stop (b ∷ bs))
some_by stop b bs true e = ([], cut_at stop bs, ap (λ t. elim t as (λ _. List (List ℕ)) [ true ↦ [] ∷ cut_at stop bs | false ↦ with_first b (cut_at stop bs) ]) e)
some_by stop b bs false e = let s = some_more b (cut_at stop bs) in
    (s.0, s.1, ap (λ t. elim t as (λ _. List (List ℕ)) [ true ↦ [] ∷ cut_at stop bs | false ↦ with_first b (cut_at stop bs) ]) e ∙ s.2)

pub some_parts : (stop : ℕ) (bs : List ℕ) → IsSomeParts (cut_at stop bs)
some_parts stop [] = ([], [], refl)
some_parts stop (b ∷ bs) = some_by stop b bs (eqb b stop) refl

-- a line ends at an LF, and goes on up to it
pub line_ends : (b : ℕ) (bs : List ℕ) → eqb b 10 ≡ true → lines (b ∷ bs) ≡ [] ∷ lines bs
line_ends b bs e = ap (λ t. elim t as (λ _. List (List ℕ)) [ true ↦ [] ∷ lines bs | false ↦ with_first b (lines bs) ]) e

pub line_goes_on : (b : ℕ) (bs : List ℕ) → eqb b 10 ≡ false → lines (b ∷ bs) ≡ with_first b (lines bs)
line_goes_on b bs e = ap (λ t. elim t as (λ _. List (List ℕ)) [ true ↦ [] ∷ lines bs | false ↦ with_first b (lines bs) ]) e

module _ (stop : ℕ) where
  abbrev is_stop : ℕ → Bool
  is_stop b = eqb b stop

  -- the first part, and the parts behind it
  abbrev cut : List ℕ → List ℕ → List (List ℕ)
  cut part [] = part ∷ []
  cut part (b ∷ rest) = part ∷ cut_at stop rest

  cut_first : (b : ℕ) (part tail : List ℕ) → with_first b (cut part tail) ≡ cut (b ∷ part) tail
  cut_first b part [] = refl
  cut_first b part (c ∷ rest) = refl

  cuts : (text : List ℕ) (end : ℕ) → IsEnd is_stop text end → cut_at stop text ≡ cut (take end text) (drop end text)
  cuts [] zero e = refl
  cuts [] (suc end) e = absurd (let h : suc end ≤ 0 = e.within in omega arith)
  cuts (b ∷ bs) zero e =
      ap (λ (t : Bool). elim t as (λ _. List (List ℕ)) [ true ↦ [] ∷ cut_at stop bs | false ↦ with_first b (cut_at stop bs) ]) (e.here (omega arith))
  cuts (b ∷ bs) (suc end) e =
      ap (λ (t : Bool). elim t as (λ _. List (List ℕ)) [ true ↦ [] ∷ cut_at stop bs | false ↦ with_first b (cut_at stop bs) ]) (e.before 0 (omega arith))
      ∙ ap (with_first b) (cuts bs end (tail_end is_stop b bs end e))
      ∙ cut_first b (take end bs) (drop end bs)

  pub cut_here : (text part tail rest : List ℕ) (end d : ℕ) → IsEnd is_stop text end → part ≡ take end text → tail ≡ drop end text → tail ≡ d ∷ rest →
      cut_at stop text ≡ part ∷ cut_at stop rest
  cut_here text part tail rest end d e front back more =
      cuts text end e ∙ ap (cut (take end text)) (sym back ∙ more) ∙ ap (λ (t : List ℕ). t ∷ cut_at stop rest) (sym front)

  pub cut_nowhere : (text tail : List ℕ) (end : ℕ) → IsEnd is_stop text end → tail ≡ drop end text → length tail ≡ 0 → cut_at stop text ≡ text ∷ []
  cut_nowhere text tail end e back none =
      let empty : drop end text ≡ [] = sym back ∙ nil_from_length tail none in
      let whole : take end text ≡ text = sym (append-nil (take end text)) ∙ ap (λ (t : List ℕ). take end text ++ t) (sym empty) ∙ take-append-drop end text in
      cuts text end e ∙ ap (cut (take end text)) empty ∙ ap (λ (t : List ℕ). t ∷ []) whole

-- ---- lines

abbrev line_cut : List ℕ → List ℕ → List (List ℕ)
line_cut part [] = part ∷ []
line_cut part (b ∷ rest) = part ∷ lines rest

line_first : (b : ℕ) (part tail : List ℕ) → with_first b (line_cut part tail) ≡ line_cut (b ∷ part) tail
line_first b part [] = refl
line_first b part (c ∷ rest) = refl

lines_cut : (text : List ℕ) (end : ℕ) → 0 < length text → IsEnd (λ b. eqb b 10) text end → lines text ≡ line_cut (take end text) (drop end text)
lines_cut [] end h e = absurd (omega arith)
lines_cut (b ∷ bs) zero h e =
    ap (λ (t : Bool). elim t as (λ _. List (List ℕ)) [ true ↦ [] ∷ lines bs | false ↦ with_first b (lines bs) ]) (e.here (omega arith))
lines_cut (b ∷ []) (suc zero) h e =
    ap (λ (t : Bool). elim t as (λ _. List (List ℕ)) [ true ↦ [] ∷ lines [] | false ↦ with_first b (lines []) ]) (e.before 0 (omega arith))
lines_cut (b ∷ []) (suc (suc end)) h e = absurd (let k : suc (suc end) ≤ 1 = e.within in omega arith)
lines_cut (b ∷ c ∷ cs) (suc end) h e =
    ap (λ (t : Bool). elim t as (λ _. List (List ℕ)) [ true ↦ [] ∷ lines (c ∷ cs) | false ↦ with_first b (lines (c ∷ cs)) ]) (e.before 0 (omega arith))
    ∙ ap (with_first b) (lines_cut (c ∷ cs) end (omega arith) (tail_end (λ b. eqb b 10) b (c ∷ cs) end e))
    ∙ line_first b (take end (c ∷ cs)) (drop end (c ∷ cs))

pub line_here : (text part tail rest : List ℕ) (end d : ℕ) → 0 < length text → IsEnd (λ b. eqb b 10) text end → part ≡ take end text → tail ≡ drop end text → tail ≡ d ∷ rest →
    lines text ≡ part ∷ lines rest
line_here text part tail rest end d some e front back more =
    lines_cut text end some e ∙ ap (line_cut (take end text)) (sym back ∙ more) ∙ ap (λ (t : List ℕ). t ∷ lines rest) (sym front)

pub line_last : (text part tail : List ℕ) (end : ℕ) → 0 < length text → IsEnd (λ b. eqb b 10) text end → part ≡ take end text → tail ≡ drop end text → length tail ≡ 0 →
    lines text ≡ part ∷ lines tail
line_last text part tail end some e front back none =
    let empty : tail ≡ [] = nil_from_length tail none in
    lines_cut text end some e ∙ ap (line_cut (take end text)) (sym back ∙ empty) ∙ ap (λ (t : List ℕ). t ∷ []) (sym front) ∙ ap (λ (t : List ℕ). part ∷ lines t) (sym empty)
