-- Lines with their LF.
use Rattle.std.proofs.Common.{◌≡◌, ℕ, zero, suc, ◌+◌, ◌≤◌, ◌<◌, Bool, true, false, eqb, List, [], ◌∷◌, length, take, drop, refl, ap, ◌∙◌, arith, add-one}
use Rattle.std.specs.List.{flat_map}
use Rattle.std.proofs.lemmas.Bool.Decides.{nat_tests}
use Rattle.ballot_law.specs.Cuts.{with_first, IsEnd}
use Rattle.ballot_law.proofs.CutLemmas.{tail_end}
use Rattle.sentinel_conf.specs.Watch.RedisTexts.{whole_lines}

lf_line : (b : ℕ) (bs : List ℕ) → eqb b 10 ≡ true → whole_lines (b ∷ bs) ≡ (10 ∷ []) ∷ whole_lines bs
lf_line b bs h = ap (λ t. elim t as (λ _. List (List ℕ)) [ true ↦ (10 ∷ []) ∷ whole_lines bs | false ↦ with_first b (whole_lines bs) ]) h

other_byte : (b : ℕ) (bs : List ℕ) → eqb b 10 ≡ false → whole_lines (b ∷ bs) ≡ with_first b (whole_lines bs)
other_byte b bs h = ap (λ t. elim t as (λ _. List (List ℕ)) [ true ↦ (10 ∷ []) ∷ whole_lines bs | false ↦ with_first b (whole_lines bs) ]) h

the_lf : (b : ℕ) → eqb b 10 ≡ true → 10 ≡ b
the_lf b h = grind (arith, nat_tests)

cut_at : (text : List ℕ) (end : ℕ) → IsEnd (λ b. eqb b 10) text end → end < length text → whole_lines text ≡ take (suc end) text ∷ whole_lines (drop (suc end) text)
cut_at [] end e l = absurd (omega arith)
cut_at (b ∷ bs) zero e l = lf_line b bs (e.here (omega arith)) ∙ ap (λ t. (t ∷ []) ∷ whole_lines bs) (the_lf b (e.here (omega arith)))
cut_at (b ∷ bs) (suc end) e l =
    other_byte b bs (e.before 0 (omega arith))
    ∙ ap (with_first b) (cut_at bs end (tail_end (λ b. eqb b 10) b bs end e) (let h : suc end < suc (length bs) = l in omega arith))

pub line_cut : (text : List ℕ) (end : ℕ) → IsEnd (λ b. eqb b 10) text end → end < length text → whole_lines text ≡ take (end + 1) text ∷ whole_lines (drop (end + 1) text)
line_cut text end e l = rw (add-one end) (cut_at text end e l)

-- the last line, which lacks its LF
pub last_cut : (text : List ℕ) (end : ℕ) → IsEnd (λ b. eqb b 10) text end → length text ≤ end → 0 < length text → whole_lines text ≡ take end text ∷ whole_lines (drop end text)
last_cut [] end e l n = absurd (omega arith)
last_cut (b ∷ bs) zero e l n = absurd (let h : suc (length bs) ≤ 0 = l in omega arith)
last_cut (b ∷ []) (suc zero) e l n = other_byte b [] (e.before 0 (omega arith))
last_cut (b ∷ []) (suc (suc end)) e l n = absurd (let h : suc (suc end) ≤ 1 = e.within in omega arith)
last_cut (b ∷ c ∷ cs) (suc end) e l n =
    other_byte b (c ∷ cs) (e.before 0 (omega arith))
    ∙ ap (with_first b) (last_cut (c ∷ cs) end (tail_end (λ b. eqb b 10) b (c ∷ cs) end e) (let h : suc (length (c ∷ cs)) ≤ suc end = l in omega arith) (omega arith))

first_byte : (b : ℕ) (wholes : List (List ℕ)) → flat_map (λ whole. whole) (with_first b wholes) ≡ b ∷ flat_map (λ whole. whole) wholes
first_byte b [] = refl
first_byte b (whole ∷ wholes) = refl

joined_by : (b : ℕ) (bs : List ℕ) (lf : Bool) → eqb b 10 ≡ lf → flat_map (λ whole. whole) (whole_lines bs) ≡ bs → flat_map (λ whole. whole) (whole_lines (b ∷ bs)) ≡ b ∷ bs
joined_by b bs true h e = ap (flat_map (λ whole. whole)) (lf_line b bs h) ∙ ap (λ t. 10 ∷ t) e ∙ ap (λ t. t ∷ bs) (the_lf b h)
joined_by b bs false h e = ap (flat_map (λ whole. whole)) (other_byte b bs h) ∙ first_byte b (whole_lines bs) ∙ ap (λ t. b ∷ t) e

pub lines_are_text : (bytes : List ℕ) → flat_map (λ whole. whole) (whole_lines bytes) ≡ bytes
lines_are_text [] = refl
lines_are_text (b ∷ bs) = joined_by b bs (eqb b 10) refl (lines_are_text bs)
