-- Lines as values: the array of a line's words is a value that a stream may hold.
use Rattle.std.proofs.Common.{◌≡◌, ◌∙◌, ℕ, zero, suc, ◌≤◌, Bool, true, false, eqb, List, [], ◌∷◌, ◌++◌, map, length, refl, sym, ap, arith, length-append, decimal}
use Rattle.ballot_law.specs.Cuts.{IsEnd}
use Rattle.ballot_law.proofs.CutLemmas.{tail_end}
use Rattle.resp2.specs.Framing.Frame.{bulk, frames_of, count, spelling, spellings, line_end, HasLines, HaveLines, ArePlain, IsFrame, deepest_of, widest_of}
use Rattle.client_commands.specs.Lines.{array_of, line_size}

-- ---- the place of the LF

pub line_ends : (b : ℕ) (bs : List ℕ) → eqb b 10 ≡ true → line_size (b ∷ bs) ≡ 0
line_ends b bs h = ap (λ (t : Bool). elim t as (λ _. ℕ) [ true ↦ 0 | false ↦ suc (line_size bs) ]) h

pub line_goes_on : (b : ℕ) (bs : List ℕ) → eqb b 10 ≡ false → line_size (b ∷ bs) ≡ suc (line_size bs)
line_goes_on b bs h = ap (λ (t : Bool). elim t as (λ _. ℕ) [ true ↦ 0 | false ↦ suc (line_size bs) ]) h

within_by : (b : ℕ) (bs : List ℕ) (t : Bool) → eqb b 10 ≡ t → line_size bs ≤ length bs → line_size (b ∷ bs) ≤ suc (length bs)
within_by b bs true h le = let none = line_ends b bs h in omega (arith, none)
within_by b bs false h le = let one = line_goes_on b bs h in omega (arith, one, le)

pub line_within : (bytes : List ℕ) → line_size bytes ≤ length bytes
line_within [] = omega arith
line_within (b ∷ bs) = within_by b bs (eqb b 10) refl (line_within bs)

pub place_is_size : (bytes : List ℕ) (end : ℕ) → IsEnd (λ b. eqb b 10) bytes end → end ≡ line_size bytes
place_is_size [] end e = let le : end ≤ 0 = e.within in omega (arith, le)
place_is_size (b ∷ bs) zero e = sym (line_ends b bs (e.here (omega arith)))
place_is_size (b ∷ bs) (suc end) e =
    ap suc (place_is_size bs end (tail_end (λ b. eqb b 10) b bs end e)) ∙ sym (line_goes_on b bs (e.before 0 (omega arith)))

-- ---- the array of words

bulks_have_lines : (words : List (List ℕ)) → HaveLines (frames_of (map bulk words))
bulks_have_lines [] = tt
bulks_have_lines (word ∷ words) = (tt, bulks_have_lines words)

pub array_has_lines : (words : List (List ℕ)) → HasLines (array_of words)
array_has_lines words = bulks_have_lines words

count_bulks : (words : List (List ℕ)) → count (frames_of (map bulk words)) ≡ length words
count_bulks [] = refl
count_bulks (word ∷ words) = ap suc (count_bulks words)

deep_bulks : (words : List (List ℕ)) → deepest_of (frames_of (map bulk words)) ≤ 1
deep_bulks [] = omega arith
deep_bulks (word ∷ words) = let others = deep_bulks words in omega (arith, others)

wide_bulks : (words : List (List ℕ)) → widest_of (frames_of (map bulk words)) ≤ 0
wide_bulks [] = omega arith
wide_bulks (word ∷ words) = let others = wide_bulks words in omega (arith, others)

word_spelled : (word : List ℕ) → length word ≤ length (spelling (bulk word))
word_spelled word =
    omega (arith, length-append (decimal (length word) ++ line_end) (word ++ line_end), length-append word line_end)

plain_bulks : (words : List (List ℕ)) → length (spellings (frames_of (map bulk words))) ≤ 65536 → ArePlain (frames_of (map bulk words))
plain_bulks [] few = tt
plain_bulks (word ∷ words) few =
    let both = length-append (spelling (bulk word)) (spellings (frames_of (map bulk words))) in
    let one = word_spelled word in
    (omega (arith, both, one, few), plain_bulks words (omega (arith, both, few)))

pub array_frame : (words : List (List ℕ)) → length words ≤ 1024 → length (spelling (array_of words)) ≤ 65536 → IsFrame (array_of words)
array_frame words few short =
    let many = count_bulks words in
    let deep = deep_bulks words in
    let wide = wide_bulks words in
    let fs = frames_of (map bulk words) in
    let within : length (spellings fs) ≤ 65536 = omega (arith, length-append (decimal (count fs) ++ line_end) (spellings fs), short) in
    record {
      plain = (omega (arith, many, few), plain_bulks words within);
      depth = omega (arith, deep);
      width = omega (arith, many, few, wide);
      size = short;
    }
