-- An array of a few short bulk strings is a frame.
use Rattle.std.proofs.Common.{◌≡◌, ℕ, suc, ◌*◌, ◌^◌, ◌≤◌, ◌<◌, List, [], ◌∷◌, ◌++◌, length, refl, ap, arith, length-append, decimal}
use Rattle.std.specs.List.{AllByRecursion}
use Rattle.std.proofs.lemmas.Fmt.{length-decimal-le}
use Rattle.resp2.specs.Framing.Frame.{bulk, items, spelling, spellings, line_end, count, ArePlain, IsFrame, deepest_of, widest_of}
use Rattle.resp2.specs.Commands.{bulks}

abbrev pub AreShort : List (List ℕ) → Type 0
AreShort = AllByRecursion (λ word. length word ≤ 100)

pub decimal_short : (n : ℕ) → n < 2 ^ 64 → length (decimal n) ≤ 20
decimal_short n small = length-decimal-le 20 n (omega arith) (omega arith) small

bulk_short : (word : List ℕ) → length word ≤ 100 → length (spelling (bulk word)) ≤ 125
bulk_short word short =
    let digits : length (decimal (length word)) ≤ 20 = decimal_short (length word) (omega arith) in
    omega (arith, length-append (decimal (length word) ++ line_end) (word ++ line_end), length-append (decimal (length word)) line_end, length-append word line_end)

bulks_short : (words : List (List ℕ)) → AreShort words → length (spellings (bulks words)) ≤ 125 * length words
bulks_short [] short = omega arith
bulks_short (word ∷ words) short =
    let first = bulk_short word short.0 in
    let others = bulks_short words short.1 in
    omega (arith, length-append (spelling (bulk word)) (spellings (bulks words)), first, others)

count_bulks : (words : List (List ℕ)) → count (bulks words) ≡ length words
count_bulks [] = refl
count_bulks (word ∷ words) = ap suc (count_bulks words)

plain_bulks : (words : List (List ℕ)) → AreShort words → ArePlain (bulks words)
plain_bulks [] short = tt
plain_bulks (word ∷ words) short = (let le : length word ≤ 100 = short.0 in omega arith, plain_bulks words short.1)

deep_bulks : (words : List (List ℕ)) → deepest_of (bulks words) ≤ 1
deep_bulks [] = omega arith
deep_bulks (word ∷ words) = let others = deep_bulks words in omega (arith, others)

wide_bulks : (words : List (List ℕ)) → widest_of (bulks words) ≤ 0
wide_bulks [] = omega arith
wide_bulks (word ∷ words) = let others = wide_bulks words in omega (arith, others)

pub short_array : (words : List (List ℕ)) → AreShort words → length words ≤ 100 → IsFrame (items (bulks words))
short_array words short few =
    let many = count_bulks words in
    let deep = deep_bulks words in
    let wide = wide_bulks words in
    let all = bulks_short words short in
    let digits : length (decimal (count (bulks words))) ≤ 20 = decimal_short (count (bulks words)) (omega arith) in
    record {
      plain = (omega arith, plain_bulks words short);
      depth = omega arith;
      width = omega arith;
      size = omega (arith, length-append (decimal (count (bulks words)) ++ line_end) (spellings (bulks words)), length-append (decimal (count (bulks words))) line_end);
    }
