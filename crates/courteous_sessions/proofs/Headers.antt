-- Headers that begin the same bytes tell the same number.
use Rattle.std.proofs.Common.{◌≡◌, ◌∙◌, ◌%◌, ◌/◌, ◌<◌, ◌^◌, ℕ, suc, false, true≢false, eqb, List, [], ◌∷◌, ◌++◌, sym, ap, append_assoc, decimal, arith}
use Rattle.std.proofs.lemmas.Bool.{eq-eqb}
use Rattle.std.proofs.lemmas.Fmt.{decimal_injective}
use Rattle.resp2.specs.Framing.Frame.{simple, line_end}
use Rattle.resp2.proofs.FramingLemmas.Numbers.{decimal_line}
use Rattle.resp2.proofs.FramingLemmas.Streams.{one_spelling}

-- two headers of one kind that begin the same bytes tell the same number, and the same bytes follow them
pub header_split : (kind n m : ℕ) (some other x y : List ℕ) → n < 2 ^ 64 → m < 2 ^ 64
    → (kind ∷ ((decimal n ++ line_end) ++ some)) ++ x ≡ (kind ∷ ((decimal m ++ line_end) ++ other)) ++ y → (n ≡ m) × (some ++ x ≡ other ++ y)
header_split kind n m some other x y low below e =
    let tails : ((decimal n ++ line_end) ++ some) ++ x ≡ ((decimal m ++ line_end) ++ other) ++ y = cc in
    let parts : (decimal n ++ line_end) ++ (some ++ x) ≡ (decimal m ++ line_end) ++ (other ++ y) =
    sym (append_assoc (decimal n ++ line_end) some x) ∙ tails ∙ append_assoc (decimal m ++ line_end) other y
    in
    let same = one_spelling (simple (decimal n)) (simple (decimal m)) (some ++ x) (other ++ y) (decimal_line n low) (decimal_line m below)
    (ap (λ (t : List ℕ). 43 ∷ t) parts)
    in
    let text : decimal n ≡ decimal m = let it = same.0 in cc in
    (decimal_injective n m low below text, same.1)

pub one_more : (n m : ℕ) → suc n ≡ suc m → n ≡ m
one_more n m e = cc

pub none_or_more : (n : ℕ) → 0 ≡ suc n → ⊥
none_or_more n e = cc

-- what begins with different bytes differs
abbrev pub lead : List ℕ → ℕ
lead [] = 0
lead (byte ∷ bytes) = byte

pub apart : (n m : ℕ) → eqb n m ≡ false → n ≡ m → ⊥
apart n m differs e = true≢false (sym (eq-eqb n m e) ∙ differs)

-- as many names as values
pub halves : (n m : ℕ) → n % 2 ≡ 0 → m % 2 ≡ 0 → n / 2 ≡ m / 2 → n ≡ m
halves n m even too same = omega (arith, even, too, same)

pub half_below : (n : ℕ) → n < 2 ^ 64 → n / 2 < 2 ^ 64
half_below n low = omega (arith, low)
