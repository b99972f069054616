-- What is written as a word is read again, and is ASCII.
use Rattle.std.proofs.Common.{◌≡◌, ℕ, ◌/◌, ◌%◌, ◌^◌, ◌≤◌, ◌<◌, true, false, ◌&&◌, not, eqb, ltb, List, [], ◌∷◌, ◌++◌, length, get_or, ap, ◌∙◌, arith, Some, inl, inr}
use Rattle.std.specs.Prelude.{decimal}
use Rattle.std.specs.List.{list_all, AllByRecursion}
use Rattle.std.specs.Str.{IsAscii}
use Rattle.std.proofs.lemmas.Bool.{and_from, and_parts, lt-ltb, cases_lt}
use Rattle.std.proofs.lemmas.Bool.Decides.{nat_tests}
use Rattle.std.proofs.lemmas.Fmt.{IsAscii-decimal, decimal_digit, first_decimal}
use Rattle.std.proofs.lemmas.List.Elements.{All-from_recursion, recursion_from_All}
use Rattle.std.proofs.lemmas.Str.{IsAscii-append}
use Rattle.std.proofs.lemmas.Str.Ascii.{IsAscii-cons, IsAscii-from_all}
use Rattle.ballot_law.specs.declared.addresses.RunId.{RunId}
use Rattle.ballot_law.specs.declared.cards.TheConstants.{MAX_EPOCH}
use Rattle.ballot_law.specs.Hellos.{IsRunId}
use Rattle.ballot_law.specs.Names.{IsName, IsNameByte}
use Rattle.ballot_law.specs.Orders.{same_bytes}
use Rattle.ballot_law.specs.Words.{some_if, then_some, is_digit, are_digits, has_leading_zero, is_decimal, number_within, canonical_port, is_hex, hex, ip_text, id_text}
use Rattle.ballot_law.proofs.WordLemmas.{same_bytes-refl, spells_decimal, number_within-decimal, spells_hex}
use Rattle.node_texts.specs.Hellos.{epoch}

-- ---- ASCII

ascii_all : (bs : List ℕ) → AllByRecursion (λ b. b < 128) bs → IsAscii bs
ascii_all bs h = IsAscii-from_all bs (All-from_recursion (λ b. b < 128) bs h)

ascii_ip_part : (n : ℕ) (rest : List ℕ) → n < 2 ^ 64 → IsAscii rest → IsAscii (decimal n ++ 46 ∷ rest)
ascii_ip_part n rest h k = IsAscii-append (decimal n) (46 ∷ rest) (IsAscii-decimal n h) (IsAscii-cons 46 rest (omega arith) k)

pub ascii_ip : (n : ℕ) → n < 2 ^ 32 → IsAscii (ip_text n)
ascii_ip n h =
    ascii_ip_part (n / 256 / 256 / 256) (decimal (n / 256 / 256 % 256) ++ 46 ∷ (decimal (n / 256 % 256) ++ 46 ∷ decimal (n % 256))) (omega arith)
    (ascii_ip_part (n / 256 / 256 % 256) (decimal (n / 256 % 256) ++ 46 ∷ decimal (n % 256)) (omega arith)
    (ascii_ip_part (n / 256 % 256) (decimal (n % 256)) (omega arith) (IsAscii-decimal (n % 256) (omega arith))))

hex_byte : (b : ℕ) → is_hex b ≡ true → b < 128
hex_byte b h = grind (arith, nat_tests)

hex_bytes : (bs : List ℕ) → list_all is_hex bs ≡ true → AllByRecursion (λ b. b < 128) bs
hex_bytes [] h = tt
hex_bytes (b ∷ bs) h = let both = and_parts (is_hex b) (list_all is_hex bs) h in (hex_byte b both.0, hex_bytes bs both.1)

pub ascii_id : (id : RunId) → IsRunId id → IsAscii (id_text id)
ascii_id id h =
    let a = spells_hex 32 id.hi h.hi in
    let b = spells_hex 8 id.lo h.lo in
    IsAscii-append (hex 32 id.hi) (hex 8 id.lo) (ascii_all (hex 32 id.hi) (hex_bytes (hex 32 id.hi) a.digits)) (ascii_all (hex 8 id.lo) (hex_bytes (hex 8 id.lo) b.digits))

name_byte : (b : ℕ) → IsNameByte b → b < 128
name_byte b h = grind arith

name_bytes : (bs : List ℕ) → AllByRecursion IsNameByte bs → AllByRecursion (λ b. b < 128) bs
name_bytes [] h = tt
name_bytes (b ∷ bs) h = (name_byte b h.0, name_bytes bs h.1)

pub ascii_name : (bs : List ℕ) → IsName bs → IsAscii bs
ascii_name bs h = ascii_all bs (name_bytes bs (recursion_from_All IsNameByte bs h.2))

-- ---- ports and epochs

pub port_again : (n : ℕ) → 1 ≤ n → n ≤ 65535 → canonical_port (decimal n) ≡ Some n
port_again n l h =
    ap (λ o. then_some o (λ m. some_if (same_bytes (decimal n) (decimal m)) m)) (number_within-decimal 1 65535 n (omega arith) l h)
    ∙ ap (λ t. some_if t n) (same_bytes-refl (decimal n))

no_zero : (len first : ℕ) → 48 < first → (ltb 1 len && eqb first 48) ≡ false
no_zero len first h = grind (arith, nat_tests)

one_digit : (len first : ℕ) → len ≡ 1 → (ltb 1 len && eqb first 48) ≡ false
one_digit len first h = grind (arith, nat_tests)

not_leading : (n : ℕ) → n < 2 ^ 64 → has_leading_zero (decimal n) ≡ false
not_leading n h =
    elim (cases_lt 0 n) [
      | inl above ↦ no_zero (length (decimal n)) (get_or (decimal n) 0 0) (first_decimal n above h)
      | inr none ↦ one_digit (length (decimal n)) (get_or (decimal n) 0 0) (ap length (decimal_digit n (omega arith)))
    ]

decimal_is : (n : ℕ) → n < 2 ^ 64 → is_decimal (decimal n) ≡ true
decimal_is n h =
    let s = spells_decimal n h in
    and_from (are_digits (decimal n)) (not (has_leading_zero (decimal n)))
    (and_from (ltb 0 (length (decimal n))) (list_all is_digit (decimal n)) (lt-ltb 0 (length (decimal n)) s.some) s.digits)
    (ap not (not_leading n h))

pub epoch_again : (n : ℕ) → n ≤ MAX_EPOCH → epoch (decimal n) ≡ Some (Some n)
epoch_again n h =
    let small : n < 2 ^ 64 = omega arith in
    ap (λ t. some_if t (number_within 0 MAX_EPOCH (decimal n))) (decimal_is n small) ∙ ap Some (number_within-decimal 0 MAX_EPOCH n small (omega arith) h)
