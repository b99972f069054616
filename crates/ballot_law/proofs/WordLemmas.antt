-- Numbers, addresses and run ids are read back from their spelling.
use Rattle.std.proofs.Common.{◌≡◌, ℕ, zero, suc, ◌+◌, ◌-◌, ◌*◌, ◌/◌, ◌%◌, ◌^◌, ◌≤◌, ◌<◌, Bool, true, false, ◌&&◌, eqb, ltb, leb, List, [], ◌∷◌, ◌++◌, length, take, drop, refl, ap, sym, ◌∙◌, subst, arith, length-append, Some, get_or, Option, None, inl, inr, map}
use Rattle.std.specs.Prelude.{decimal}
use Rattle.std.specs.List.{list_all, AllByRecursion}
use Rattle.std.specs.Int.Digits.{number_from_digits_after, AllBelowBase}
use Rattle.std.proofs.lemmas.Bool.{and_from, and_parts, le-leb, lt-ltb, leb-true, cases_lt}
use Rattle.std.proofs.lemmas.Bool.Decides.{nat_tests}
use Rattle.std.proofs.lemmas.List.Folds.{list_all-append}
use Rattle.std.proofs.lemmas.List.{length-map}
use Rattle.std.proofs.lemmas.Fmt.{decimal_by_steps, first_decimal, decimal_digit}
use Rattle.std.proofs.lemmas.Int.Digits.{number_after_lt}
use Rattle.std.proofs.Math.Nat.{pow-suc}
use Rattle.std.proofs.Math.Seq.{take-append_seam, drop-append_seam}
use Rattle.ballot_law.specs.declared.addresses.Addr.{Addr}
use Rattle.ballot_law.specs.declared.addresses.RunId.{RunId}
use Rattle.ballot_law.specs.declared.names.TheConstants.{NAME_MAX}
use Rattle.ballot_law.specs.Orders.{same_bytes}
use Rattle.ballot_law.specs.Words.{some_if, then_some, is_digit, number_on, number, number_within, is_name_byte, name, with_first, parts, ip_part, ip_of_parts, ip, ip_text, port, address, is_hex, hex_value, hex_on, run_id, hex_digit, hex, id_text}

-- bytes from `-` on, of which all words are made
abbrev pub ArePlain : List ℕ → Type 0
ArePlain = AllByRecursion (λ b. 45 ≤ b)

abbrev pub IsWord : List ℕ → Type 0
IsWord [] = ⊥
IsWord (b ∷ bs) = ArePlain (b ∷ bs)

pub same_bytes-refl : (xs : List ℕ) → same_bytes xs xs ≡ true
same_bytes-refl [] = refl
same_bytes-refl (x ∷ xs) = and_from (eqb x x) (same_bytes xs xs) (let e : eqb x x ≡ true = grind (arith, nat_tests) in e) (same_bytes-refl xs)

pub same_bytes-true : (xs ys : List ℕ) → same_bytes xs ys ≡ true → xs ≡ ys
same_bytes-true [] [] h = refl
same_bytes-true [] (y ∷ ys) h = cc
same_bytes-true (x ∷ xs) [] h = cc
same_bytes-true (x ∷ xs) (y ∷ ys) h =
    let both = and_parts (eqb x y) (same_bytes xs ys) h in
    let heads : x ≡ y = grind (arith, nat_tests, both.0) in
    let tails : xs ≡ ys = same_bytes-true xs ys both.1 in
    cc

-- the word is digits of this number
pub record Spells (n : ℕ) (ds : List ℕ) : Type 0 where
  pub some : 0 < length ds
  pub digits : list_all is_digit ds ≡ true
  pub value : number_on 0 ds ≡ n
  pub high : AllByRecursion (λ b. 48 ≤ b) ds

number_on-append : (n : ℕ) (xs ys : List ℕ) → number_on n (xs ++ ys) ≡ number_on (number_on n xs) ys
number_on-append n [] ys = refl
number_on-append n (x ∷ xs) ys = number_on-append (n * 10 + (x - 48)) xs ys

high_append : (k : ℕ) (xs ys : List ℕ) → AllByRecursion (λ b. k ≤ b) xs → AllByRecursion (λ b. k ≤ b) ys → AllByRecursion (λ b. k ≤ b) (xs ++ ys)
high_append k [] ys h g = g
high_append k (x ∷ xs) ys h g = (h.0, high_append k xs ys h.1 g)

digit_is : (d : ℕ) → d < 10 → is_digit (48 + d) ≡ true
digit_is d h = grind (arith, nat_tests)

spells_one : (n : ℕ) → n < 10 → Spells n ((48 + n) ∷ [])
spells_one n h = record {
  some = omega arith;
  digits = and_from (is_digit (48 + n)) true (digit_is n h) refl;
  value = omega arith;
  high = (omega arith, tt);
}

spells_more : (n : ℕ) (ds : List ℕ) → 10 ≤ n → Spells (n / 10) ds → Spells n (ds ++ ((48 + n % 10) ∷ []))
spells_more n ds h s = record {
  some = omega (arith, length-append ds ((48 + n % 10) ∷ []), s.some);
  digits =
      list_all-append is_digit ds ((48 + n % 10) ∷ [])
      ∙ and_from (list_all is_digit ds) (list_all is_digit ((48 + n % 10) ∷ [])) s.digits (and_from (is_digit (48 + n % 10)) true (digit_is (n % 10) (omega arith)) refl);
  value = number_on-append 0 ds ((48 + n % 10) ∷ []) ∙ (let e : number_on 0 ds ≡ n / 10 = s.value in let r : number_on 0 ds * 10 + (48 + n % 10 - 48) ≡ n = omega arith in r);
  high = high_append 48 ds ((48 + n % 10) ∷ []) s.high (omega arith, tt);
}

pub spells_decimal : (n : ℕ) → n < 2 ^ 64 → Spells n (decimal n)
spells_decimal n h = decimal_by_steps Spells spells_one spells_more n h

pub some_if-true : {X : Type 0} (b : Bool) (x : X) → b ≡ true → some_if b x ≡ Some x
some_if-true b x e = ap (λ t. some_if t x) e

pub number-spells : (n : ℕ) (ds : List ℕ) → Spells n ds → number ds ≡ Some n
number-spells n ds s =
    some_if-true (ltb 0 (length ds) && list_all is_digit ds) (number_on 0 ds) (and_from (ltb 0 (length ds)) (list_all is_digit ds) (lt-ltb 0 (length ds) s.some) s.digits)
    ∙ ap Some s.value

pub number_within-decimal : (low high n : ℕ) → n < 2 ^ 64 → low ≤ n → n ≤ high → number_within low high (decimal n) ≡ Some n
number_within-decimal low high n h l u =
    ap (λ found. then_some found (λ n. some_if (leb low n && leb n high) n)) (number-spells n (decimal n) (spells_decimal n h))
    ∙ some_if-true (leb low n && leb n high) n (and_from (leb low n) (leb n high) (le-leb low n l) (le-leb n high u))

plain_high : (ds : List ℕ) → AllByRecursion (λ b. 48 ≤ b) ds → ArePlain ds
plain_high [] h = tt
plain_high (d ∷ ds) h = (let l : 48 ≤ d = h.0 in omega arith, plain_high ds h.1)

word_plain : (ds : List ℕ) → 0 < length ds → ArePlain ds → IsWord ds
word_plain [] h p = absurd (omega arith)
word_plain (d ∷ ds) h p = p

pub word_decimal : (n : ℕ) → n < 2 ^ 64 → IsWord (decimal n)
word_decimal n h = let s = spells_decimal n h in word_plain (decimal n) s.some (plain_high (decimal n) s.high)

-- addresses
not_dot : (b : ℕ) → 48 ≤ b → eqb b 46 ≡ false
not_dot b h = grind (arith, nat_tests)

parts_step : (b : ℕ) (bs : List ℕ) → 48 ≤ b → parts (b ∷ bs) ≡ with_first b (parts bs)
parts_step b bs h = ap (λ t. elim t as (λ _. List (List ℕ)) [ true ↦ [] ∷ parts bs | false ↦ with_first b (parts bs) ]) (not_dot b h)

parts_more : (ds rest : List ℕ) → AllByRecursion (λ b. 48 ≤ b) ds → parts (ds ++ 46 ∷ rest) ≡ ds ∷ parts rest
parts_more [] rest h = refl
parts_more (d ∷ ds) rest h = parts_step d (ds ++ 46 ∷ rest) h.0 ∙ ap (with_first d) (parts_more ds rest h.1)

parts_last : (ds : List ℕ) → AllByRecursion (λ b. 48 ≤ b) ds → parts ds ≡ ds ∷ []
parts_last [] h = refl
parts_last (d ∷ ds) h = parts_step d ds h.0 ∙ ap (with_first d) (parts_last ds h.1)

ip_part-decimal : (n : ℕ) → n ≤ 255 → ip_part (decimal n) ≡ Some n
ip_part-decimal n h =
    ap (λ found. then_some found (λ m. some_if (same_bytes (decimal n) (decimal m)) m)) (number_within-decimal 0 255 n (omega arith) (omega arith) h)
    ∙ some_if-true (same_bytes (decimal n) (decimal n)) n (same_bytes-refl (decimal n))

ip_of_four : (a b c d : ℕ) → a ≤ 255 → b ≤ 255 → c ≤ 255 → d ≤ 255 →
    ip (decimal a ++ 46 ∷ (decimal b ++ 46 ∷ (decimal c ++ 46 ∷ decimal d))) ≡ Some (((a * 256 + b) * 256 + c) * 256 + d)
ip_of_four a b c d ha hb hc hd =
    let sa = spells_decimal a (omega arith) in
    let sb = spells_decimal b (omega arith) in
    let sc = spells_decimal c (omega arith) in
    let sd = spells_decimal d (omega arith) in
    ap ip_of_parts
    (parts_more (decimal a) (decimal b ++ 46 ∷ (decimal c ++ 46 ∷ decimal d)) sa.high
    ∙ ap (λ t. decimal a ∷ t)
    (parts_more (decimal b) (decimal c ++ 46 ∷ decimal d) sb.high
    ∙ ap (λ t. decimal b ∷ t) (parts_more (decimal c) (decimal d) sc.high ∙ ap (λ t. decimal c ∷ t) (parts_last (decimal d) sd.high))))
    ∙ ap (λ p. then_some p (λ a. then_some (ip_part (decimal b))
    (λ b. then_some (ip_part (decimal c)) (λ c. then_some (ip_part (decimal d)) (λ d. Some (((a * 256 + b) * 256 + c) * 256 + d)))))) (ip_part-decimal a ha)
    ∙ ap (λ p. then_some p (λ b. then_some (ip_part (decimal c)) (λ c. then_some (ip_part (decimal d)) (λ d. Some (((a * 256 + b) * 256 + c) * 256 + d))))) (ip_part-decimal b hb)
    ∙ ap (λ p. then_some p (λ c. then_some (ip_part (decimal d)) (λ d. Some (((a * 256 + b) * 256 + c) * 256 + d)))) (ip_part-decimal c hc)
    ∙ ap (λ p. then_some p (λ d. Some (((a * 256 + b) * 256 + c) * 256 + d))) (ip_part-decimal d hd)

pub ip-ip_text : (n : ℕ) → n < 2 ^ 32 → ip (ip_text n) ≡ Some n
ip-ip_text n h =
    ip_of_four (n / 256 / 256 / 256) (n / 256 / 256 % 256) (n / 256 % 256) (n % 256) (omega arith) (omega arith) (omega arith) (omega arith)
    ∙ ap Some (let e : (((n / 256 / 256 / 256) * 256 + n / 256 / 256 % 256) * 256 + n / 256 % 256) * 256 + n % 256 ≡ n = omega arith in e)

plain_append : (xs : List ℕ) (b : ℕ) (ys : List ℕ) → ArePlain xs → 45 ≤ b → ArePlain ys → ArePlain (xs ++ b ∷ ys)
plain_append xs b ys h k g = high_append 45 xs (b ∷ ys) h (k, g)

plain_decimal : (n : ℕ) → n < 2 ^ 64 → ArePlain (decimal n)
plain_decimal n h = let s = spells_decimal n h in plain_high (decimal n) s.high

pub word_ip_text : (n : ℕ) → n < 2 ^ 32 → IsWord (ip_text n)
word_ip_text n h =
    let a = n / 256 / 256 / 256 in
    let b = n / 256 / 256 % 256 in
    let c = n / 256 % 256 in
    let d = n % 256 in
    let pa : ArePlain (decimal a) = plain_decimal a (omega arith) in
    let pb : ArePlain (decimal b) = plain_decimal b (omega arith) in
    let pc : ArePlain (decimal c) = plain_decimal c (omega arith) in
    let pd : ArePlain (decimal d) = plain_decimal d (omega arith) in
    let last : List ℕ = decimal c ++ 46 ∷ decimal d in
    let rest : List ℕ = decimal b ++ 46 ∷ last in
    word_plain (decimal a ++ 46 ∷ rest)
    (omega (arith, length-append (decimal a) (46 ∷ rest)))
    (plain_append (decimal a) 46 rest pa (omega arith) (plain_append (decimal b) 46 last pb (omega arith) (plain_append (decimal c) 46 (decimal d) pc (omega arith) pd)))

pub port-decimal : (n : ℕ) → 1 ≤ n → n ≤ 65535 → port (decimal n) ≡ Some n
port-decimal n l h = number_within-decimal 1 65535 n (omega arith) l h

pub address-text : (a : Addr) → a.ip < 2 ^ 32 → 1 ≤ a.port → a.port ≤ 65535 → address (ip_text a.ip) (decimal a.port) ≡ Some a
address-text a h l u =
    ap (λ i. then_some i (λ i. then_some (port (decimal a.port)) (λ p. Some (record { ip = i; port = p })))) (ip-ip_text a.ip h)
    ∙ ap (λ p. then_some p (λ p. Some (record { ip = a.ip; port = p }))) (port-decimal a.port l u)

-- run ids
pub hex_on-append : (n : ℕ) (xs ys : List ℕ) → hex_on n (xs ++ ys) ≡ hex_on (hex_on n xs) ys
hex_on-append n [] ys = refl
hex_on-append n (x ∷ xs) ys = hex_on-append (n * 16 + hex_value x) xs ys

hex_digit_low : (d : ℕ) → ltb d 10 ≡ true → hex_digit d ≡ 48 + d
hex_digit_low d e = ap (λ t. elim t as (λ _. ℕ) [ true ↦ 48 + d | false ↦ 87 + d ]) e

hex_digit_high : (d : ℕ) → ltb d 10 ≡ false → hex_digit d ≡ 87 + d
hex_digit_high d e = ap (λ t. elim t as (λ _. ℕ) [ true ↦ 48 + d | false ↦ 87 + d ]) e

hex_value_low : (b : ℕ) → is_digit b ≡ true → hex_value b ≡ b - 48
hex_value_low b e = ap (λ t. elim t as (λ _. ℕ) [ true ↦ b - 48 | false ↦ b - 87 ]) e

hex_value_high : (b : ℕ) → is_digit b ≡ false → hex_value b ≡ b - 87
hex_value_high b e = ap (λ t. elim t as (λ _. ℕ) [ true ↦ b - 48 | false ↦ b - 87 ]) e

pub record HexDigit (d b : ℕ) : Type 0 where
  pub value : hex_value b ≡ d
  pub hex : is_hex b ≡ true
  pub high : 45 ≤ b

hex_low : (d : ℕ) → d < 10 → HexDigit d (48 + d)
hex_low d h = record {
  value = hex_value_low (48 + d) (digit_is d h) ∙ (let e : 48 + d - 48 ≡ d = omega arith in e);
  hex = grind (arith, nat_tests);
  high = omega arith;
}

hex_high : (d : ℕ) → 10 ≤ d → d < 16 → HexDigit d (87 + d)
hex_high d l h = record {
  value = hex_value_high (87 + d) (let e : is_digit (87 + d) ≡ false = grind (arith, nat_tests) in e) ∙ (let e : 87 + d - 87 ≡ d = omega arith in e);
  hex = grind (arith, nat_tests);
  high = omega arith;
}

hex_digit_by : (d : ℕ) (t : Bool) → d < 16 → ltb d 10 ≡ t → HexDigit d (hex_digit d)
hex_digit_by d true h e = subst (HexDigit d) (sym (hex_digit_low d e)) (hex_low d (let l : d < 10 = grind (arith, nat_tests) in l))
hex_digit_by d false h e = subst (HexDigit d) (sym (hex_digit_high d e)) (hex_high d (let l : 10 ≤ d = grind (arith, nat_tests) in l) h)

hex_digit_is : (d : ℕ) → d < 16 → HexDigit d (hex_digit d)
hex_digit_is d h = hex_digit_by d (ltb d 10) h refl

pub record SpellsHex (k n : ℕ) (ds : List ℕ) : Type 0 where
  pub len : length ds ≡ k
  pub digits : list_all is_hex ds ≡ true
  pub value : hex_on 0 ds ≡ n
  pub high : AllByRecursion (λ b. 45 ≤ b) ds

hex_more : (k n : ℕ) (ds : List ℕ) → SpellsHex k (n / 16) ds → SpellsHex (suc k) n (ds ++ hex_digit (n % 16) ∷ [])
hex_more k n ds s =
    let d = hex_digit_is (n % 16) (omega arith) in
    record {
      len = omega (arith, length-append ds (hex_digit (n % 16) ∷ []), s.len);
      digits =
          list_all-append is_hex ds (hex_digit (n % 16) ∷ [])
          ∙ and_from (list_all is_hex ds) (list_all is_hex (hex_digit (n % 16) ∷ [])) s.digits (and_from (is_hex (hex_digit (n % 16))) true d.hex refl);
      value = hex_on-append 0 ds (hex_digit (n % 16) ∷ []) ∙
          (let e : hex_on 0 ds ≡ n / 16 = s.value in let f : hex_value (hex_digit (n % 16)) ≡ n % 16 = d.value in
          let r : hex_on 0 ds * 16 + hex_value (hex_digit (n % 16)) ≡ n = omega arith in r);
      high = high_append 45 ds (hex_digit (n % 16) ∷ []) s.high (d.high, tt);
    }

pub spells_hex : (k n : ℕ) → n < 16 ^ k → SpellsHex k n (hex k n)
unfolding hex
spells_hex zero n h = record { len = refl; digits = refl; value = omega arith; high = tt }
spells_hex (suc k) n h =
    let e : 16 ^ suc k ≡ 16 ^ k * 16 = pow-suc 16 k in
    hex_more k n (hex k (n / 16)) (spells_hex k (n / 16) (omega arith))

-- every run id has 40 digits
pub length-hex : (k n : ℕ) → length (hex k n) ≡ k
unfolding hex
length-hex zero n = refl
length-hex (suc k) n = omega (arith, length-append (hex k (n / 16)) (hex_digit (n % 16) ∷ []), length-hex k (n / 16))

pub length-id_text : (id : RunId) → length (id_text id) ≡ 40
length-id_text id = omega (arith, length-append (hex 32 id.hi) (hex 8 id.lo), length-hex 32 id.hi, length-hex 8 id.lo)

pub run_id-id_text : (id : RunId) → id.hi < 2 ^ 128 → id.lo < 2 ^ 32 → run_id (id_text id) ≡ Some id
run_id-id_text id h l =
    let a = spells_hex 32 id.hi h in
    let b = spells_hex 8 id.lo l in
    let len = length-id_text id in
    some_if-true ((eqb (length (id_text id)) 40) && list_all is_hex (id_text id)) (record { hi = hex_on 0 (take 32 (id_text id)); lo = hex_on 0 (drop 32 (id_text id)) })
    (and_from (eqb (length (id_text id)) 40) (list_all is_hex (id_text id)) (grind (arith, nat_tests, len))
    (list_all-append is_hex (hex 32 id.hi) (hex 8 id.lo) ∙ and_from (list_all is_hex (hex 32 id.hi)) (list_all is_hex (hex 8 id.lo)) a.digits b.digits))
    ∙ (let high : hex_on 0 (take 32 (id_text id)) ≡ id.hi =
    ap (λ k. hex_on 0 (take k (id_text id))) (sym a.len) ∙ ap (hex_on 0) (take-append_seam (hex 32 id.hi) (hex 8 id.lo)) ∙ a.value in
    let low : hex_on 0 (drop 32 (id_text id)) ≡ id.lo =
    ap (λ k. hex_on 0 (drop k (id_text id))) (sym a.len) ∙ ap (hex_on 0) (drop-append_seam (hex 32 id.hi) (hex 8 id.lo)) ∙ b.value in
    (ap (λ n. Some (record { hi = n; lo = hex_on 0 (drop 32 (id_text id)) })) high) ∙ ap (λ n. Some (record { hi = id.hi; lo = n })) low)

pub word_id_text : (id : RunId) → id.hi < 2 ^ 128 → id.lo < 2 ^ 32 → IsWord (id_text id)
word_id_text id h l =
    let a = spells_hex 32 id.hi h in
    let b = spells_hex 8 id.lo l in
    word_plain (id_text id) (omega (arith, length-id_text id)) (high_append 45 (hex 32 id.hi) (hex 8 id.lo) a.high b.high)

-- names
name_byte_plain : (b : ℕ) → is_name_byte b ≡ true → 45 ≤ b
name_byte_plain b h = grind (arith, nat_tests)

name_bytes_plain : (bs : List ℕ) → list_all is_name_byte bs ≡ true → ArePlain bs
name_bytes_plain [] h = tt
name_bytes_plain (b ∷ bs) h = let both = and_parts (is_name_byte b) (list_all is_name_byte bs) h in (name_byte_plain b both.0, name_bytes_plain bs both.1)

pub some_if-some : {X : Type 0} (b : Bool) (x y : X) → some_if b x ≡ Some y → b ≡ true
some_if-some true x y h = refl
some_if-some false x y h = cc

pub some_if-is : {X : Type 0} (b : Bool) (x y : X) → some_if b x ≡ Some y → (b ≡ true) × (x ≡ y)
some_if-is true x y h = (refl, cc)
some_if-is false x y h = cc

pub some_if-none : {X : Type 0} (b : Bool) (x : X) → some_if b x ≡ None → b ≡ false
some_if-none true x h = absurd cc
some_if-none false x h = refl

pub then_some-is : {X Y : Type 0} (o : Option X) (f : X → Option Y) (y : Y) → then_some o f ≡ Some y → (x : X) × (o ≡ Some x) × (f x ≡ Some y)
then_some-is (Some x) f y h = (x, refl, h)
then_some-is None f y h = absurd cc

-- a number that is read is within its bounds
pub number_within-is : (low high : ℕ) (bytes : List ℕ) (n : ℕ) → number_within low high bytes ≡ Some n → (low ≤ n) × (n ≤ high)
number_within-is low high bytes n h =
    let found = then_some-is (number bytes) (λ m. some_if (leb low m && leb m high) m) n h in
    let test = some_if-is (leb low found.0 && leb found.0 high) found.0 n found.2 in
    let both = and_parts (leb low found.0) (leb found.0 high) test.0 in
    let made : (low ≤ found.0) × (found.0 ≤ high) = (leb-true low found.0 both.0, leb-true found.0 high both.1) in
    subst (λ (k : ℕ). (low ≤ k) × (k ≤ high)) test.1 made

-- only 0 begins with 0
pub decimal_leads : (n : ℕ) → n < 2 ^ 64 → get_or (decimal n) 0 0 ≡ 48 → length (decimal n) ≡ 1
decimal_leads n lt e =
    elim (cases_lt 0 n) [
      | inl above ↦ let first = first_decimal n above lt in absurd (omega arith)
      | inr none ↦ ap length (decimal_digit n (omega arith))
    ]

pub word_name : (n m : List ℕ) → name n ≡ Some m → IsWord n
word_name n m h =
    let all = some_if-some (ltb 0 (length n) && (leb (length n) NAME_MAX && list_all is_name_byte n)) n m h in
    let first = and_parts (ltb 0 (length n)) (leb (length n) NAME_MAX && list_all is_name_byte n) all in
    let second = and_parts (leb (length n) NAME_MAX) (list_all is_name_byte n) first.1 in
    word_plain n (let l : 0 < length n = grind (arith, nat_tests, first.0) in l) (name_bytes_plain n second.1)

-- so many hex digits make a number below that power of 16
hex_below : (b : ℕ) (t : Bool) → is_digit b ≡ t → is_hex b ≡ true → hex_value b < 16
hex_below b true e h = let v : hex_value b ≡ b - 48 = ap (λ t. elim t as (λ _. ℕ) [ true ↦ b - 48 | false ↦ b - 87 ]) e in grind (arith, nat_tests)
hex_below b false e h = let v : hex_value b ≡ b - 87 = ap (λ t. elim t as (λ _. ℕ) [ true ↦ b - 48 | false ↦ b - 87 ]) e in grind (arith, nat_tests)

below_base : (ds : List ℕ) → list_all is_hex ds ≡ true → AllBelowBase 16 (map hex_value ds)
below_base [] h = tt
below_base (d ∷ ds) h = let both = and_parts (is_hex d) (list_all is_hex ds) h in (hex_below d (is_digit d) refl both.0, below_base ds both.1)

hex_on_is : (n : ℕ) (ds : List ℕ) → hex_on n ds ≡ number_from_digits_after 16 n (map hex_value ds)
hex_on_is n [] = refl
hex_on_is n (d ∷ ds) = hex_on_is (n * 16 + hex_value d) ds

pub hex_on-small : (k : ℕ) (ds : List ℕ) → length ds ≡ k → list_all is_hex ds ≡ true → hex_on 0 ds < 16 ^ k
hex_on-small k ds e h =
    let l : number_from_digits_after 16 0 (map hex_value ds) < (0 + 1) * 16 ^ length (map hex_value ds) = number_after_lt 16 0 (map hex_value ds) (below_base ds h) in
    let f : 16 ^ length (map hex_value ds) ≡ 16 ^ k = ap (λ n. 16 ^ n) (length-map ds hex_value ∙ e) in
    let g : hex_on 0 ds ≡ number_from_digits_after 16 0 (map hex_value ds) = hex_on_is 0 ds in
    omega arith
