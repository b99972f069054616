-- Headers of long bulk strings: what is read as one is spelled so, what is spelled so is read, and no frame begins with one.
use Rattle.std.proofs.Common.{◌≡◌, ℕ, ◌+◌, ◌-◌, ◌^◌, ◌<◌, ◌≤◌, Bool, true, eqb, ltb, leb, List, [], ◌∷◌, ◌++◌, length, take, drop, Option, Some, None, Result, Ok, Err, decimal, refl, sym, ap, subst, ◌∙◌, append_assoc, arith, inl, inr}
use Rattle.std.proofs.lemmas.Bool.{eqb-true, and_parts, ltb-true, leb-true}
use Rattle.std.proofs.lemmas.Fmt.{length-decimal-le}
use Rattle.std.proofs.lemmas.List.{take-append-drop, length-append, drop_at}
use Rattle.ballot_law.specs.Words.{canonical_within, then_some, some_if}
use Rattle.ballot_law.proofs.WordLemmas.{some_if-is, then_some-is}
use Rattle.resp2.proofs.Canonical.{canonical_is, canonical_decimal}
use Rattle.resp2.specs.declared.framing.fault.Unread.{Unread}
use Rattle.resp2.specs.Framing.Frame.{Frame, simple, fault, int, bulk, null_bulk, items, null_items, line_end, spelling, IsFrame}
use Rattle.resp2.specs.Framing.Reading.{line_at, line_length, end_at, size_of}
use Rattle.resp2.proofs.FramingLemmas.Steps.{chosen, bind_ok}
use Rattle.resp2.proofs.FramingLemmas.Lines.{line_takes, line_again}
use Rattle.resp2.proofs.FramingLemmas.Numbers.{size_again, null_again, null_line, decimal_line}
use Rattle.resp2.specs.Long.LongValues.{header, is_long, size_in, long_size, behind_header}
use Rattle.resp2.proofs.LongLemmas.Passing.{take_over}

-- what is known of the size of a long bulk string
pub record IsLongSize (size : ℕ) : Type 0 where
  pub over : 65536 < length (header size) + (size + 2)
  pub within : size ≤ 16777216
  pub short : length (header size) ≤ 11

pub long_is : (size : ℕ) → is_long size ≡ true → IsLongSize size
long_is size e =
    let parts = and_parts (ltb 65536 (length (header size) + (size + 2))) (leb size 16777216) e in
    let within = leb-true size 16777216 parts.1 in
    let digits = length-decimal-le 8 size (omega arith) (omega arith) (omega arith) in
    record {
      over = ltb-true 65536 (length (header size) + (size + 2)) parts.0;
      within = within;
      short = omega (arith, digits, length-append (decimal size) line_end);
    }

-- ---- what is read as a header

pub record HasHeader (bytes : List ℕ) (size : ℕ) : Type 0 where
  pub is : bytes ≡ header size ++ behind_header size bytes
  pub long : is_long size ≡ true

record HasLine (line : Result (List ℕ × List ℕ) Unread) (size : ℕ) : Type 0 where
  text : List ℕ
  rest : List ℕ
  is : line ≡ Ok (text, rest)
  spelled : text ≡ decimal size
  long : is_long size ≡ true

line_found : (line : Result (List ℕ × List ℕ) Unread) (size : ℕ) → size_in line ≡ Some size → HasLine line size
line_found (Ok line) size e =
    let found = then_some-is (canonical_within 0 16777216 line.0) (λ n. some_if (is_long n) n) size e in
    let test = some_if-is (is_long found.0) found.0 size found.2 in
    let spelled = canonical_is 0 16777216 line.0 found.0 found.1 in
    let made : HasLine (Ok line) found.0 = record { text = line.0; rest = line.1; is = refl; spelled = spelled.spelled; long = test.0 } in
    subst (HasLine (Ok line)) test.1 made
line_found (Err why) size e = absurd cc

header_stands : (size : ℕ) (bytes rest : List ℕ) → bytes ≡ header size ++ rest → is_long size ≡ true → HasHeader bytes size
header_stands size bytes rest is long =
    let tail : behind_header size bytes ≡ rest = ap (drop (length (header size))) is ∙ drop_at (header size) rest (length (header size)) refl in
    record { is = is ∙ ap (λ (t : List ℕ). header size ++ t) (sym tail); long = long }

pub size_found : (bytes : List ℕ) (size : ℕ) → long_size bytes ≡ Some size → HasHeader bytes size
unfolding long_size
size_found [] size e = absurd cc
size_found (kind ∷ bytes) size e = elim (chosen (eqb kind 36) (size_in (line_at (take 10 bytes))) None (Some size) e) [
  | inl w ↦
      let line = line_found (line_at (take 10 bytes)) size w.1 in
      let front = (line_takes (take 10 bytes) line.text line.rest line.is).0 in
      let digits = decimal size in
      let whole : bytes ≡ (digits ++ line_end) ++ (line.rest ++ drop 10 bytes) =
      sym (take-append-drop 10 bytes)
      ∙ ap (λ (t : List ℕ). t ++ drop 10 bytes) (front ∙ ap (λ (t : List ℕ). t ++ (line_end ++ line.rest)) line.spelled)
      ∙ append_assoc digits (line_end ++ line.rest) (drop 10 bytes)
      ∙ ap (λ (t : List ℕ). digits ++ t) (append_assoc line_end line.rest (drop 10 bytes))
      ∙ sym (append_assoc digits line_end (line.rest ++ drop 10 bytes)) in
      let first : kind ≡ 36 = eqb-true kind 36 w.0 in
      let is : kind ∷ bytes ≡ header size ++ (line.rest ++ drop 10 bytes) =
      ap (λ (k : ℕ). k ∷ bytes) first ∙ ap (λ (t : List ℕ). 36 ∷ t) whole in
      header_stands size (kind ∷ bytes) (line.rest ++ drop 10 bytes) is line.long
  | inr w ↦ absurd cc
]

-- ---- what is spelled as a header

pub size_reads : (size : ℕ) (rest : List ℕ) → is_long size ≡ true → long_size (header size ++ rest) ≡ Some size
unfolding long_size
size_reads size rest long =
    let is = long_is size long in
    let digits = decimal size in
    let short = is.short in
    let within = is.within in
    let len : length (digits ++ line_end) ≤ 10 = omega arith in
    let cut : take 10 ((digits ++ line_end) ++ rest) ≡ digits ++ (line_end ++ take (10 - length (digits ++ line_end)) rest) =
    take_over 10 (digits ++ line_end) rest len ∙ append_assoc digits line_end (take (10 - length (digits ++ line_end)) rest) in
    let line = line_again digits (take (10 - length (digits ++ line_end)) rest) (decimal_line size (omega arith)) in
    ap (λ (t : List ℕ). size_in (line_at t)) cut
    ∙ ap size_in line
    ∙ ap (λ (o : Option ℕ). then_some o (λ n. some_if (is_long n) n)) (canonical_decimal 0 16777216 size (omega arith) (omega arith) within)
    ∙ ap (λ (b : Bool). some_if b size) long

-- ---- no frame begins with one

abbrev read_as : List ℕ × List ℕ → Result (List ℕ × List ℕ) Unread
read_as line = Ok line

line_is : (x y : List ℕ × List ℕ) → read_as x ≡ read_as y → x.0 ≡ y.0
line_is x y e = let pair : x ≡ y = cc in ap (λ (z : List ℕ × List ℕ). z.0) pair

abbrev sized : ℕ → Result (Option ℕ) Unread
sized n = Ok (Some n)

size_is : (n m : ℕ) → sized n ≡ sized m → n ≡ m
size_is n m e = cc

digits_apart : (n m : ℕ) (x y : List ℕ) → n < 2 ^ 64 → m < 2 ^ 64 → decimal n ++ (line_end ++ x) ≡ decimal m ++ (line_end ++ y) → n ≡ m
digits_apart n m x y a b e =
    let both = sym (line_again (decimal n) x (decimal_line n a)) ∙ ap line_at e ∙ line_again (decimal m) y (decimal_line m b) in
    let same : decimal n ≡ decimal m = line_is (decimal n, x) (decimal m, y) both in
    size_is n m (sym (size_again n a) ∙ ap size_of same ∙ size_again m b)

null_apart : (n : ℕ) (x y : List ℕ) → n < 2 ^ 64 → (45 ∷ 49 ∷ []) ++ (line_end ++ x) ≡ decimal n ++ (line_end ++ y) → ⊥
null_apart n x y a e =
    let both = sym (line_again (45 ∷ 49 ∷ []) x null_line) ∙ ap line_at e ∙ line_again (decimal n) y (decimal_line n a) in
    let same : 45 ∷ 49 ∷ [] ≡ decimal n = line_is (45 ∷ 49 ∷ [], x) (decimal n, y) both in
    let sizes = sym null_again ∙ ap size_of same ∙ size_again n a in
    cc

tails : (a b : ℕ) (x y : List ℕ) → a ∷ x ≡ b ∷ y → x ≡ y
tails a b x y e = cc

bulk_no_header : (text rest after : List ℕ) (size : ℕ) → IsFrame (bulk text) → IsLongSize size → spelling (bulk text) ++ rest ≡ header size ++ after → ⊥
bulk_no_header text rest after size is facts e =
    let over = facts.over in
    let within = facts.within in
    let n = length text in
    let fits = is.size in
    let plain = is.plain in
    let front = decimal n ++ line_end in
    let back = text ++ line_end in
    let behind : (front ++ back) ++ rest ≡ (decimal size ++ line_end) ++ after = tails 36 36 ((front ++ back) ++ rest) ((decimal size ++ line_end) ++ after) e in
    let left : (front ++ back) ++ rest ≡ decimal n ++ (line_end ++ (back ++ rest)) = append_assoc front back rest ∙ append_assoc (decimal n) line_end (back ++ rest) in
    let same : n ≡ size = digits_apart n size (back ++ rest) after plain (omega arith) (sym left ∙ behind ∙ append_assoc (decimal size) line_end after) in
    let heads : length front ≡ length (decimal size ++ line_end) = ap (λ (k : ℕ). length (decimal k ++ line_end)) same in
    omega (arith, length-append front back, length-append text line_end)

null_no_header : (rest after : List ℕ) (size : ℕ) → IsLongSize size → spelling null_bulk ++ rest ≡ header size ++ after → ⊥
null_no_header rest after size facts e =
    let within = facts.within in
    let behind : (45 ∷ 49 ∷ line_end) ++ rest ≡ (decimal size ++ line_end) ++ after =
    tails 36 36 ((45 ∷ 49 ∷ line_end) ++ rest) ((decimal size ++ line_end) ++ after) e in
    null_apart size rest after (omega arith) (behind ∙ append_assoc (decimal size) line_end after)

first_byte : (a b : ℕ) (x y : List ℕ) → a ∷ x ≡ b ∷ y → a ≡ b
first_byte a b x y e = cc

no_header : (value : Frame) (rest after : List ℕ) (size : ℕ) → IsFrame value → IsLongSize size → spelling value ++ rest ≡ header size ++ after → ⊥
no_header (simple text) rest after size is facts e = let k = first_byte 43 36 _ _ e in omega (arith, k)
no_header (fault text) rest after size is facts e = let k = first_byte 45 36 _ _ e in omega (arith, k)
no_header (int n) rest after size is facts e = let k = first_byte 58 36 _ _ e in omega (arith, k)
no_header (bulk text) rest after size is facts e = bulk_no_header text rest after size is facts e
no_header null_bulk rest after size is facts e = null_no_header rest after size facts e
no_header (items fs) rest after size is facts e = let k = first_byte 42 36 _ _ e in omega (arith, k)
no_header null_items rest after size is facts e = let k = first_byte 42 36 _ _ e in omega (arith, k)

pub no_size : (value : Frame) (rest : List ℕ) → IsFrame value → long_size (spelling value ++ rest) ≡ None
no_size value rest is = at (long_size (spelling value ++ rest)) refl
  where
    at : (o : Option ℕ) → long_size (spelling value ++ rest) ≡ o → o ≡ None
    at None e = refl
    at (Some size) e =
        let found = size_found (spelling value ++ rest) size e in
        absurd (no_header value rest (behind_header size (spelling value ++ rest)) size is (long_is size found.long) found.is)

-- ---- a line as the code finds it

pub line_whole : (bytes line tail more : List ℕ) (n : ℕ) → n ≡ line_length bytes → line ≡ take n bytes → tail ≡ drop n bytes → end_at tail ≡ Ok more → line_at bytes ≡ Ok (line, more)
unfolding line_at
line_whole bytes line tail more n len front back end =
    let k = line_length bytes in
    let line_is : line ≡ take k bytes = front ∙ ap (λ (m : ℕ). take m bytes) len in
    let tail_is : tail ≡ drop k bytes = back ∙ ap (λ (m : ℕ). drop m bytes) len in
    let found : end_at (drop k bytes) ≡ Ok more = ap end_at (sym tail_is) ∙ end in
    rw found (ap (λ (t : List ℕ). Ok (t, more)) (sym line_is))

pub line_open : (bytes tail : List ℕ) (n : ℕ) (why : Unread) (x : List ℕ × List ℕ) → n ≡ line_length bytes → tail ≡ drop n bytes → end_at tail ≡ Err why → line_at bytes ≡ Ok x → ⊥
unfolding line_at
line_open bytes tail n why x len back end e =
    let k = line_length bytes in
    let tail_is : tail ≡ drop k bytes = back ∙ ap (λ (m : ℕ). drop m bytes) len in
    let a = bind_ok (end_at (drop k bytes)) (λ rest. Ok (take k bytes, rest)) x e in
    let both = sym a.1 ∙ ap end_at (sym tail_is) ∙ end in
    cc
