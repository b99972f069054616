-- A word that is read is the spelling of what was read.
use Rattle.std.proofs.Common.{◌≡◌, ℕ, suc, ◌+◌, ◌-◌, ◌*◌, ◌/◌, ◌%◌, ◌^◌, ◌≤◌, ◌<◌, Bool, true, false, ◌&&◌, ◌||◌, eqb, ltb, leb, List, [], ◌∷◌, ◌++◌, length, take, drop, refl, ap, sym, ◌∙◌, subst, arith, append_assoc, append-nil, Option, Some, None}
use Rattle.std.specs.Prelude.{decimal}
use Rattle.std.specs.List.{list_all}
use Rattle.std.proofs.lemmas.Bool.{and_parts, leb-true, lt-ltb}
use Rattle.std.proofs.lemmas.Bool.Decides.{nat_tests}
use Rattle.std.proofs.lemmas.List.{take-append-drop, length-take-le, length-drop}
use Rattle.std.proofs.lemmas.List.Folds.{list_all-append}
use Rattle.ballot_law.specs.declared.addresses.RunId.{RunId}
use Rattle.ballot_law.specs.Hellos.{IsRunId}
use Rattle.ballot_law.specs.Orders.{same_bytes}
use Rattle.ballot_law.specs.Words.{some_if, then_some, is_digit, number_within, canonical_within, with_first, parts, ip_part, ip_of_parts, ip, ip_text, is_hex, hex_value, hex_on, hex_digit, hex, run_id, id_text}
use Rattle.ballot_law.proofs.WordLemmas.{same_bytes-true, some_if-some, some_if-is, number_within-is, hex_on-small}
use Rattle.ballot_law.proofs.CutLemmas.{some_parts}

-- ---- numbers

pub record IsWithin (low high n : ℕ) (bytes : List ℕ) : Type 0 where
  pub text : bytes ≡ decimal n
  pub least : low ≤ n
  pub most : n ≤ high

canonical_by : (low high n : ℕ) (bytes : List ℕ) (o : Option ℕ) → number_within low high bytes ≡ o → then_some o (λ m. some_if (same_bytes bytes (decimal m)) m) ≡ Some n →
    IsWithin low high n bytes
canonical_by low high n bytes None e h = absurd cc
canonical_by low high n bytes (Some m) e h =
    let same : m ≡ n = (some_if-is (same_bytes bytes (decimal m)) m n h).1 in
    let text : bytes ≡ decimal m = same_bytes-true bytes (decimal m) (some_if-some (same_bytes bytes (decimal m)) m n h) in
    let range = number_within-is low high bytes n (e ∙ ap Some same) in
    record { text = text ∙ ap decimal same; least = range.0; most = range.1 }

pub canonical_is : (low high n : ℕ) (bytes : List ℕ) → canonical_within low high bytes ≡ Some n → IsWithin low high n bytes
canonical_is low high n bytes h = canonical_by low high n bytes (number_within low high bytes) refl h

-- ---- addresses

-- parts with dots between them
with_dots : List (List ℕ) → List ℕ
with_dots [] = []
with_dots (part ∷ rest) = elim rest as (λ _. List ℕ) [ [] ↦ part | next ∷ more ↦ part ++ 46 ∷ with_dots rest ]

parts_by : (b : ℕ) (bs : List ℕ) (t : Bool) → eqb b 46 ≡ t → parts (b ∷ bs) ≡ elim t as (λ _. List (List ℕ)) [ true ↦ [] ∷ parts bs | false ↦ with_first b (parts bs) ]
parts_by b bs t e = ap (λ t. elim t as (λ _. List (List ℕ)) [ true ↦ [] ∷ parts bs | false ↦ with_first b (parts bs) ]) e

dots_first : (b : ℕ) (p : List ℕ) (ps : List (List ℕ)) → with_dots (with_first b (p ∷ ps)) ≡ b ∷ with_dots (p ∷ ps)
unfolding with_dots
dots_first b p [] = refl
dots_first b p (q ∷ qs) = refl

dots_by : (b : ℕ) (bs : List ℕ) (t : Bool) → eqb b 46 ≡ t → with_dots (parts bs) ≡ bs → with_dots (parts (b ∷ bs)) ≡ b ∷ bs
unfolding with_dots
dots_by b bs true e h =
    let dot : b ≡ 46 = grind (arith, nat_tests, e) in
    let s = some_parts 46 bs in
    ap with_dots (parts_by b bs true e ∙ ap (λ ps. [] ∷ ps) s.2) ∙ ap (λ ps. 46 ∷ with_dots ps) (sym s.2) ∙ ap (λ t. 46 ∷ t) h ∙ ap (λ d. d ∷ bs) (sym dot)
dots_by b bs false e h =
    let s = some_parts 46 bs in
    ap with_dots (parts_by b bs false e ∙ ap (with_first b) s.2) ∙ dots_first b s.0 s.1 ∙ ap (λ ps. b ∷ with_dots ps) (sym s.2) ∙ ap (λ t. b ∷ t) h

with_dots-parts : (bs : List ℕ) → with_dots (parts bs) ≡ bs
unfolding with_dots
with_dots-parts [] = refl
with_dots-parts (b ∷ bs) = dots_by b bs (eqb b 46) refl (with_dots-parts bs)

pub record IsIp (n : ℕ) (bytes : List ℕ) : Type 0 where
  pub text : bytes ≡ ip_text n
  pub most : n < 2 ^ 32

-- the number's parts
quarters : (a b c d n : ℕ) → a ≤ 255 → b ≤ 255 → c ≤ 255 → d ≤ 255 → ((a * 256 + b) * 256 + c) * 256 + d ≡ n
    → (n / 256 / 256 / 256 ≡ a) × (n / 256 / 256 % 256 ≡ b) × (n / 256 % 256 ≡ c) × (n % 256 ≡ d) × (n < 2 ^ 32)
quarters a b c d n ha hb hc hd e = (omega arith, omega arith, omega arith, omega arith, omega arith)

four_texts : (pa pb pc pd : List ℕ) (a b c d n : ℕ) → pa ≡ decimal a → pb ≡ decimal b → pc ≡ decimal c → pd ≡ decimal d → a ≤ 255 → b ≤ 255 → c ≤ 255 → d ≤ 255 →
    ((a * 256 + b) * 256 + c) * 256 + d ≡ n
    → IsIp n (with_dots (pa ∷ pb ∷ pc ∷ pd ∷ []))
unfolding with_dots
four_texts pa pb pc pd a b c d n ea eb ec ed ha hb hc hd e =
    let q = quarters a b c d n ha hb hc hd e in
    record {
      text =
          ap (λ (t : List ℕ). t ++ 46 ∷ (pb ++ 46 ∷ (pc ++ 46 ∷ pd))) (ea ∙ ap decimal (sym q.0))
          ∙ ap (λ (t : List ℕ). decimal (n / 256 / 256 / 256) ++ 46 ∷ (t ++ 46 ∷ (pc ++ 46 ∷ pd))) (eb ∙ ap decimal (sym q.1))
          ∙ ap (λ (t : List ℕ). decimal (n / 256 / 256 / 256) ++ 46 ∷ (decimal (n / 256 / 256 % 256) ++ 46 ∷ (t ++ 46 ∷ pd))) (ec ∙ ap decimal (sym q.2))
          ∙ ap (λ (t : List ℕ). decimal (n / 256 / 256 / 256) ++ 46 ∷ (decimal (n / 256 / 256 % 256) ++ 46 ∷ (decimal (n / 256 % 256) ++ 46 ∷ t))) (ed ∙ ap decimal (sym q.3));
      most = q.4;
    }

four_by : (pa pb pc pd : List ℕ) (oa ob oc od : Option ℕ) (n : ℕ) → ip_part pa ≡ oa → ip_part pb ≡ ob → ip_part pc ≡ oc → ip_part pd ≡ od
    → then_some oa (λ a. then_some ob (λ b. then_some oc (λ c. then_some od (λ d. Some (((a * 256 + b) * 256 + c) * 256 + d))))) ≡ Some n
    → IsIp n (with_dots (pa ∷ pb ∷ pc ∷ pd ∷ []))
four_by pa pb pc pd None ob oc od n ea eb ec ed h = absurd cc
four_by pa pb pc pd (Some a) None oc od n ea eb ec ed h = absurd cc
four_by pa pb pc pd (Some a) (Some b) None od n ea eb ec ed h = absurd cc
four_by pa pb pc pd (Some a) (Some b) (Some c) None n ea eb ec ed h = absurd cc
four_by pa pb pc pd (Some a) (Some b) (Some c) (Some d) n ea eb ec ed h =
    let ka = canonical_is 0 255 a pa ea in
    let kb = canonical_is 0 255 b pb eb in
    let kc = canonical_is 0 255 c pc ec in
    let kd = canonical_is 0 255 d pd ed in
    let e : ((a * 256 + b) * 256 + c) * 256 + d ≡ n = cc in
    four_texts pa pb pc pd a b c d n ka.text kb.text kc.text kd.text ka.most kb.most kc.most kd.most e

of_parts : (ps : List (List ℕ)) (n : ℕ) → ip_of_parts ps ≡ Some n → IsIp n (with_dots ps)
of_parts [] n h = absurd cc
of_parts (a ∷ []) n h = absurd cc
of_parts (a ∷ b ∷ []) n h = absurd cc
of_parts (a ∷ b ∷ c ∷ []) n h = absurd cc
of_parts (a ∷ b ∷ c ∷ d ∷ []) n h = four_by a b c d (ip_part a) (ip_part b) (ip_part c) (ip_part d) n refl refl refl refl h
of_parts (a ∷ b ∷ c ∷ d ∷ e ∷ ps) n h = absurd cc

pub ip_is : (bytes : List ℕ) (n : ℕ) → ip bytes ≡ Some n → IsIp n bytes
ip_is bytes n h = subst (IsIp n) (with_dots-parts bytes) (of_parts (parts bytes) n h)

-- ---- run ids

pub record HexBack (d : ℕ) : Type 0 where
  pub small : hex_value d < 16
  pub back : hex_digit (hex_value d) ≡ d

value_by : (d : ℕ) (t : Bool) → is_digit d ≡ t → hex_value d ≡ elim t as (λ _. ℕ) [ true ↦ d - 48 | false ↦ d - 87 ]
value_by d t e = ap (λ t. elim t as (λ _. ℕ) [ true ↦ d - 48 | false ↦ d - 87 ]) e

glyph_by : (v : ℕ) (t : Bool) → ltb v 10 ≡ t → hex_digit v ≡ elim t as (λ _. ℕ) [ true ↦ 48 + v | false ↦ 87 + v ]
glyph_by v t e = ap (λ t. elim t as (λ _. ℕ) [ true ↦ 48 + v | false ↦ 87 + v ]) e

digit_range : (d : ℕ) → is_digit d ≡ true → (48 ≤ d) × (d ≤ 57)
digit_range d e = let both = and_parts (leb 48 d) (leb d 57) e in (leb-true 48 d both.0, leb-true d 57 both.1)

or_right : (a b : Bool) → a ≡ false → (a || b) ≡ true → b ≡ true
or_right true b e h = absurd cc
or_right false b e h = h

letter_range : (d : ℕ) → is_digit d ≡ false → is_hex d ≡ true → (97 ≤ d) × (d ≤ 102)
letter_range d e h =
    let letter : (leb 97 d && leb d 102) ≡ true = or_right (is_digit d) (leb 97 d && leb d 102) e h in
    let both = and_parts (leb 97 d) (leb d 102) letter in (leb-true 97 d both.0, leb-true d 102 both.1)

back_at : (d v : ℕ) → hex_value d ≡ v → v < 16 → hex_digit v ≡ d → HexBack d
back_at d v e small back = record { small = omega arith; back = ap hex_digit e ∙ back }

hex_back_by : (d : ℕ) (t : Bool) → is_digit d ≡ t → is_hex d ≡ true → HexBack d
hex_back_by d true e h =
    let r = digit_range d e in
    let less : ltb (d - 48) 10 ≡ true = (let l : d - 48 < 10 = omega arith in lt-ltb (d - 48) 10 l) in
    let sum : 48 + (d - 48) ≡ d = omega arith in
    back_at d (d - 48) (value_by d true e) (omega arith) (glyph_by (d - 48) true less ∙ sum)
hex_back_by d false e h =
    let r = letter_range d e h in
    let more : ltb (d - 87) 10 ≡ false = (let l : 10 ≤ d - 87 = omega arith in grind (arith, nat_tests)) in
    let sum : 87 + (d - 87) ≡ d = omega arith in
    back_at d (d - 87) (value_by d false e) (omega arith) (glyph_by (d - 87) false more ∙ sum)

hex_back : (d : ℕ) → is_hex d ≡ true → HexBack d
hex_back d h = hex_back_by d (is_digit d) refl h

quotient : (n v : ℕ) → v < 16 → ((n * 16 + v) / 16 ≡ n) × ((n * 16 + v) % 16 ≡ v)
quotient n v h = (omega arith, omega arith)

-- the digits behind those of n
hex_more : (m n d : ℕ) → is_hex d ≡ true → hex (suc m) (n * 16 + hex_value d) ≡ hex m n ++ d ∷ []
unfolding hex
hex_more m n d h =
    let k = hex_back d h in
    let q = quotient n (hex_value d) k.small in
    ap (λ x. hex m x ++ hex_digit ((n * 16 + hex_value d) % 16) ∷ []) q.0 ∙ ap (λ x. hex m n ++ x ∷ []) (ap hex_digit q.1 ∙ k.back)

hex_after : (m n : ℕ) (ds : List ℕ) → list_all is_hex ds ≡ true → hex (length ds + m) (hex_on n ds) ≡ hex m n ++ ds
hex_after m n [] h = (let e : 0 + m ≡ m = omega arith in ap (λ k. hex k n) e) ∙ sym (append-nil (hex m n))
hex_after m n (d ∷ ds) h =
    let both = and_parts (is_hex d) (list_all is_hex ds) h in
    let e : length (d ∷ ds) + m ≡ length ds + suc m = omega arith in
    ap (λ k. hex k (hex_on (n * 16 + hex_value d) ds)) e
    ∙ hex_after (suc m) (n * 16 + hex_value d) ds both.1
    ∙ ap (λ t. t ++ ds) (hex_more m n d both.0)
    ∙ append_assoc (hex m n) (d ∷ []) ds

pub hex-hex_on : (k : ℕ) (ds : List ℕ) → length ds ≡ k → list_all is_hex ds ≡ true → hex k (hex_on 0 ds) ≡ ds
unfolding hex
hex-hex_on k ds e h = (let z : k ≡ length ds + 0 = omega arith in ap (λ k. hex k (hex_on 0 ds)) z) ∙ hex_after 0 0 ds h

pub record IsIdText (id : RunId) (bytes : List ℕ) : Type 0 where
  pub text : bytes ≡ id_text id
  pub valid : IsRunId id

id_of_halves : (high low : List ℕ) → length high ≡ 32 → length low ≡ 8 → list_all is_hex high ≡ true → list_all is_hex low ≡ true →
    IsIdText (record { hi = hex_on 0 high; lo = hex_on 0 low }) (high ++ low)
id_of_halves high low lh ll h l = record {
  text = sym (ap (λ t. t ++ hex 8 (hex_on 0 low)) (hex-hex_on 32 high lh h) ∙ ap (λ t. high ++ t) (hex-hex_on 8 low ll l));
  valid = record { hi = hex_on-small 32 high lh h; lo = hex_on-small 8 low ll l };
}

id_by : (bytes : List ℕ) → length bytes ≡ 40 → list_all is_hex bytes ≡ true → IsIdText (record { hi = hex_on 0 (take 32 bytes); lo = hex_on 0 (drop 32 bytes) }) bytes
id_by bytes l h =
    let whole = take-append-drop 32 bytes in
    let both = and_parts (list_all is_hex (take 32 bytes)) (list_all is_hex (drop 32 bytes))
    (sym (list_all-append is_hex (take 32 bytes) (drop 32 bytes)) ∙ ap (list_all is_hex) whole ∙ h) in
    let high : length (take 32 bytes) ≡ 32 = length-take-le 32 bytes (omega arith) in
    let low : length (drop 32 bytes) ≡ 8 = omega (arith, length-drop 32 bytes) in
    subst (IsIdText (record { hi = hex_on 0 (take 32 bytes); lo = hex_on 0 (drop 32 bytes) })) whole (id_of_halves (take 32 bytes) (drop 32 bytes) high low both.0 both.1)

pub run_id_is : (bytes : List ℕ) (id : RunId) → run_id bytes ≡ Some id → IsIdText id bytes
run_id_is bytes id h =
    let test = (eqb (length bytes) 40) && list_all is_hex bytes in
    let value : RunId = record { hi = hex_on 0 (take 32 bytes); lo = hex_on 0 (drop 32 bytes) } in
    let both = and_parts (eqb (length bytes) 40) (list_all is_hex bytes) (some_if-some test value id h) in
    let len : length bytes ≡ 40 = grind (arith, nat_tests, both.0) in
    subst (λ (i : RunId). IsIdText i bytes) (some_if-is test value id h).1 (id_by bytes len both.1)
