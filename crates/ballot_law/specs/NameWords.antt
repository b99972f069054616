-- A word is a name exactly where its bytes are.
use Rattle.std.specs.Prelude.{◌≡◌, ◌↔◌, ℕ, ◌≤◌, Bool, true, false, ◌&&◌, nat_lt, nat_le, List, length, Option, Some, None, IsSome, IfSome}
use Rattle.std.specs.List.{list_all}
use Rattle.std.proofs.Common.{get_or, refl, ap, sym, ◌∙◌, subst, arith}
use Rattle.std.proofs.lemmas.Bool.{and_from, and_parts}
use Rattle.std.proofs.lemmas.Bool.Decides.{nat_tests}
use Rattle.std.proofs.lemmas.List.Sums.{AllPass-from_list_all, list_all-from_AllPass}
use Rattle.ballot_law.specs.declared.names.TheConstants.{NAME_MAX}
use Rattle.ballot_law.specs.Names.{IsName, IsNameByte}
use Rattle.ballot_law.specs.Words.{some_if, is_name_byte, name}

byte_test : (b : ℕ) → IsNameByte b → is_name_byte b ≡ true
byte_test b h = grind (arith, nat_tests)

test_byte : (b : ℕ) → is_name_byte b ≡ true → IsNameByte b
test_byte b h = grind (arith, nat_tests)

-- the test in the definition of `name`
abbrev is_name : List ℕ → Bool
is_name bytes = nat_lt 0 (length bytes) && (nat_le (length bytes) NAME_MAX && list_all is_name_byte bytes)

is_name-true : (bytes : List ℕ) → IsName bytes → is_name bytes ≡ true
is_name-true bytes h =
    and_from (nat_lt 0 (length bytes)) (nat_le (length bytes) NAME_MAX && list_all is_name_byte bytes)
    (let k : 1 ≤ length bytes = h.0 in let a : nat_lt 0 (length bytes) ≡ true = grind (arith, nat_tests) in a)
    (and_from (nat_le (length bytes) NAME_MAX) (list_all is_name_byte bytes)
    (let k : length bytes ≤ NAME_MAX = h.1 in let b : nat_le (length bytes) NAME_MAX ≡ true = grind (arith, nat_tests) in b)
    (list_all-from_AllPass is_name_byte bytes (λ k d l. byte_test (get_or bytes k d) (h.2 k d l))))

name_only : (bytes : List ℕ) → is_name bytes ≡ true → IsName bytes
name_only bytes h =
    let one = and_parts (nat_lt 0 (length bytes)) (nat_le (length bytes) NAME_MAX && list_all is_name_byte bytes) h in
    let two = and_parts (nat_le (length bytes) NAME_MAX) (list_all is_name_byte bytes) one.1 in
    let a : 1 ≤ length bytes = grind (arith, nat_tests, one.0) in
    let b : length bytes ≤ NAME_MAX = grind (arith, nat_tests, two.0) in
    (a, b, λ k d l. test_byte (get_or bytes k d) (AllPass-from_list_all is_name_byte bytes two.1 k d l))

pub name_is : (bytes : List ℕ) → IsName bytes → name bytes ≡ Some bytes
name_is bytes h = ap (λ test. some_if test bytes) (is_name-true bytes h)

none_by : (bytes : List ℕ) (test : Bool) → is_name bytes ≡ test → ¬ (IsName bytes) → some_if test bytes ≡ None
none_by bytes true e h = absurd (h (name_only bytes e))
none_by bytes false e h = refl

pub name_not : (bytes : List ℕ) → ¬ (IsName bytes) → name bytes ≡ None
name_not bytes h = none_by bytes (is_name bytes) refl h

found_by : (bytes found : List ℕ) (test : Bool) → is_name bytes ≡ test → some_if test bytes ≡ Some found → (bytes ≡ found) × IsName found
found_by bytes found true e h = let same : bytes ≡ found = cc in (same, subst IsName same (name_only bytes e))
found_by bytes found false e h = cc

-- a word that is read as a name is that name
pub name_found : (bytes found : List ℕ) → name bytes ≡ Some found → (bytes ≡ found) × IsName found
name_found bytes found h = found_by bytes found (is_name bytes) refl h

-- what `Name::from_slice` promises is what the definition says
pub name_of_slice : (bytes : List ℕ) (found : Option (List ℕ)) → IsSome found ↔ IsName bytes → IfSome found (λ n. n ≡ bytes) → found ≡ name bytes
name_of_slice bytes None some value = sym (name_not bytes (λ h. let e = some.1 h in cc))
name_of_slice bytes (Some n) some value = ap Some value ∙ sym (name_is bytes (some.0 refl))
