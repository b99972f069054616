-- Numbers, names, addresses and run ids as words: how each is read, and how it is spelled.
use Rattle.std.specs.Prelude.{ℕ, zero, suc, ◌+◌, ◌-◌, ◌*◌, ◌/◌, ◌%◌, Bool, true, false, not, ◌||◌, ◌&&◌, ◌==◌, nat_lt, nat_le, slice_index, List, [], ◌∷◌, ◌++◌, length, map, take, drop, Option, Some, None, option_and_then, decimal}
use Rattle.std.specs.List.{list_all}
use Rattle.std.specs.Char.{to_ascii_lowercase}
use Rattle.ballot_law.specs.declared.addresses.Addr.{Addr}
use Rattle.ballot_law.specs.declared.addresses.RunId.{RunId}
use Rattle.ballot_law.specs.declared.names.TheConstants.{NAME_MAX}
use Rattle.ballot_law.specs.Orders.{same_bytes}
pub use Rattle.ballot_law.specs.Cuts.{with_first, cut_at}

-- the value where the test holds
abbrev pub some_if : {X : Type 0} → Bool → X → Option X
some_if test x = elim test [ true ↦ Some x | false ↦ None ]

-- std's word with the value first, as readings in turn are written
abbrev pub then_some : {X Y : Type 0} → Option X → (X → Option Y) → Option Y
then_some found f = option_and_then f found

abbrev pub is_digit : ℕ → Bool
is_digit b = nat_le 48 b && nat_le b 57

-- one or more digits
abbrev pub are_digits : List ℕ → Bool
are_digits bytes = nat_lt 0 (length bytes) && list_all is_digit bytes

abbrev pub has_leading_zero : List ℕ → Bool
has_leading_zero bytes = nat_lt 1 (length bytes) && (slice_index bytes 0 == 48)

-- a decimal number of any size, without leading zeros
abbrev pub is_decimal : List ℕ → Bool
is_decimal bytes = are_digits bytes && not (has_leading_zero bytes)

-- the number of these digits behind a number of others
abbrev pub number_on : ℕ → List ℕ → ℕ
number_on n [] = n
number_on n (b ∷ bs) = number_on (n * 10 + (b - 48)) bs

-- the number of one or more digits
abbrev pub number : List ℕ → Option ℕ
number bytes = some_if (are_digits bytes) (number_on 0 bytes)

abbrev pub number_within : ℕ → ℕ → List ℕ → Option ℕ
number_within low high bytes = then_some (number bytes) (λ n. some_if (nat_le low n && nat_le n high) n)

-- a number that is spelled without leading zeros
abbrev pub canonical_within : ℕ → ℕ → List ℕ → Option ℕ
canonical_within low high bytes = then_some (number_within low high bytes) (λ n. some_if (same_bytes bytes (decimal n)) n)

abbrev pub is_name_byte : ℕ → Bool
is_name_byte b =
    (nat_le 97 b && nat_le b 122) || ((nat_le 65 b && nat_le b 90) || (is_digit b || ((nat_le 45 b && nat_le b 46) || (b == 95))))

-- 1 to 64 letters, digits, `.`, `-` and `_`
abbrev pub name : List ℕ → Option (List ℕ)
name bytes = some_if (nat_lt 0 (length bytes) && (nat_le (length bytes) NAME_MAX && list_all is_name_byte bytes)) bytes

-- the parts around the dots
abbrev pub parts : List ℕ → List (List ℕ)
parts = cut_at 46

-- a number to 255 without leading zeros
abbrev pub ip_part : List ℕ → Option ℕ
ip_part bytes = canonical_within 0 255 bytes

abbrev pub ip_of_parts : List (List ℕ) → Option ℕ
ip_of_parts (a ∷ b ∷ c ∷ d ∷ []) =
    then_some (ip_part a) (λ a. then_some (ip_part b) (λ b. then_some (ip_part c) (λ c. then_some (ip_part d) (λ d. Some (((a * 256 + b) * 256 + c) * 256 + d)))))
ip_of_parts _ = None

abbrev pub ip : List ℕ → Option ℕ
ip bytes = ip_of_parts (parts bytes)

abbrev pub ip_text : ℕ → List ℕ
ip_text n = decimal (n / 256 / 256 / 256) ++ 46 ∷ (decimal (n / 256 / 256 % 256) ++ 46 ∷ (decimal (n / 256 % 256) ++ 46 ∷ decimal (n % 256)))

-- leading zeros allowed
abbrev pub port : List ℕ → Option ℕ
port = number_within 1 65535

abbrev pub address : List ℕ → List ℕ → Option Addr
address ip_bytes port_bytes = then_some (ip ip_bytes) (λ i. then_some (port port_bytes) (λ p. Some (record { ip = i; port = p })))

-- a port without leading zeros
abbrev pub canonical_port : List ℕ → Option ℕ
canonical_port = canonical_within 1 65535

-- an address whose port has no leading zeros
abbrev pub canonical_address : List ℕ → List ℕ → Option Addr
canonical_address ip_bytes port_bytes =
    then_some (ip ip_bytes) (λ i. then_some (canonical_port port_bytes) (λ p. Some (record { ip = i; port = p })))

-- a lower case hex digit
abbrev pub is_hex : ℕ → Bool
is_hex b = is_digit b || (nat_le 97 b && nat_le b 102)

abbrev pub hex_value : ℕ → ℕ
hex_value b = elim (is_digit b) [ true ↦ b - 48 | false ↦ b - 87 ]

abbrev pub hex_on : ℕ → List ℕ → ℕ
hex_on n [] = n
hex_on n (b ∷ bs) = hex_on (n * 16 + hex_value b) bs

-- 40 lower case hex digits
abbrev pub run_id : List ℕ → Option RunId
run_id bytes =
    some_if ((length bytes == 40) && list_all is_hex bytes) (record { hi = hex_on 0 (take 32 bytes); lo = hex_on 0 (drop 32 bytes) })

abbrev pub hex_digit : ℕ → ℕ
hex_digit d = elim (nat_lt d 10) [ true ↦ 48 + d | false ↦ 87 + d ]

-- so many hex digits of a number
unfoldable pub hex : ℕ → ℕ → List ℕ
hex zero n = []
hex (suc k) n = hex k (n / 16) ++ hex_digit (n % 16) ∷ []

abbrev pub id_text : RunId → List ℕ
id_text id = hex 32 id.hi ++ hex 8 id.lo

abbrev pub lower : List ℕ → List ℕ
lower bytes = map to_ascii_lowercase bytes
