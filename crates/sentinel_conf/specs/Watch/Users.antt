-- The lines `user` that a Redis writes by itself.
use Rattle.std.specs.Prelude.{ℕ, Bool, true, false, ◌||◌, ◌&&◌, ◌==◌, List, [], ◌∷◌, Option, Some, None, bytes_eq, codes}
use Rattle.std.specs.List.{list_any, list_all}
use Rattle.hex.specs.Hex.{encode_lower}
use Rattle.sha2.specs.Sha256.{sha256}
use Rattle.ballot_law.specs.Orders.{same_bytes}
use Rattle.ballot_law.specs.Words.{lower, some_if}
use Rattle.sentinel_conf.specs.declared.watch.faults.WatchKind.TheVariants.{AclUser}
use Rattle.sentinel_conf.specs.declared.watch.settings.WatchSetting.TheVariants.{DefaultUser}
use Rattle.sentinel_conf.specs.declared.watch.settings.WatchLine.{WatchLine}
use Rattle.sentinel_conf.specs.declared.watch.settings.WatchLine.TheVariants as line

abbrev pub is_rule : (rule name : List ℕ) → Bool
is_rule rule name = bytes_eq (lower rule) name

-- one of those that all rights have, or what is said of the texts of RESTORE
abbrev pub is_plain : List ℕ → Bool
is_plain rule =
    is_rule rule (codes "on")
    || (is_rule rule (codes "~*")
    || (is_rule rule (codes "&*")
    || (is_rule rule (codes "+@all") || (is_rule rule (codes "sanitize-payload") || is_rule rule (codes "skip-sanitize-payload")))))

abbrev pub has_rule : (rules : List (List ℕ)) → (name : List ℕ) → Bool
has_rule rules name = list_any (λ rule. is_rule rule name) rules

abbrev pub has_all_rights : List (List ℕ) → Bool
has_all_rights rules = has_rule rules (codes "on") && (has_rule rules (codes "~*") && (has_rule rules (codes "&*") && has_rule rules (codes "+@all")))

-- the one rule that is no plain one
abbrev pub password_rule : List (List ℕ) → Option (List ℕ)
password_rule [] = None
password_rule (rule ∷ rules) =
    elim (is_plain rule) as (λ _. Option (List ℕ)) [ true ↦ password_rule rules | false ↦ some_if (list_all is_plain rules) rule ]

-- a # and the digits of a hash, one at least
abbrev pub with_digits : List ℕ → WatchLine
with_digits [] = line.Faulty AclUser
with_digits (d ∷ digits) = line.Says (DefaultUser (d ∷ digits))

abbrev pub hashed : List ℕ → WatchLine
hashed [] = line.Faulty AclUser
hashed (b ∷ digits) = elim (b == 35) as (λ _. WatchLine) [ true ↦ with_digits digits | false ↦ line.Faulty AclUser ]

-- the default user may have no password, or one of which the line has the hash
abbrev pub user_with : List ℕ → WatchLine
user_with rule = elim (is_rule rule (codes "nopass")) as (λ _. WatchLine) [ true ↦ line.Other | false ↦ hashed rule ]

abbrev pub user_by : Option (List ℕ) → (full : Bool) → WatchLine
user_by None full = line.Faulty AclUser
user_by (Some rule) full = elim full as (λ _. WatchLine) [ true ↦ user_with rule | false ↦ line.Faulty AclUser ]

abbrev pub default_user : List (List ℕ) → WatchLine
default_user rules = user_by (password_rule rules) (has_all_rights rules)

-- any other user is refused
abbrev pub user_line : List (List ℕ) → WatchLine
user_line [] = line.Faulty AclUser
user_line (name ∷ rules) = elim (same_bytes name (codes "default")) as (λ _. WatchLine) [ true ↦ default_user rules | false ↦ line.Faulty AclUser ]

-- the digits by which a Redis writes a password down; an empty one is none here, so no hash is its own
abbrev pub hash_of : List ℕ → List ℕ
hash_of [] = []
hash_of (b ∷ bs) = encode_lower (sha256 (b ∷ bs))
