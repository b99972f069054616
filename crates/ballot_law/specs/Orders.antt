-- The orders of addresses, run ids and texts, and when two of a kind are the same.
use Rattle.std.specs.Prelude.{ℕ, Bool, true, false, ◌||◌, ◌&&◌, ◌==◌, nat_lt, List, [], ◌∷◌}
use Rattle.ballot_law.specs.declared.addresses.Addr.{Addr}
use Rattle.ballot_law.specs.declared.addresses.RunId.{RunId}

abbrev pub same_addr : Addr → Addr → Bool
same_addr a b = (a.ip == b.ip) && (a.port == b.port)

abbrev pub same_id : RunId → RunId → Bool
same_id a b = (a.hi == b.hi) && (a.lo == b.lo)

abbrev pub same_bytes : List ℕ → List ℕ → Bool
same_bytes [] [] = true
same_bytes [] (y ∷ ys) = false
same_bytes (x ∷ xs) [] = false
same_bytes (x ∷ xs) (y ∷ ys) = (x == y) && same_bytes xs ys

abbrev pub addr_before : Addr → Addr → Bool
addr_before a b = nat_lt a.ip b.ip || ((a.ip == b.ip) && nat_lt a.port b.port)

abbrev pub id_before : RunId → RunId → Bool
id_before a b = nat_lt a.hi b.hi || ((a.hi == b.hi) && nat_lt a.lo b.lo)

-- the order of bytes, a text before what goes on from it
abbrev pub bytes_before : List ℕ → List ℕ → Bool
bytes_before [] [] = false
bytes_before [] (y ∷ ys) = true
bytes_before (x ∷ xs) [] = false
bytes_before (x ∷ xs) (y ∷ ys) = nat_lt x y || ((x == y) && bytes_before xs ys)
