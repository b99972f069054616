-- Who is said to be at which address.
use Rattle.std.specs.Prelude.{ℕ, ◌+◌, Bool, false, not, ◌&&◌, List, [], ◌∷◌, ◌++◌, map, Option, Some, None}
use Rattle.ballot_law.specs.Cuts.{lines}
use Rattle.ballot_law.specs.Orders.{same_addr, same_id, same_bytes}
use Rattle.ballot_law.specs.Words.{some_if}
use Rattle.ballot_law.specs.declared.addresses.Addr.{Addr}
use Rattle.conf_lines.specs.declared.lines.StateLine.TheVariants.{MyId, Monitor, KnownReplica, KnownSentinel}
use Rattle.conf_lines.specs.declared.lines.Line.{Line}
use Rattle.conf_lines.specs.declared.lines.Line.TheVariants.{State}
use Rattle.conf_lines.specs.Lines.{line_of}
use Rattle.sentinel_conf.specs.Meaning.{settings, own_addr, first_given}
use Rattle.conf_check.specs.declared.errors.claims.Owner.{Owner}
use Rattle.conf_check.specs.declared.errors.claims.Owner.TheVariants.{Sentinel, Master}
use Rattle.conf_check.specs.declared.errors.claims.Claim.{Claim}
use Rattle.conf_check.specs.declared.errors.collisions.Collision.{Collision}
use Rattle.conf_check.specs.declared.errors.collisions.Collision.TheVariants.{OneAddress, OneRunId}

abbrev pub claim : ℕ → Owner → Addr → List Claim
claim number owner addr = record { line = number; owner = owner; addr = addr } ∷ []

-- what a line says; the own Sentinel is at this address
abbrev pub claims_of : Addr → ℕ → Line → List Claim
claims_of own number (State (MyId id)) = claim number (Sentinel id) own
claims_of own number (State (Monitor name addr quorum)) = claim number (Master name) addr
claims_of own number (State (KnownReplica name addr)) = claim number (Master name) addr
claims_of own number (State (KnownSentinel name addr id)) = claim number (Sentinel id) addr
claims_of own number _ = []

abbrev pub claims_from : Addr → ℕ → List Line → List Claim
claims_from own number [] = []
claims_from own number (line ∷ lines) = claims_of own number line ++ claims_from own (number + 1) lines

-- what all lines of a file say, in order
abbrev pub claims : List ℕ → List Claim
claims bytes = claims_from (own_addr (settings (map line_of (lines bytes)))) 1 (map line_of (lines bytes))

abbrev pub same_owner : Owner → Owner → Bool
same_owner (Sentinel one) (Sentinel other) = same_id one other
same_owner (Master one) (Master other) = same_bytes one other
same_owner _ _ = false

-- the two are of one Sentinel
abbrev pub same_sentinel : Owner → Owner → Bool
same_sentinel (Sentinel one) (Sentinel other) = same_id one other
same_sentinel _ _ = false

-- the two have one address, though they are of two; or they are of one Sentinel, and have two addresses
abbrev pub collide : Collision → Claim → Claim → Bool
collide OneAddress one other = same_addr one.addr other.addr && not (same_owner one.owner other.owner)
collide OneRunId one other = same_sentinel one.owner other.owner && not (same_addr one.addr other.addr)

-- the first of these with which it collides
abbrev pub other_of : Collision → Claim → List Claim → Option Claim
other_of kind one others = first_given (λ other. some_if (collide kind one other) other) others

-- the first that collides with a later one, and the first such
abbrev pub first_pair : Collision → List Claim → Option (Claim × Claim)
first_pair kind [] = None
first_pair kind (one ∷ others) =
    elim (other_of kind one others) as (λ _. Option (Claim × Claim)) [ Some other ↦ Some (one, other) | None ↦ first_pair kind others ]
