-- Which replica a line of an INFO of a master lists.
use Rattle.std.specs.Prelude.{ℕ, Bool, true, false, List, [], ◌∷◌, Option, Some, None, codes}
use Rattle.ballot_law.specs.Cuts.{cut_at}
use Rattle.ballot_law.specs.Words.{are_digits, address}
use Rattle.ballot_law.specs.declared.addresses.Addr.{Addr}
use Rattle.node_texts.specs.Infos.{after_label}

-- the first of some parts
abbrev pub first_of : List (List ℕ) → List ℕ
first_of [] = []
first_of (part ∷ parts) = part

-- the ip behind a number, where that is one
abbrev pub ip_if : Bool → List ℕ → Option (List ℕ)
ip_if true part = after_label (codes "ip=") part
ip_if false part = None

-- the ip in what stands behind `slave`: around its first colon are a number and the ip
abbrev pub ip_around : List (List ℕ) → Option (List ℕ)
ip_around [] = None
ip_around (number ∷ parts) = ip_if (are_digits number) (first_of parts)

abbrev pub ip_behind : Option (List ℕ) → Option (List ℕ)
ip_behind None = None
ip_behind (Some text) = ip_around (cut_at 58 text)

abbrev pub listed_at : (ip port : Option (List ℕ)) → Option Addr
listed_at None port = None
listed_at (Some ip) None = None
listed_at (Some ip) (Some port) = address ip port

-- the address in the parts around the commas of a line
abbrev pub listed_in : List (List ℕ) → Option Addr
listed_in [] = None
listed_in (part ∷ parts) = listed_at (ip_behind (after_label (codes "slave") part)) (after_label (codes "port=") (first_of parts))

-- the address in a line that lists a replica, as `slave0:ip=10.0.0.4,port=6379,state=online,offset=70,lag=0`; none in any other line, and none where the replica
-- tells the name of a host
abbrev pub replica_in : List ℕ → Option Addr
replica_in line = listed_in (cut_at 44 line)
