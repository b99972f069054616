-- Whom a port lets in, on which seat, and who has to go for whom.
--
-- A port has seats that are for anybody, of which there may be a limit, and seats that are kept for the connections of single ips alone. A connection is *kept* on a seat of its
-- own ip while one of these is free, and else on one that is for anybody. It is *refused* where it comes from another machine and those of this machine alone are let in, and where
-- all seats that are for anybody are taken and nobody has to go. *Has to go* who has a seat that is for anybody: first who owes the port's password, for longest; then who has been
-- silent for longest, listens to nothing and has nothing to do: of an ip from which many came, which are at least half as many as came from any other, and else of all.
use Rattle.std.specs.Prelude.{◌≡◌, ◌⊎◌, ◌-◌, ◌*◌, ℕ, Bool, true, false, not, ◌&&◌, nat_le, nat_lt, List, [], ◌∷◌, Option, None, Some}
use Rattle.std.specs.Ordering.{nat_cmp}
use Rattle.std.specs.BTreeMap.{BTreeMap, get}
use Rattle.courteous_sessions.specs.Clients.{listens_of, owes_password, unsent_of, wanting_password}
use Rattle.courteous_sessions.specs.declared.client_session.ClientSession.{ClientSession}
use Rattle.client_port.specs.declared.admission.Admitted.{Admitted}
use Rattle.client_port.specs.declared.admission.Admitted.TheVariants.{Kept, OnOwnSeat, MakesRoom, Denied, TooMany}
use Rattle.client_port.specs.declared.seats.Place.{Place}
use Rattle.client_port.specs.declared.seats.Place.TheVariants.{Common, Own}
use Rattle.client_port.specs.declared.standing.Standing.{Standing}
use Rattle.client_port.specs.declared.connection.TheConstants.{STUCK_MS}

-- the port has as many connections as it may have, where it is told how many
abbrev pub is_full : (limit : Option ℕ) → (count : ℕ) → Bool
is_full None count = false
is_full (Some most) count = nat_le most count

-- what becomes of a connection that came, at a port where `count` have seats that are for anybody; `has_own` is whether a seat that is kept for its ip is free
abbrev pub arrival_of : (limit : Option ℕ) → (near_only is_near has_own : Bool) → (count : ℕ) → Admitted
arrival_of limit near_only is_near has_own count =
    elim (near_only && not is_near) [
      | true ↦ elim (is_full limit count) [ true ↦ TooMany | false ↦ Denied ]
      | false ↦ elim has_own [ true ↦ OnOwnSeat | false ↦ elim (is_full limit count) [ true ↦ MakesRoom | false ↦ Kept ] ]
    ]

-- the seat that a connection takes: one of its own, of which some have this number, or one that is for anybody
abbrev pub place_of : (own : Option ℕ) → Place
place_of None = Common
place_of (Some number) = Own number

-- the seat is kept for the connection's ip
abbrev pub has_own_seat : Place → Bool
has_own_seat Common = false
has_own_seat (Own number) = true

-- it has a seat that is for anybody, listens to nothing, and has nothing unsent and nothing to do
abbrev pub may_go : Standing → Bool
may_go s = not s.has_own_seat && (not s.listens && not s.works)

-- it has such a seat, and owes the password: it goes before anybody who was let in
abbrev pub goes_first : Standing → Bool
goes_first s = not s.has_own_seat && s.owes

-- what it was told is unsent since then, for long
abbrev pub is_stuck : (since : Option ℕ) → (now : ℕ) → Bool
is_stuck None now = false
is_stuck (Some since) now = nat_le STUCK_MS (now - since)

-- how many connections came from an ip, where these counts of ips are kept
abbrev pub count_of : BTreeMap ℕ ℕ → (ip : ℕ) → ℕ
count_of counts ip = elim (get nat_cmp counts ip) [ Some count ↦ count | None ↦ 0 ]

-- a connection may be closed for a further one: it has a seat that is for anybody, and its client owes the password, or listens to nothing and leaves nothing unsent
abbrev pub MakesWay : Place → ClientSession → Type 0
MakesWay place session = (has_own_seat place ≡ false) × ((owes_password session ≡ true) ⊎ ((listens_of session ≡ false) × (unsent_of session ≡ [])))

-- it listens to nothing, and no byte came of it for so long; where that is 0, none is ever closed for it
abbrev pub is_idle : Standing → (idle_ms now : ℕ) → Bool
is_idle s idle_ms now = nat_lt 0 idle_ms && (not s.listens && nat_le idle_ms (now - s.heard))

-- nine tenths of the seats that are for anybody are taken
abbrev pub is_crowded : (count limit : ℕ) → Bool
is_crowded count limit = nat_le (9 * limit) (10 * count)

-- a session of the port: it wants the port's password of its client, where there is one
abbrev pub admitting : (password : List ℕ) → ClientSession → ClientSession
admitting [] session = session
admitting (b ∷ bs) session = wanting_password session (b ∷ bs)
