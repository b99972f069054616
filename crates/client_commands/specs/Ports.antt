-- What a port knows of itself and of its clients, as a session is told it.
use Rattle.std.specs.Prelude.{ℕ, ◌+◌, Bool, true, false, not, ◌||◌, ◌==◌, nat_lt, List, [], ◌∷◌}
use Rattle.client_commands.specs.declared.port_facts.Figures.{Figures}
use Rattle.client_commands.specs.declared.protocols.Protocol.{Protocol}

-- a client of a port: the number of its connection, whence it came and where to, its name, which protocol it speaks, when it came and when its last byte came, to how
-- many channels and patterns it listens, its place in the port, whether it is gone, and whether it has a seat that is kept for another Sentinel
pub record ClientEntry : Type 0 where
  pub id : ℕ
  pub address : List ℕ
  pub local : List ℕ
  pub name : List ℕ
  pub protocol : Protocol
  pub came : ℕ
  pub heard : ℕ
  pub channels : ℕ
  pub patterns : ℕ
  pub place : ℕ
  pub gone : Bool
  pub kept : Bool

-- what a port counts, its clients, and the places of those that are to be closed
pub record PortFacts : Type 0 where
  pub figures : Figures
  pub clients : List ClientEntry
  pub killed : List ℕ

-- the place is one of these
abbrev pub is_among : ℕ → List ℕ → Bool
is_among place [] = false
is_among place (one ∷ places) = elim (place == one) [ true ↦ true | false ↦ is_among place places ]

-- a client that is there and isn't to be closed
abbrev pub is_there : (killed : List ℕ) → ClientEntry → Bool
is_there killed entry = not (entry.gone || is_among entry.place killed)

-- it listens to a channel or a pattern
abbrev pub is_listener : ClientEntry → Bool
is_listener entry = nat_lt 0 (entry.channels + entry.patterns)

-- ---- of nobody

abbrev pub no_figures : Figures
no_figures =
    record {
      process = 0;
      run_id = record { hi = 0; lo = 0 };
      address = record { ip = 0; port = 0 };
      clock = 0;
      connected = 0;
      most = 0;
      received = 0;
      rejected = 0;
      commands = 0;
      user_time = 0;
      system_time = 0;
    }

abbrev pub no_port : PortFacts
no_port = record { figures = no_figures; clients = []; killed = [] }
