-- The lines of CLIENT LIST and CLIENT INFO.
use Rattle.std.specs.Prelude.{ℕ, ◌-◌, ◌/◌, ◌==◌, Bool, true, false, List, [], ◌∷◌, ◌++◌, codes, decimal}
use Rattle.client_commands.specs.declared.protocols.Protocol.{Protocol}
use Rattle.client_commands.specs.Protocols.{version}
use Rattle.client_commands.specs.Ports.{ClientEntry, PortFacts, is_listener}
use Rattle.client_commands.specs.Choosing.{Wanted, is_chosen}

-- a label and its text
unfoldable pub labelled : (label text : List ℕ) → List ℕ
labelled label text = label ++ text

-- who is told of himself what he knows by now, and of another one what his port knows
abbrev pub own_or : (own : Bool) → (mine other : List ℕ) → List ℕ
own_or true mine other = mine
own_or false mine other = other

abbrev pub own_protocol : (own : Bool) → (mine other : Protocol) → Protocol
own_protocol true mine other = mine
own_protocol false mine other = other

-- who it is
unfoldable pub who : (name : List ℕ) → ClientEntry → List ℕ
who name entry =
    labelled (codes "id=") (decimal entry.id)
    ++ (labelled (codes " addr=") entry.address ++ (labelled (codes " laddr=") entry.local ++ (codes " fd=-1" ++ labelled (codes " name=") name)))

-- for how many seconds it is there, and since how many nothing came
unfoldable pub since_when : (now : ℕ) → ClientEntry → List ℕ
since_when now entry =
    labelled (codes " age=") (decimal ((now - entry.came) / 1000)) ++ labelled (codes " idle=") (decimal ((now - entry.heard) / 1000))

abbrev pub flags : (listens : Bool) → List ℕ
flags true = codes " flags=P db=0"
flags false = codes " flags=N db=0"

-- to what it listens
unfoldable pub to_what : ClientEntry → List ℕ
to_what entry =
    flags (is_listener entry) ++ (labelled (codes " sub=") (decimal entry.channels) ++ (labelled (codes " psub=") (decimal entry.patterns) ++ codes " ssub=0"))

-- what a port here doesn't count, the last command, and which protocol it speaks
unfoldable pub uncounted : (last : List ℕ) → (speaks : Protocol) → List ℕ
uncounted last speaks =
    codes " multi=-1 qbuf=0 qbuf-free=0 argv-mem=0 multi-mem=0 rbs=0 rbp=0 obl=0 oll=0 omem=0 tot-mem=0 events=r"
    ++ (labelled (codes " cmd=") last ++ (codes " user=default redir=-1" ++ (labelled (codes " resp=") (decimal (version speaks)) ++ (10 ∷ []))))

-- the line of a client, where the connection with this number, this name and this protocol asks by this command
abbrev pub client_line : (id : ℕ) → (name : List ℕ) → (speaks : Protocol) → (last : List ℕ) → (now : ℕ) → ClientEntry → List ℕ
client_line id name speaks last now entry =
    who (own_or (id == entry.id) name entry.name) entry
    ++ (since_when now entry
    ++ (to_what entry ++ uncounted (own_or (id == entry.id) last (codes "NULL")) (own_protocol (id == entry.id) speaks entry.protocol)))

-- those of the clients that are wanted
abbrev pub client_lines : (id : ℕ) → (name : List ℕ) → (speaks : Protocol) → (last : List ℕ) → PortFacts → Wanted → List ClientEntry → List ℕ
client_lines id name speaks last port wanted [] = []
client_lines id name speaks last port wanted (entry ∷ entries) =
    elim (is_chosen id port.killed wanted entry) [
      | true ↦ client_line id name speaks last port.figures.clock entry ++ client_lines id name speaks last port wanted entries
      | false ↦ client_lines id name speaks last port wanted entries
    ]
