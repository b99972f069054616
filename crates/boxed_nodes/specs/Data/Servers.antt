-- What a data node keeps, and what it says to what it takes.
use Rattle.std.specs.Prelude.{◌≡◌, ℕ, zero, suc, ◌+◌, ◌<◌, ◌^◌, Bool, true, false, ◌==◌, nat_lt, if◌then◌else◌, List, [], ◌∷◌, ◌++◌, Option, Some, None, codes}
use Rattle.ballot_law.specs.declared.addresses.Addr.{Addr}
use Rattle.ballot_law.specs.declared.addresses.RunId.{RunId}
use Rattle.ballot_law.specs.declared.events.Event.{Event}
use Rattle.ballot_law.specs.declared.events.Event.TheVariants.{Become, Handed}
use Rattle.ballot_law.specs.declared.messages.Body.{Body}
use Rattle.ballot_law.specs.declared.messages.Body.TheVariants.{Ping, PingText, InfoAsk, InfoText, HelloText, ReplicaOf, HandOver, RoleAsk, RoleText, Done}
use Rattle.ballot_law.specs.declared.messages.Heir.{Heir}
use Rattle.ballot_law.specs.declared.messages.NodeName.{NodeName}
use Rattle.ballot_law.specs.declared.messages.NodeName.TheVariants.{SentinelAt}
use Rattle.ballot_law.specs.declared.messages.Output.{Output}
use Rattle.ballot_law.specs.declared.messages.Output.TheVariants.{Send}
use Rattle.ballot_law.specs.declared.replies.DataRole.{DataRole}
use Rattle.ballot_law.specs.declared.replies.DataRole.TheVariants as data_role
use Rattle.ballot_law.specs.declared.replies.Hello.{Hello}
use Rattle.ballot_law.specs.declared.replies.Info.{Info}
use Rattle.ballot_law.specs.declared.replies.Role.{Role}
use Rattle.ballot_law.specs.declared.replies.Role.TheVariants as role
use Rattle.ballot_law.specs.Hellos.{IsAddr, IsRunId}
use Rattle.ballot_law.specs.Messages.{published}

-- what a data node keeps, also while it is stopped: its run id; the master that it follows, none where it is a master itself; its priority
-- and its replication offset; for how many seconds its link has been down, 0 where it is up
pub record Server : Type 0 where
  pub id : RunId
  pub follows : Option Addr
  pub priority : ℕ
  pub offset : ℕ
  pub link_down : ℕ

-- what is known of each server: all that it tells can be read
pub record IsServer (server : Server) : Type 0 where
  pub id : IsRunId server.id
  pub follows : (addr : Addr) → server.follows ≡ Some addr → IsAddr addr
  pub priority : server.priority < 2 ^ 63
  pub offset : server.offset < 2 ^ 63
  pub link_down : server.link_down < 2 ^ 63

-- the first state of the data node with this number: run ids are counted from 1
abbrev pub first_server : (number : ℕ) → Option Addr → Server
first_server number follows =
    record { id = record { hi = 0; lo = number + 1 }; follows = follows; priority = 100; offset = 0; link_down = 0 }

-- ---- what it keeps after a take

-- whom a node can follow: nobody, or a node that has a port
abbrev pub can_follow : Option Addr → Bool
can_follow None = true
can_follow (Some addr) = nat_lt 0 addr.port

-- an order to follow somebody who can't be followed changes nothing
abbrev pub obeyed : Option Addr → Server → Server
obeyed follows server = if can_follow follows then record server { follows = follows } else server

-- a master that hands over follows its heir
abbrev pub handed_to : Option Heir → Server → Server
handed_to None server = server
handed_to (Some heir) server = obeyed (Some heir.addr) server

abbrev pub ordered : Body → Server → Server
ordered (ReplicaOf follows) server = obeyed follows server
ordered (HandOver heir) server = handed_to heir server
ordered _ server = server

abbrev pub changed_by : Event → Server → Server
changed_by (Become priority offset link_down) server = record server { priority = priority; offset = offset; link_down = link_down }
changed_by (Handed message) server = ordered message.body server
changed_by _ server = server

-- ---- what it says

abbrev pub role_of : Option Addr → (offset : ℕ) → Role
role_of None offset = role.Master offset
role_of (Some addr) offset = role.Replica addr offset

abbrev pub data_role_of : Option Addr → DataRole
data_role_of None = data_role.Master
data_role_of (Some addr) = data_role.Replica

abbrev pub info_of : Server → Info
info_of server =
    record {
      id = Some server.id;
      role = data_role_of server.follows;
      master = server.follows;
      link_up = server.link_down == 0;
      link_down_s = server.link_down;
      priority = server.priority;
      offset = server.offset;
    }

abbrev pub pong : Body
pong = PingText false (codes "PONG")

-- an order that can't be followed gets no answer
abbrev pub answer_to_order : (is_followed : Bool) → Option Body
answer_to_order true = Some Done
answer_to_order false = None

-- who hands over tells the heir that it is a master
abbrev pub hand_over : Option Heir → Option Body
hand_over None = Some Done
hand_over (Some heir) = if can_follow (Some heir.addr) then Some (ReplicaOf None) else None

abbrev pub told_by : NodeName → Option Heir → NodeName
told_by sender None = sender
told_by sender (Some heir) = heir.node

-- who gets it
abbrev pub listener : NodeName → Body → NodeName
listener sender (HandOver heir) = told_by sender heir
listener sender _ = sender

-- the answer to a question or an order; none to anything else
abbrev pub reply : Server → Body → Option Body
reply server Ping = Some pong
reply server InfoAsk = Some (InfoText (info_of server))
reply server RoleAsk = Some (RoleText (role_of server.follows server.offset))
reply server (ReplicaOf follows) = answer_to_order (can_follow follows)
reply server (HandOver heir) = hand_over heir
reply server _ = None

abbrev pub send : (sender target : NodeName) → Body → Output
send sender target body = Send (record { sender = sender; target = target; body = body })

-- the hello to each of the first so many Sentinels
abbrev pub to_each : NodeName → Hello → (count : ℕ) → List Output
to_each name hello zero = []
to_each name hello (suc count) = to_each name hello count ++ send name (SentinelAt count) (HelloText hello) ∷ []

abbrev pub answered : (sender target : NodeName) → Option Body → List Output
answered sender target None = []
answered sender target (Some body) = send sender target body ∷ []

-- a published hello goes to every Sentinel, anything else is answered to its sender, but an order to hand over to the heir
abbrev pub said_to : NodeName → (sentinels : ℕ) → Server → (sender : NodeName) → Body → Option Hello → List Output
said_to name sentinels server sender body (Some hello) = to_each name hello sentinels
said_to name sentinels server sender body None = answered name (listener sender body) (reply server body)

-- what the data node with this name says in a take
abbrev pub said : NodeName → (sentinels : ℕ) → Server → Event → List Output
said name sentinels server (Handed message) = said_to name sentinels server message.sender message.body (published message.body)
said name sentinels server _ = []
