-- The bytes of a message on the wire: commands are arrays of bulk strings, replies are RESP2 values.
use Rattle.std.specs.Prelude.{◌≤◌, ℕ, pos, Bool, true, false, List, [], ◌∷◌, ◌++◌, codes, decimal, Option, Some, None}
use Rattle.ballot_law.specs.declared.addresses.Addr.{Addr}
use Rattle.ballot_law.specs.declared.addresses.RunId.{RunId}
use Rattle.ballot_law.specs.declared.cards.Shown.{Shown}
use Rattle.ballot_law.specs.declared.cards.TheConstants.{MAX_EPOCH}
use Rattle.ballot_law.specs.declared.messages.Body.{Body}
use Rattle.ballot_law.specs.declared.messages.Body.TheVariants.{Ask, Answer, Ping, PingText, InfoAsk, InfoText, Publish, HelloText, ReplicaOf, HandOver, AddressAsk, AddressAnswer, PortReply, RoleAsk, RoleText, Done}
use Rattle.ballot_law.specs.declared.messages.Heir.{Heir}
use Rattle.ballot_law.specs.declared.messages.Output.{Output}
use Rattle.ballot_law.specs.declared.messages.Output.TheVariants.{Send, Tell}
use Rattle.ballot_law.specs.declared.periods.TheConstants.{HAND_OVER_MS}
use Rattle.ballot_law.specs.Hellos.{hello_text, IsHello}
use Rattle.ballot_law.specs.Words.{ip_text}
use Rattle.node_texts.specs.Infos.{info_text, IsInfo}
use Rattle.node_texts.specs.Roles.{role_frame, IsRole}
use Rattle.resp2.specs.Commands.{bulks, ask_frame, candidate_text}
use Rattle.resp2.specs.Framing.Frame.{Frame, simple, fault, int, bulk, items, null_items, no_frames, frame, spelling, line_end, IsLine}

-- an array of bulk strings
abbrev pub words_frame : List (List ℕ) → Frame
words_frame words = items (bulks words)

abbrev pub down_number : Bool → ℕ
down_number true = 1
down_number false = 0

-- whether the master is down, the candidate voted for or `*`, and the epoch of that vote
abbrev pub answer_frame : Bool → Option RunId → ℕ → Frame
answer_frame down leader epoch =
    items (frame (int (pos (down_number down))) (frame (bulk (candidate_text leader)) (frame (int (pos epoch)) no_frames)))

-- the bytes of such an answer up to the candidate
abbrev pub answer_front : Bool → List ℕ
answer_front down = 42 ∷ ((decimal 3 ++ line_end) ++ spelling (int (pos (down_number down))))

abbrev pub ping_frame : Bool → List ℕ → Frame
ping_frame true text = fault text
ping_frame false text = simple text

-- the channel on which Sentinels publish their hellos
abbrev pub hello_channel : List ℕ
hello_channel = codes "__sentinel__:hello"

abbrev pub replica_of_frame : Option Addr → Frame
replica_of_frame None = words_frame (codes "REPLICAOF" ∷ codes "NO" ∷ codes "ONE" ∷ [])
replica_of_frame (Some addr) = words_frame (codes "REPLICAOF" ∷ ip_text addr.ip ∷ decimal addr.port ∷ [])

-- a master is to hand over to its replica at an address, or to stay the master
abbrev pub hand_over_frame : Option Heir → Frame
hand_over_frame None = words_frame (codes "FAILOVER" ∷ codes "ABORT" ∷ [])
hand_over_frame (Some heir) =
    words_frame (codes "FAILOVER" ∷ codes "TO" ∷ ip_text heir.addr.ip ∷ decimal heir.addr.port ∷ codes "TIMEOUT" ∷ decimal HAND_OVER_MS ∷ [])

-- the address of a configuration; the null array where no master has the name
abbrev pub address_frame : Option Shown → Frame
address_frame None = null_items
address_frame (Some shown) = words_frame (ip_text shown.card.addr.ip ∷ decimal shown.card.addr.port ∷ [])

-- the value that a message is; an answer of the port stands as its bytes already, and no value is asked for
abbrev pub body_frame : Body → Frame
body_frame (Ask master addr epoch candidate) = ask_frame addr epoch candidate
body_frame (Answer master addr down leader epoch) = answer_frame down leader epoch
body_frame Ping = words_frame (codes "PING" ∷ [])
body_frame (PingText is_error text) = ping_frame is_error text
body_frame InfoAsk = words_frame (codes "INFO" ∷ [])
body_frame (InfoText info) = bulk (info_text info)
body_frame (Publish hello) = words_frame (codes "PUBLISH" ∷ hello_channel ∷ hello_text hello ∷ [])
body_frame (HelloText hello) = words_frame (codes "message" ∷ hello_channel ∷ hello_text hello ∷ [])
body_frame (ReplicaOf addr) = replica_of_frame addr
body_frame (HandOver heir) = hand_over_frame heir
body_frame (AddressAsk name) = words_frame (codes "SENTINEL" ∷ codes "GET-MASTER-ADDR-BY-NAME" ∷ name ∷ [])
body_frame (AddressAnswer shown) = address_frame shown
body_frame (PortReply shown text) = bulk text
body_frame RoleAsk = words_frame (codes "ROLE" ∷ [])
body_frame (RoleText role) = role_frame role
body_frame Done = simple (codes "OK")

abbrev pub message_bytes : Body → List ℕ
message_bytes (PortReply shown text) = text
message_bytes body = spelling (body_frame body)

-- the messages that have a spelling: lines hold no CR or LF, hellos, INFO and ROLE texts can be read again, and an
-- epoch that is written as an integer is within the limit
abbrev pub IsWritable : Body → Type 0
IsWritable (Answer master addr down leader epoch) = epoch ≤ MAX_EPOCH
IsWritable (PingText is_error text) = IsLine text
IsWritable (InfoText info) = IsInfo info
IsWritable (Publish hello) = IsHello hello
IsWritable (HelloText hello) = IsHello hello
IsWritable (RoleText role) = IsRole role
IsWritable _ = Unit {0}

abbrev pub IsWritableOutput : Output → Type 0
IsWritableOutput (Send message) = IsWritable message.body
IsWritableOutput (Tell note) = Unit {0}
