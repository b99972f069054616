-- What comes of the inputs of a client, and what it says.
use Rattle.std.specs.Prelude.{ℕ, Bool, true, false, if◌then◌else◌, List, [], ◌∷◌, map, Option, Some, None, slice_get, position, nat_lt}
use Rattle.std.specs.List.{flat_map}
use Rattle.std.specs.Option.{option_map}
use Rattle.ballot_law.specs.declared.addresses.Addr.{Addr}
use Rattle.ballot_law.specs.declared.cards.Shown.{Shown}
use Rattle.ballot_law.specs.declared.events.Event.{Event}
use Rattle.ballot_law.specs.declared.events.Event.TheVariants.{Tick, Handed}
use Rattle.ballot_law.specs.declared.messages.Body.{Body}
use Rattle.ballot_law.specs.declared.messages.Body.TheVariants.{AddressAsk, AddressAnswer, RoleAsk, RoleText}
use Rattle.ballot_law.specs.declared.messages.NodeName.{NodeName}
use Rattle.ballot_law.specs.declared.messages.NodeName.TheVariants.{SentinelAt, StoreAt}
use Rattle.ballot_law.specs.declared.messages.Output.{Output}
use Rattle.ballot_law.specs.declared.messages.Output.TheVariants.{Send}
use Rattle.ballot_law.specs.declared.replies.Role.{Role}
use Rattle.ballot_law.specs.declared.replies.Role.TheVariants as role
use Rattle.ballot_law.specs.Orders.{same_addr}
use Rattle.ballot_law.specs.Rosters.{Roster}
use Rattle.client_queries.specs.declared.moves.Move.{Move}
use Rattle.client_queries.specs.declared.moves.Move.TheVariants.{Ask, CheckRole}
use Rattle.client_queries.specs.Queries.{Query, Outcome, Answered, Connected, Failed, RoleWas, Waited, after}

-- the query, and whether a question was sent that has no answer yet
pub record Search : Type 0 where
  pub query : Query
  pub outstanding : Bool

-- ---- what comes of an input

-- the query after this outcome, where it can come of its move; nothing is outstanding then
abbrev pub settled : Search → Option Query → Search
settled search None = search
settled search (Some query) = record { query = query; outstanding = false }

abbrev pub told : Outcome → Search → Search
told outcome search = settled search (after outcome search.query)

-- the moves that send a question
abbrev pub is_question : Move → Bool
is_question (Ask place) = true
is_question (CheckRole addr) = true
is_question move = false

-- a client that waits has waited; any other sends its question, if its move has one
abbrev pub waited_or_asked : Search → Option Query → Search
waited_or_asked search None = record search { outstanding = is_question search.query.next }
waited_or_asked search (Some query) = record { query = query; outstanding = false }

-- an answer that is outstanding at a tick has failed
abbrev pub ticked : Search → Search
ticked search = if search.outstanding then told Failed search else waited_or_asked search (after Waited search.query)

abbrev pub addr_shown : Option Shown → Option Addr
addr_shown shown = option_map (λ s. s.card.addr) shown

abbrev pub is_master : Role → Bool
is_master (role.Master offset) = true
is_master (role.Replica addr offset) = false

-- an answer that fits the move, from whichever node; connecting to an address succeeds at once
abbrev pub heard : Body → Search → Search
heard (AddressAnswer shown) search = told Connected (told (Answered (addr_shown shown)) search)
heard (RoleText role) search = told (RoleWas (is_master role)) search
heard body search = search

abbrev pub after_event : Event → Search → Search
after_event (Tick master random) search = ticked search
after_event (Handed message) search = heard message.body search
after_event event search = search

-- ---- what it says

-- the addresses of all Sentinels, and of all data nodes, master by master
abbrev pub sentinel_addrs : Roster → List Addr
sentinel_addrs roster = map (λ member. member.addr) roster.sentinels

abbrev pub store_addrs : Roster → List Addr
store_addrs roster = flat_map (λ master. master.nodes) roster.masters

-- the nodes at these addresses, and the name of the master that is searched for
pub record Group : Type 0 where
  pub sentinels : List Addr
  pub stores : List Addr
  pub master : List ℕ

-- the place of an address in a list; a name has 16 bits for it
abbrev pub nameable : Option ℕ → Option ℕ
nameable None = None
nameable (Some place) = if nat_lt 65535 place then None else Some place

abbrev pub place_of : Addr → List Addr → Option ℕ
place_of addr addrs = nameable (position (same_addr addr) addrs)

-- the node at an address
abbrev pub sentinel_with : Group → Addr → Option NodeName
sentinel_with group addr = option_map SentinelAt (place_of addr group.sentinels)

abbrev pub store_with : Group → Addr → Option NodeName
store_with group addr = option_map StoreAt (place_of addr group.stores)

-- to whom a move sends its question: none where no node is at the address
abbrev pub sentinel_asked : Group → Option Addr → Option NodeName
sentinel_asked group None = None
sentinel_asked group (Some addr) = sentinel_with group addr

abbrev pub sent_to : (sender : NodeName) → Option NodeName → Body → List Output
sent_to sender None body = []
sent_to sender (Some target) body = Send (record { sender = sender; target = target; body = body }) ∷ []

-- the question of a move
abbrev pub question : Group → NodeName → List Addr → Move → List Output
question group name list (Ask place) = sent_to name (sentinel_asked group (slice_get list place)) (AddressAsk group.master)
question group name list (CheckRole addr) = sent_to name (store_with group addr) RoleAsk
question group name list move = []

-- what the client with this name says in a take: its move's question at a tick, if none is outstanding
abbrev pub said : Group → NodeName → Search → Event → List Output
said group name search (Tick master random) = if search.outstanding then [] else question group name search.query.sentinels search.query.next
said group name search event = []
