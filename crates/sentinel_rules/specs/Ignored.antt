-- Inputs that a Sentinel takes no notice of.
use Rattle.std.specs.Prelude.{◌≡◌, ℕ, Bool, true, false, not, ◌&&◌, ◌==◌, nat_lt, is_some, [], Result, Ok, Err, if◌then◌else◌}
use Rattle.ballot_law.specs.declared.events.Event.{Event}
use Rattle.ballot_law.specs.declared.events.Event.TheVariants.{Tick, Command as Commanded, Answered as AnswerCame, Pinged, InfoRead, HelloRead, Disconnected, Refused, Become, Handed}
use Rattle.ballot_law.specs.declared.messages.NodeName.{NodeName}
use Rattle.ballot_law.specs.declared.messages.NodeName.TheVariants.{SentinelAt, StoreAt, ClientAt, PortAt}
use Rattle.ballot_law.specs.declared.replies.Hello.{Hello}
use Rattle.ballot_law.specs.declared.replies.Info.{Info}
use Rattle.ballot_law.specs.Rosters.{master_named}
use Rattle.node_texts.specs.declared.faults.TextFault.{TextFault}
use Rattle.node_texts.specs.Hellos.{hello_of}
use Rattle.node_texts.specs.Infos.{info_of}
use Rattle.sentinel_rules.specs.Plans.{Plan, roster_of, group_size, master_count, node_named}
use Rattle.sentinel_rules.specs.States.{Core}
use Rattle.sentinel_rules.specs.News.{is_heeded}
use Rattle.sentinel_rules.specs.Profiles.{is_redis}
use Rattle.sentinel_rules.specs.Takes.{next, cleared}

-- another Sentinel of the roster
abbrev pub is_other : Plan → NodeName → Bool
is_other plan (SentinelAt place) = nat_lt place (group_size plan) && not (place == plan.place)
is_other plan (StoreAt number) = false
is_other plan (ClientAt number) = false
is_other plan (PortAt number) = false

-- a data node of the roster
abbrev pub is_data_node : Plan → NodeName → Bool
is_data_node plan node = is_some (node_named plan node)

-- another Sentinel, or a data node
abbrev pub is_peer_or_node : Plan → NodeName → Bool
is_peer_or_node plan node = if is_other plan node then true else is_data_node plan node

-- its bytes are those of a hello, from another Sentinel of the roster and about one of its masters
abbrev pub is_hello_heeded : Plan → Result Hello TextFault → Bool
is_hello_heeded plan (Err fault) = false
is_hello_heeded plan (Ok hello) = is_heeded plan hello && is_some (master_named (roster_of plan) hello.master)

-- its bytes are those of an INFO, from a data node of the roster
abbrev pub is_info_heeded : Plan → NodeName → Result Info TextFault → Bool
is_info_heeded plan node (Err fault) = false
is_info_heeded plan node (Ok info) = is_data_node plan node

-- each tick has its reading of the clock looked at, each command is answered; what is meant for data nodes and clients is ignored
abbrev pub is_noticed : Plan → Event → Bool
is_noticed plan (Tick m random) = true
is_noticed plan (Commanded sender command) = true
is_noticed plan (AnswerCame voter m addr down leader epoch) = is_other plan voter && nat_lt m (master_count plan)
is_noticed plan (Pinged node reply) = is_peer_or_node plan node
is_noticed plan (InfoRead node text) = is_info_heeded plan node (info_of text)
is_noticed plan (HelloRead text) = is_hello_heeded plan (hello_of text)
is_noticed plan (Disconnected node) = is_redis plan.profile && is_peer_or_node plan node
is_noticed plan (Refused node) = is_redis plan.profile && is_data_node plan node
is_noticed plan (Become priority offset link_down) = false
is_noticed plan (Handed message) = false

-- then all that is kept stays, and nothing is put out; an election of the input before is over
abbrev pub IgnoredChangesNothing : Type 0
IgnoredChangesNothing =
    (plan : Plan) (core : Core) (now : ℕ) (event : Event) →
    is_noticed plan event ≡ false →
    next plan core now event ≡ record { core = cleared core; outputs = [] }
