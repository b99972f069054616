-- Worked examples: what one Sentinel does with given inputs, one after another. The definitions themselves compute each.
use Rattle.std.specs.Prelude.{◌≡◌, ℕ, zero, suc, ◌+◌, ◌*◌, Bool, true, false, nat_le, Option, Some, None, List, [], ◌∷◌, ◌++◌, map, filter, codes, decimal, Err}
use Rattle.ballot_law.specs.declared.addresses.Addr.{Addr}
use Rattle.ballot_law.specs.declared.addresses.RunId.{RunId}
use Rattle.ballot_law.specs.declared.cards.Card.{Card}
use Rattle.ballot_law.specs.declared.cards.Kept.{Kept}
use Rattle.ballot_law.specs.declared.cards.TheConstants.{MAX_EPOCH}
use Rattle.ballot_law.specs.declared.commands.Command.{Command}
use Rattle.ballot_law.specs.declared.commands.Command.TheVariants.{Ping as PingCommand, IsMasterDownByAddr, GetMasterAddrByName, MyId, CkQuorum, Failover as FailoverCommand, FlushConfig, Info as InfoCommand}
use Rattle.ballot_law.specs.declared.events.Event.{Event}
use Rattle.ballot_law.specs.declared.events.Event.TheVariants.{Tick, Command as Commanded, Answered, Pinged, InfoRead, HelloRead, Refused}
use Rattle.ballot_law.specs.declared.messages.Body.{Body}
use Rattle.ballot_law.specs.declared.messages.Body.TheVariants.{Ask, Answer, Ping, PingText, InfoAsk, Publish, ReplicaOf, HandOver, AddressAnswer, PortReply}
use Rattle.ballot_law.specs.declared.messages.NodeName.{NodeName}
use Rattle.ballot_law.specs.declared.messages.NodeName.TheVariants.{SentinelAt, StoreAt, PortAt}
use Rattle.ballot_law.specs.declared.messages.Output.{Output}
use Rattle.ballot_law.specs.declared.messages.Output.TheVariants.{Send, Tell}
use Rattle.ballot_law.specs.declared.replies.Hello.{Hello}
use Rattle.ballot_law.specs.declared.replies.PingReply.TheVariants.{Pong}
use Rattle.ballot_law.specs.declared.rosters.Member.{Member}
use Rattle.ballot_law.specs.declared.replies.DataRole.TheVariants.{Master, Replica}
use Rattle.ballot_law.specs.Hellos.{hello_text}
use Rattle.ballot_law.specs.Rosters.{need}
use Rattle.ballot_law.specs.VotesHeard.{own_votes}
use Rattle.failover_states.specs.declared.states.Choice.{Choice}
use Rattle.failover_states.specs.declared.states.FailoverState.{FailoverState}
use Rattle.failover_states.specs.declared.states.FailoverState.TheVariants.{Idle, WaitStart, SelectReplica, SendPromotion, WaitPromotion, ReconfReplicas, UpdateConfig}
use Rattle.node_texts.specs.declared.faults.TextFault.TheVariants.{FieldCount, EpochTooLarge}
use Rattle.node_texts.specs.Hellos.{hello_of}
use Rattle.port_answers.specs.declared.known_rows.FailoverStage.TheVariants.{WaitStart as StageWaitStart}
use Rattle.port_answers.specs.declared.rows.ReplicaRow.{ReplicaRow}
use Rattle.port_answers.specs.declared.rows.SentinelRow.{SentinelRow}
use Rattle.sentinel_conf.specs.declared.settings.Settings.{Settings}
use Rattle.sentinel_conf.specs.declared.settings.TheConstants.{DEFAULT_SETTINGS}
use Rattle.sentinel_rules.specs.declared.profiles.Profile.TheVariants.{Strict, Redis}
use Rattle.sentinel_rules.specs.Plans.{Plan, roster_of}
use Rattle.sentinel_rules.specs.States.{Core, opened, master_of, node_of, failover_of, is_wished}
use Rattle.sentinel_rules.specs.Votes.{book_of}
use Rattle.sentinel_rules.specs.Ticks.{count_of}
use Rattle.sentinel_rules.specs.Answers.{master_row, replica_rows, sentinel_rows, usable_count}
use Rattle.sentinel_rules.specs.Takes.{next}

-- The nodes

-- a run id of 40 times the same digit
abbrev pub id_of_digit : (digit : ℕ) → RunId
id_of_digit digit = record { hi = digit * 22685491128062564230891640495451214097; lo = digit * 286331153 }

abbrev pub id_a : RunId
id_a = id_of_digit 10

abbrev pub id_b : RunId
id_b = id_of_digit 11

abbrev pub id_c : RunId
id_c = id_of_digit 12

-- a port of 127.0.0.1
abbrev pub local : (port : ℕ) → Addr
local port = record { ip = 2130706433; port = port }

abbrev pub mymaster : List ℕ
mymaster = codes "mymaster"

-- the Sentinels with these digits, at the ports from this one on
abbrev pub members_from : (port : ℕ) → (digits : List ℕ) → List Member
members_from port [] = []
members_from port (digit ∷ digits) = record { id = id_of_digit digit; addr = local port } ∷ members_from (port + 1) digits

abbrev pub kept_with : (current : ℕ) → Card → (voted : ℕ) → (candidate : Option RunId) → Kept
kept_with current card voted candidate =
    record { current = current; masters = record { card = card; voted = voted; candidate = candidate } ∷ [] }

-- a file of this epoch, in which nobody was voted for and the master is at port 6379
abbrev pub kept_at_epoch : (current : ℕ) → Kept
kept_at_epoch current = kept_with current (record { epoch = 0; addr = local 6379 }) 0 None

-- the first of these Sentinels watches one master with these nodes, at quorum 2
abbrev pub plan_of : (digit : ℕ) → (others ports : List ℕ) → Settings → Kept → Plan
plan_of digit others ports settings kept =
    record {
      conf =
          record {
            kept_lines = [];
            roster =
                record {
                  sentinels = members_from 26379 (digit ∷ others);
                  masters = record { name = mymaster; nodes = map local ports; quorum = 2 } ∷ [];
                };
            id = id_of_digit digit;
            port = 26379;
            settings = settings ∷ [];
            kept = kept;
          };
      place = 0;
      profile = Strict;
      reboots = [];
    }

-- four Sentinels and a master without replicas, as without a file
abbrev pub default_plan : Kept → Plan
default_plan kept = plan_of 0 (10 ∷ 11 ∷ 12 ∷ []) (6379 ∷ []) DEFAULT_SETTINGS kept

-- three Sentinels, a master and two replicas, down after 5 seconds
abbrev pub group_plan : Kept → Plan
group_plan kept = plan_of 10 (11 ∷ 12 ∷ []) (6379 ∷ 6380 ∷ 6381 ∷ []) (record DEFAULT_SETTINGS { after_ms = 5000 }) kept

-- the same with five Sentinels
abbrev pub five_plan : Kept → Plan
five_plan kept = plan_of 10 (11 ∷ 12 ∷ 13 ∷ 14 ∷ []) (6379 ∷ 6380 ∷ 6381 ∷ []) (record DEFAULT_SETTINGS { after_ms = 5000 }) kept

-- Inputs, each with its reading of the clock

abbrev pub tick_at : (now : ℕ) → ℕ × Event
tick_at now = (now, Tick 0 0)

-- so many ticks, one each second, from this reading on
abbrev pub ticks_from : (now count : ℕ) → List (ℕ × Event)
ticks_from now zero = []
ticks_from now (suc count) = tick_at now ∷ ticks_from (now + 1000) count

-- a client's command
abbrev pub command_at : (now : ℕ) → Command → ℕ × Event
command_at now command = (now, Commanded (PortAt 0) command)

abbrev pub ask_at : (now port epoch : ℕ) → Option RunId → ℕ × Event
ask_at now port epoch candidate = command_at now (IsMasterDownByAddr (local port) epoch candidate)

abbrev pub address_ask_at : (now : ℕ) → ℕ × Event
address_ask_at now = command_at now (GetMasterAddrByName (Some mymaster))

-- another Sentinel says that the master is down, and whom it voted for
abbrev pub answer_at : (now voter : ℕ) → Option RunId → (epoch : ℕ) → ℕ × Event
answer_at now voter leader epoch = (now, Answered (SentinelAt voter) 0 (local 6379) true leader epoch)

abbrev pub pong_at : (now number : ℕ) → ℕ × Event
pong_at now number = (now, Pinged (StoreAt number) Pong)

-- the four nodes from number 1 on
abbrev pub pongs_at : (now : ℕ) → List (ℕ × Event)
pongs_at now = pong_at now 1 ∷ pong_at now 2 ∷ pong_at now 3 ∷ pong_at now 4 ∷ []

abbrev pub line : List ℕ → List ℕ
line text = text ++ 13 ∷ 10 ∷ []

-- the INFO of a replica of the master at this port, whose link is up
abbrev pub replica_at : (now number port offset : ℕ) → ℕ × Event
replica_at now number port offset = (
  now,
  InfoRead
      (StoreAt number)
      (line (codes "role:slave")
      ++ (line (codes "master_host:127.0.0.1")
      ++ (line (codes "master_port:" ++ decimal port)
      ++ (line (codes "master_link_status:up") ++ line (codes "slave_repl_offset:" ++ decimal offset))))),
)

abbrev pub master_at : (now number : ℕ) → ℕ × Event
master_at now number = (now, InfoRead (StoreAt number) (line (codes "role:master")))

-- a hello of the second Sentinel, with its current epoch, and the port and the epoch of its configuration
abbrev pub hello_at : (now current port epoch : ℕ) → ℕ × Event
hello_at now current port epoch = (
  now,
  HelloRead
      (codes "127.0.0.1,26380,bbbbbbbbbbbbbbbbbbbbbbbbbbbbbbbbbbbbbbbb,"
      ++ (decimal current ++ (codes ",mymaster,127.0.0.1," ++ (decimal port ++ (codes "," ++ decimal epoch))))),
)

-- Runs

-- the core after the inputs
abbrev pub core_after : Plan → Core → List (ℕ × Event) → Core
core_after plan core [] = core
core_after plan core (input ∷ inputs) = core_after plan (next plan core input.0 input.1).core inputs

-- what each input puts out
abbrev pub all_outputs : Plan → Core → List (ℕ × Event) → List (List Output)
all_outputs plan core [] = []
all_outputs plan core (input ∷ inputs) =
    let after = next plan core input.0 input.1 in after.outputs ∷ all_outputs plan after.core inputs

-- from the start on
abbrev pub outputs_of : Plan → List (ℕ × Event) → List (List Output)
outputs_of plan inputs = all_outputs plan (opened plan 0) inputs

abbrev pub core_of : Plan → List (ℕ × Event) → Core
core_of plan inputs = core_after plan (opened plan 0) inputs

-- neither PING nor INFO nor a hello
abbrev pub is_rare_body : Body → Bool
is_rare_body Ping = false
is_rare_body InfoAsk = false
is_rare_body (Publish hello) = false
is_rare_body _ = true

abbrev pub is_rare : Output → Bool
is_rare (Send message) = is_rare_body message.body
is_rare (Tell note) = true

-- without what is sent all the time
abbrev pub rare_of : List (List Output) → List (List Output)
rare_of outputs = map (filter is_rare) outputs

-- with its reading, where there is any
abbrev pub with_any : (now : ℕ) → List Output → List (ℕ × List Output) → List (ℕ × List Output)
with_any now [] later = later
with_any now (output ∷ outputs) later = (now, output ∷ outputs) ∷ later

-- from a core on, the readings of the inputs that put out more than what is sent all the time, and what they put out
abbrev pub rare_from : Plan → Core → List (ℕ × Event) → List (ℕ × List Output)
rare_from plan core [] = []
rare_from plan core (input ∷ inputs) =
    let after = next plan core input.0 input.1 in with_any input.0 (filter is_rare after.outputs) (rare_from plan after.core inputs)

-- Outputs

abbrev pub sent : NodeName → Body → Output
sent target body = Send (record { sender = SentinelAt 0; target = target; body = body })

-- the answer to a client's command
abbrev pub answer : Body → List Output
answer body = sent (PortAt 0) body ∷ []

abbrev pub vote_answer : (leader : Option RunId) → (epoch : ℕ) → List Output
vote_answer leader epoch = answer (Answer 0 (local 6379) false leader epoch)

abbrev pub address_answer : Card → List Output
address_answer card = answer (AddressAnswer (Some (record { master = 0; card = card })))

-- the bytes of an answer that shows no configuration
abbrev pub text_answer : List ℕ → List Output
text_answer text = answer (PortReply [] (line text))

-- to the second and the third Sentinel
abbrev pub asks : (epoch : ℕ) → Option RunId → List Output
asks epoch candidate =
    sent (SentinelAt 1) (Ask 0 (local 6379) epoch candidate) ∷ sent (SentinelAt 2) (Ask 0 (local 6379) epoch candidate) ∷ []

-- Votes

-- one vote in an epoch, to the first that asks; the next epoch brings another one
abbrev pub OneVoteAnEpoch : Type 0
OneVoteAnEpoch =
    outputs_of
    (default_plan (kept_at_epoch 0))
    (ask_at 0 6379 1 (Some id_a) ∷ ask_at 0 6379 1 (Some id_b) ∷ ask_at 0 6379 2 (Some id_b) ∷ ask_at 0 6379 1 (Some id_c) ∷ [])
    ≡ vote_answer (Some id_a) 1 ∷ vote_answer (Some id_a) 1 ∷ vote_answer (Some id_b) 2 ∷ vote_answer (Some id_b) 2 ∷ []

-- a question without a candidate raises no epoch
abbrev pub QuestionsRaiseNothing : Type 0
QuestionsRaiseNothing =
    outputs_of (default_plan (kept_at_epoch 0)) (ask_at 0 6379 9 None ∷ ask_at 0 6379 1 (Some id_a) ∷ [])
    ≡ vote_answer None 0 ∷ vote_answer (Some id_a) 1 ∷ []

-- of an address and of a name that no master has nothing is known
abbrev pub NothingOfNobody : Type 0
NothingOfNobody =
    outputs_of
    (default_plan (kept_at_epoch 0))
    (ask_at 0 6399 1 (Some id_a) ∷ command_at 0 (GetMasterAddrByName (Some (codes "nobody"))) ∷ address_ask_at 0 ∷ [])
    ≡ answer (Answer 0 (local 6399) false None 0)
    ∷ answer (AddressAnswer None)
    ∷ address_answer (record { epoch = 0; addr = local 6379 })
    ∷ []

abbrev pub voted_kept : Kept
voted_kept = (core_of (default_plan (kept_at_epoch 0)) (ask_at 0 6379 1 (Some id_a) ∷ [])).kept

-- the vote was asked for before the restart; after it both candidates ask
abbrev pub asks_after_a_restart : List (ℕ × Event)
asks_after_a_restart = ask_at 0 6379 1 (Some id_a) ∷ ask_at 0 6379 1 (Some id_b) ∷ []

-- after a restart the vote is the one that the file holds, its candidate too where the file tells it; no second vote is given
pub record VoteAfterARestart : Type 0 where
  pub held : voted_kept ≡ kept_with 1 (record { epoch = 0; addr = local 6379 }) 1 (Some id_a)
  pub told : outputs_of (default_plan voted_kept) asks_after_a_restart ≡ vote_answer (Some id_a) 1 ∷ vote_answer (Some id_a) 1 ∷ []
  pub untold :
      outputs_of (default_plan (kept_with 1 (record { epoch = 0; addr = local 6379 }) 1 None)) asks_after_a_restart
      ≡ vote_answer None 1 ∷ vote_answer None 1 ∷ []

-- the short answers
abbrev pub ShortAnswers : Type 0
ShortAnswers =
    outputs_of
    (default_plan (kept_at_epoch 0))
    (command_at 0 MyId
    ∷ command_at 0 (CkQuorum (Some mymaster))
    ∷ command_at 0 (CkQuorum (Some (codes "nobody")))
    ∷ command_at 0 FlushConfig
    ∷ command_at 0 PingCommand
    ∷ [])
    ≡ text_answer (line (codes "$40") ++ codes "0000000000000000000000000000000000000000")
    ∷ text_answer (codes "+OK 4 usable Sentinels, quorum and majority can be reached")
    ∷ text_answer (codes "-ERR No such master with that name")
    ∷ text_answer (codes "+OK")
    ∷ answer (PingText false (codes "PONG"))
    ∷ []

-- the answer to INFO, of so many bytes, where the one master has this status
abbrev pub info_answer : (size status : List ℕ) → List Output
info_answer size status =
    answer (PortReply (record { master = 0; card = record { epoch = 0; addr = local 6379 } } ∷ []) (line size
    ++ (line (codes "# Sentinel")
    ++ (line (codes "sentinel_masters:1")
    ++ (line (codes "sentinel_tilt:0")
    ++ (line (codes "sentinel_tilt_since_seconds:-1")
    ++ (line (codes "sentinel_running_scripts:0")
    ++ (line (codes "sentinel_scripts_queue_length:0")
    ++ (line (codes "sentinel_simulate_failure_flags:0")
    ++ line (line (codes "master0:name=mymaster,status=" ++ (status ++ codes ",address=127.0.0.1:6379,slaves=0,sentinels=4"))))))))))))

-- at the start, and once nothing was heard of the master for a minute: two Sentinels would have to find it down
abbrev pub InfoInBytes : Type 0
InfoInBytes =
    outputs_of (default_plan (kept_at_epoch 0)) (command_at 0 InfoCommand ∷ command_at 60000 InfoCommand ∷ [])
    ≡ info_answer (codes "$254") (codes "ok") ∷ info_answer (codes "$257") (codes "sdown") ∷ []

-- A failover

-- the master is silent, both replicas answer with these offsets, the second Sentinel finds the master down too and then votes in the
-- epoch, up to the tick at which the best replica is told that it is the master
abbrev pub until_promotion : (first second epoch : ℕ) → List (ℕ × Event)
until_promotion first second epoch =
    tick_at 1000 ∷ tick_at 2000 ∷ tick_at 3000 ∷ tick_at 4000 ∷ tick_at 5000
    ∷ pong_at 5500 1 ∷ pong_at 5500 2 ∷ replica_at 5500 1 6379 first ∷ replica_at 5500 2 6379 second
    ∷ tick_at 6000
    ∷ answer_at 6100 1 None 0
    ∷ tick_at 7000
    ∷ answer_at 7100 1 (Some id_a) epoch
    ∷ tick_at 8000 ∷ tick_at 9000 ∷ tick_at 10000
    ∷ []

abbrev pub failover_inputs : List (ℕ × Event)
failover_inputs =
    until_promotion 100 200 1
    ++ (pong_at 10050 1 ∷ pong_at 10050 2 ∷ address_ask_at 10050
    ∷ master_at 10100 2
    ∷ address_ask_at 10150
    ∷ tick_at 11000
    ∷ replica_at 11100 1 6381 100
    ∷ tick_at 12000 ∷ tick_at 13000
    ∷ [])

-- the other Sentinels are asked, then asked for votes; the second replica is promoted, and the first one follows it
abbrev pub AFailover : Type 0
AFailover =
    rare_of (outputs_of (group_plan (kept_at_epoch 0)) failover_inputs)
    ≡ [] ∷ [] ∷ [] ∷ [] ∷ []
    ∷ [] ∷ [] ∷ [] ∷ []
    ∷ asks 0 None
    ∷ []
    ∷ asks 1 (Some id_a)
    ∷ []
    ∷ asks 1 (Some id_a) ∷ asks 1 (Some id_a) ∷ (sent (StoreAt 2) (ReplicaOf None) ∷ asks 1 (Some id_a))
    ∷ [] ∷ [] ∷ address_answer (record { epoch = 0; addr = local 6379 })
    ∷ (Tell (record { master = 0; old = local 6379; card = record { epoch = 1; addr = local 6381 } }) ∷ [])
    ∷ address_answer (record { epoch = 1; addr = local 6381 })
    ∷ (sent (StoreAt 1) (ReplicaOf (Some (local 6381))) ∷ [])
    ∷ []
    ∷ [] ∷ []
    ∷ []

abbrev pub failover_plan : Plan
failover_plan = group_plan (kept_at_epoch 0)

abbrev pub inputs_until : (now : ℕ) → List (ℕ × Event)
inputs_until now = filter (λ (input : ℕ × Event). nat_le input.0 now) failover_inputs

-- the core of that failover at a reading
abbrev pub failing_at : (now : ℕ) → Core
failing_at now = core_of failover_plan (inputs_until now)

abbrev pub state_at : (now : ℕ) → FailoverState
state_at now = (failover_of (failing_at now) 0).state

abbrev pub second_replica : Choice
second_replica = record { place = 2; addr = local 6381 }

-- its steps: each tick takes one, and the INFO of the chosen replica makes it the configuration
pub record FailoverGoesOn : Type 0 where
  pub before : state_at 6100 ≡ Idle
  pub started : state_at 7000 ≡ WaitStart 1
  pub elected : state_at 8000 ≡ SelectReplica 1
  pub won : (failing_at 8000).won ≡ Some (record { master = 0; epoch = 1 })
  pub chosen : state_at 9000 ≡ SendPromotion 1 second_replica
  pub told : state_at 10000 ≡ WaitPromotion 1 second_replica 0
  pub same_card : (failing_at 10050).kept ≡ kept_with 1 (record { epoch = 0; addr = local 6379 }) 1 (Some id_a)
  pub promoted : state_at 10100 ≡ ReconfReplicas 1 second_replica 0
  pub new_card : (failing_at 10150).kept ≡ kept_with 1 (record { epoch = 1; addr = local 6381 }) 1 (Some id_a)
  pub updating : state_at 12000 ≡ UpdateConfig 1 second_replica
  pub ended : state_at 13000 ≡ Idle

abbrev pub new_hello : Hello
new_hello =
    record { addr = local 26379; id = id_a; current = 1; master = mymaster; card = record { epoch = 1; addr = local 6381 } }

-- all that the tick after the promotion puts out: the hellos are due at once, and the INFO of the new master isn't due
abbrev pub ATickInFull : Type 0
ATickInFull =
    (next failover_plan (failing_at 10150) 11000 (Tick 0 0)).outputs
    ≡ sent (SentinelAt 1) Ping
    ∷ sent (SentinelAt 2) Ping
    ∷ sent (StoreAt 0) Ping
    ∷ sent (StoreAt 0) InfoAsk
    ∷ sent (StoreAt 0) (Publish new_hello)
    ∷ sent (StoreAt 1) Ping
    ∷ sent (StoreAt 1) InfoAsk
    ∷ sent (StoreAt 1) (Publish new_hello)
    ∷ sent (StoreAt 2) Ping
    ∷ sent (StoreAt 2) (Publish new_hello)
    ∷ sent (StoreAt 1) (ReplicaOf (Some (local 6381)))
    ∷ []

-- the bytes of these hellos
abbrev pub HelloInBytes : Type 0
HelloInBytes =
    hello_text new_hello ≡ codes "127.0.0.1,26379,aaaaaaaaaaaaaaaaaaaaaaaaaaaaaaaaaaaaaaaa,1,mymaster,127.0.0.1,6381,1"

-- Campaigns that come to nothing

-- up to the tick that opens a campaign: the master is silent, and the second Sentinel finds it down too
abbrev pub until_campaign : List (ℕ × Event)
until_campaign =
    tick_at 1000 ∷ tick_at 2000 ∷ tick_at 3000 ∷ tick_at 4000 ∷ tick_at 5000 ∷ tick_at 6000
    ∷ answer_at 6100 1 None 0
    ∷ tick_at 7000
    ∷ []

abbrev pub overtaken_plan : Plan
overtaken_plan = five_plan (kept_at_epoch 4)

-- a hello raises the current epoch, and three Sentinels vote for this one in the new epoch
abbrev pub overtaken_inputs : List (ℕ × Event)
overtaken_inputs =
    until_campaign
    ++ (hello_at 7100 7 6379 0
    ∷ answer_at 7200 1 (Some id_a) 7
    ∷ answer_at 7200 2 (Some id_a) 7
    ∷ answer_at 7200 3 (Some id_a) 7
    ∷ [])

-- votes of another epoch don't count in the campaign: it has one of the three that it needs
pub record VotesOfAnotherEpoch : Type 0 where
  pub campaign : (failover_of (core_of overtaken_plan until_campaign) 0).state ≡ WaitStart 5
  pub raised : (core_of overtaken_plan overtaken_inputs).kept.current ≡ 7
  pub counted : count_of overtaken_plan (core_of overtaken_plan overtaken_inputs) 0 5 + own_votes (book_of (core_of overtaken_plan overtaken_inputs) 0) 5 id_a ≡ 1
  pub needed : need (roster_of overtaken_plan) 0 ≡ 3
  pub not_won : (core_of overtaken_plan (overtaken_inputs ++ tick_at 8000 ∷ [])).won ≡ None
  pub waiting : (failover_of (core_of overtaken_plan (overtaken_inputs ++ tick_at 8000 ∷ [])) 0).state ≡ WaitStart 5

-- a campaign whose own vote wasn't stored: after the restart the vote of that epoch is free
pub record VoteThatWasNotStored : Type 0 where
  pub voted : (core_of failover_plan until_campaign).kept ≡ kept_with 1 (record { epoch = 0; addr = local 6379 }) 1 (Some id_a)
  pub not_won : (core_of failover_plan until_campaign).won ≡ None
  pub free : all_outputs failover_plan (opened failover_plan 7000) (ask_at 7100 6379 1 (Some id_b) ∷ []) ≡ vote_answer (Some id_b) 1 ∷ []

abbrev pub last_epoch_plan : Plan
last_epoch_plan = group_plan (kept_at_epoch MAX_EPOCH)

-- behind the greatest epoch no campaign is opened, and nobody is asked for a vote
pub record NoEpochIsLeft : Type 0 where
  pub outputs : rare_of (outputs_of last_epoch_plan until_campaign) ≡ [] ∷ [] ∷ [] ∷ [] ∷ [] ∷ asks MAX_EPOCH None ∷ [] ∷ asks MAX_EPOCH None ∷ []
  pub odown : (master_of (core_of last_epoch_plan until_campaign) 0).odown ≡ true
  pub none : (failover_of (core_of last_epoch_plan until_campaign) 0).state ≡ Idle
  pub kept : (core_of last_epoch_plan until_campaign).kept ≡ kept_at_epoch MAX_EPOCH

-- Hellos

abbrev pub adopting_plan : Plan
adopting_plan = group_plan (kept_at_epoch 4)

-- the first replica was told that it is the master, in epoch 5
abbrev pub told_inputs : List (ℕ × Event)
told_inputs = until_promotion 200 100 5

abbrev pub adopting_inputs : List (ℕ × Event)
adopting_inputs = told_inputs ++ hello_at 10100 7 6379 7 ∷ []

abbrev pub adopted_kept : Kept
adopted_kept = kept_with 7 (record { epoch = 7; addr = local 6379 }) 5 (Some id_a)

-- a newer configuration ends the failover: that the told replica says now that it is the master changes nothing
pub record AdoptionEndsAFailover : Type 0 where
  pub told : (failover_of (core_of adopting_plan told_inputs) 0).state ≡ WaitPromotion 5 (record { place = 1; addr = local 6380 }) 0
  pub adopted : (core_of adopting_plan adopting_inputs).kept ≡ adopted_kept
  pub ended : (failover_of (core_of adopting_plan adopting_inputs) 0).state ≡ Idle
  pub stays : (core_of adopting_plan (adopting_inputs ++ master_at 10200 1 ∷ [])).kept ≡ adopted_kept
  pub silent : all_outputs adopting_plan (core_of adopting_plan adopting_inputs) (master_at 10200 1 ∷ []) ≡ [] ∷ []

-- a configuration of the same epoch isn't newer, whatever its address; a text that is no hello is passed over
pub record OnlyNewerIsAdopted : Type 0 where
  pub equal : (core_of adopting_plan (adopting_inputs ++ hello_at 10200 7 6380 7 ∷ [])).kept ≡ adopted_kept
  pub too_large : (core_of adopting_plan (adopting_inputs ++ hello_at 10200 7 6380 281474976710656 ∷ [])).kept ≡ adopted_kept
  pub why_too_large : hello_of (codes "127.0.0.1,26380,bbbbbbbbbbbbbbbbbbbbbbbbbbbbbbbbbbbbbbbb,7,mymaster,127.0.0.1,6380,281474976710656") ≡ Err EpochTooLarge
  pub why_too_short : hello_of (codes "127.0.0.1,26380,bbbbbbbbbbbbbbbbbbbbbbbbbbbbbbbbbbbbbbbb,7,mymaster,127.0.0.1,6380") ≡ Err FieldCount

-- A clock that jumps

abbrev pub six_ticks : Core
six_ticks = core_of failover_plan (ticks_from 1000 6)

-- a tick comes more than 2 seconds after the one before: for 30 seconds nobody is asked and nobody is called down, but votes are given
abbrev pub NothingIsJudgedInTilt : Type 0
NothingIsJudgedInTilt =
    rare_from
    failover_plan
    six_ticks
    (ask_at 6500 6379 9 None ∷ tick_at 8001 ∷ ask_at 8100 6379 9 None ∷ ask_at 8200 6379 1 (Some id_b) ∷ ticks_from 9001 30)
    ≡ (6500, answer (Answer 0 (local 6379) true None 0))
    ∷ (8100, vote_answer None 0)
    ∷ (8200, vote_answer (Some id_b) 1)
    ∷ (38001, asks 1 None)
    ∷ []

-- A vote for another candidate

abbrev pub short_timeout_plan : Plan
short_timeout_plan =
    plan_of
    10
    (11 ∷ 12 ∷ [])
    (6379 ∷ 6380 ∷ 6381 ∷ [])
    (record { after_ms = 5000; parallel_syncs = 1; timeout = 1000 })
    (kept_at_epoch 0)

-- it counts as a start at 6,050 and 950 ms: the own campaign waits for two timeouts from then on, which have passed at 9,000
abbrev pub AVoteDelaysTheOwnCampaign : Type 0
AVoteDelaysTheOwnCampaign =
    rare_from
    short_timeout_plan
    (core_of short_timeout_plan (ticks_from 1000 5 ++ (6000, Tick 0 1950) ∷ []))
    (ask_at 6050 6379 1 (Some id_b) ∷ answer_at 6100 1 None 0 ∷ ticks_from 7000 3)
    ≡ (6050, answer (Answer 0 (local 6379) true (Some id_b) 1))
    ∷ (7000, asks 1 None)
    ∷ (8000, asks 1 None)
    ∷ (9000, asks 2 (Some id_a))
    ∷ []

-- Profiles

abbrev pub of_redis : Plan → Plan
of_redis plan = record plan { profile = Redis }

-- when the failover is over a strict Sentinel knows when it began, and one of Redis's profile forgot it at the new address, as it did the INFO of 5,500
pub record ASwitchForgetsTheStart : Type 0 where
  pub strict_info : (node_of (failing_at 10150) 0 1).info_at ≡ Some 5500
  pub redis_info : (node_of (core_of (of_redis failover_plan) (inputs_until 10150)) 0 1).info_at ≡ None
  pub strict : (failover_of (core_of failover_plan failover_inputs) 0).last_start ≡ Some 7000
  pub redis : (failover_of (core_of (of_redis failover_plan) failover_inputs) 0).last_start ≡ None

-- the candidate that was voted for at 6,050 never replied, and is down: a Sentinel of Redis's profile begins at the next tick but one, as at the next one all are
-- down at once, which may be its own pause
abbrev pub ALostCandidateHoldsNobodyBack : Type 0
ALostCandidateHoldsNobodyBack =
    rare_from
    (of_redis short_timeout_plan)
    (core_of (of_redis short_timeout_plan) (ticks_from 1000 5 ++ (6000, Tick 0 1950) ∷ []))
    (ask_at 6050 6379 1 (Some id_b) ∷ answer_at 6100 1 None 0 ∷ ticks_from 7000 3)
    ≡ (6050, answer (Answer 0 (local 6379) true (Some id_b) 1))
    ∷ (7000, asks 1 None)
    ∷ (8000, asks 2 (Some id_a))
    ∷ (9000, asks 2 (Some id_a))
    ∷ []

-- Who is in no file asks for a vote in a later epoch. A strict Sentinel votes for it; one of Redis's profile says what it says to a question alone, and then votes for one
-- of the group in an epoch that isn't above the current one
pub record AGhostGetsNoVote : Type 0 where
  pub strict :
      rare_from short_timeout_plan (core_of short_timeout_plan (ticks_from 1000 6)) (ask_at 6050 6379 5 (Some (id_of_digit 14)) ∷ [])
      ≡ (6050, answer (Answer 0 (local 6379) true (Some (id_of_digit 14)) 5))
      ∷ []
  pub redis :
      rare_from (of_redis short_timeout_plan) (core_of (of_redis short_timeout_plan) (ticks_from 1000 6))
      (ask_at 6050 6379 5 (Some (id_of_digit 14)) ∷ ask_at 6060 6379 1 (Some id_b) ∷ [])
      ≡ (6050, answer (Answer 0 (local 6379) true None 0))
      ∷ (6060, answer (Answer 0 (local 6379) true (Some id_b) 1))
      ∷ []

-- the best replica was told that it is the master at 10,000, and refuses
abbrev pub refusing : List (ℕ × Event)
refusing =
    pong_at 10050 1 ∷ pong_at 10050 2 ∷ replica_at 10060 1 6379 100 ∷ replica_at 10060 2 6379 200
    ∷ (10070, Refused (StoreAt 2))
    ∷ tick_at 10100
    ∷ tick_at 10500
    ∷ answer_at 10550 1 (Some id_a) 2
    ∷ tick_at 10600 ∷ tick_at 10700 ∷ tick_at 10800
    ∷ []

-- a strict Sentinel doesn't hear of it. One of Redis's profile ends the failover, begins anew after its pause, and promotes the other replica
pub record WhoRefusesIsPassedOver : Type 0 where
  pub strict : rare_from failover_plan (core_of failover_plan (until_promotion 100 200 1)) refusing ≡ []
  pub redis :
      rare_from (of_redis failover_plan) (core_of (of_redis failover_plan) (until_promotion 100 200 1)) refusing
      ≡ (10500, asks 2 (Some id_a))
      ∷ (10800, sent (StoreAt 1) (ReplicaOf None) ∷ [])
      ∷ []

-- Switches that a client asks for

abbrev pub switch_plan : Plan
switch_plan = of_redis (group_plan (kept_at_epoch 0))

abbrev pub switch_command : (now : ℕ) → ℕ × Event
switch_command now = command_at now (FailoverCommand (Some mymaster))

-- all nodes answer, and a client asks
abbrev pub until_asked : List (ℕ × Event)
until_asked =
    tick_at 1000
    ∷ pong_at 1100 0
    ∷ pong_at 1100 1
    ∷ pong_at 1100 2
    ∷ master_at 1100 0
    ∷ replica_at 1100 1 6379 100
    ∷ replica_at 1100 2 6379 200
    ∷ switch_command 1200
    ∷ []

-- the second Sentinel votes, and the master is told to hand over to the best replica
abbrev pub until_handed : List (ℕ × Event)
until_handed =
    until_asked
    ++ (tick_at 1300
    ∷ (1350, Answered (SentinelAt 1) 0 (local 6379) false (Some id_a) 1)
    ∷ tick_at 1400
    ∷ tick_at 1500
    ∷ tick_at 1600
    ∷ [])

abbrev pub hand_over_order : List Output
hand_over_order = sent (StoreAt 0) (HandOver (Some (record { node = StoreAt 2; addr = local 6381 }))) ∷ []

-- begun: the master is up, votes are asked for all the same, and the master is told to hand over, not the replica. done: the replica says that it is a master, and
-- the clients of both are sent away. stays: the master refuses, is told nothing more, and from the next tick on no failover runs. busy: one at a time. strict: a strict
-- Sentinel doesn't know the command. fresh, lapsed: the campaign begins within 3,000 ms or not at all
pub record APlannedSwitch : Type 0 where
  pub begun :
      rare_from switch_plan (opened switch_plan 0) until_handed
      ≡ (1200, text_answer (codes "+OK"))
      ∷ (1300, asks 1 (Some id_a))
      ∷ (1600, hand_over_order)
      ∷ []
  pub done :
      rare_from switch_plan (core_of switch_plan until_handed) (tick_at 1700 ∷ master_at 1750 2 ∷ [])
      ≡ (
        1750,
        Tell (record { master = 0; old = local 6379; card = record { epoch = 1; addr = local 6381 } })
            ∷ sent (StoreAt 2) (ReplicaOf None)
            ∷ sent (StoreAt 0) (ReplicaOf (Some (local 6381)))
            ∷ [],
      )
      ∷ []
  pub stays :
      rare_from switch_plan (core_of switch_plan until_handed) ((1650, Refused (StoreAt 0)) ∷ tick_at 1700 ∷ tick_at 1800 ∷ [])
      ≡ []
  pub idle : (failover_of (core_of switch_plan (until_handed ++ ((1650, Refused (StoreAt 0)) ∷ tick_at 1700 ∷ []))) 0).state ≡ Idle
  pub busy :
      rare_from switch_plan (core_of switch_plan until_asked) (switch_command 1250 ∷ [])
      ≡ (1250, text_answer (codes "-INPROG Failover already in progress"))
      ∷ []
  pub strict :
      rare_from (group_plan (kept_at_epoch 0)) (opened (group_plan (kept_at_epoch 0)) 0) until_handed
      ≡ (1200, text_answer (codes "-ERR unknown command"))
      ∷ []
  pub fresh : is_wished (core_of switch_plan until_asked) 0 4200 ≡ true
  pub lapsed : is_wished (core_of switch_plan until_asked) 0 4201 ≡ false

-- a master that handed over without being told: it says that it is a replica of a node which says that it is a master. After one second and the pause, which is 0
-- here, a campaign begins; strict Sentinels go on. Once elected the Sentinel has the node that took over promoted, though in the campaign's epoch its pause would
-- be a longer one
abbrev pub handed_over_alone : List (ℕ × Event)
handed_over_alone =
    tick_at 1000
    ∷ pong_at 1100 0
    ∷ pong_at 1100 1
    ∷ pong_at 1100 2
    ∷ replica_at 1100 0 6381 100
    ∷ replica_at 1100 1 6381 100
    ∷ master_at 1100 2
    ∷ tick_at 2000
    ∷ tick_at 2100
    ∷ []

pub record ASwitchAtTheNodes : Type 0 where
  pub redis : rare_from switch_plan (opened switch_plan 0) handed_over_alone ≡ (2100, asks 1 (Some id_a)) ∷ []
  pub strict : rare_from (group_plan (kept_at_epoch 0)) (opened (group_plan (kept_at_epoch 0)) 0) handed_over_alone ≡ []
  pub chosen :
      rare_from switch_plan (core_of switch_plan handed_over_alone)
      ((2150, Answered (SentinelAt 1) 0 (local 6379) false (Some id_a) 1) ∷ tick_at 2200 ∷ tick_at 2300 ∷ tick_at 2400 ∷ [])
      ≡ (2400, sent (StoreAt 2) (ReplicaOf None) ∷ [])
      ∷ []

-- Replicas

-- a master and four replicas
abbrev pub wide_plan : Plan
wide_plan =
    plan_of
    10
    (11 ∷ 12 ∷ [])
    (6379 ∷ 6380 ∷ 6381 ∷ 6382 ∷ 6383 ∷ [])
    (record DEFAULT_SETTINGS { after_ms = 5000 })
    (kept_at_epoch 0)

-- the fourth replica is promoted
abbrev pub wide_inputs : List (ℕ × Event)
wide_inputs =
    ticks_from 1000 5
    ++ (pongs_at 5500
    ++ (replica_at 5500 1 6379 100 ∷ replica_at 5500 2 6379 100 ∷ replica_at 5500 3 6379 100 ∷ replica_at 5500 4 6379 200
    ∷ tick_at 6000
    ∷ answer_at 6100 1 None 0
    ∷ tick_at 7000
    ∷ answer_at 7100 1 (Some id_a) 1
    ∷ (ticks_from 8000 3 ++ (pongs_at 10050 ++ master_at 10100 4 ∷ []))))

-- one replica at a time is told to follow the new master; one that never does is given 10 seconds
abbrev pub ReplicasOneByOne : Type 0
ReplicasOneByOne =
    rare_from
    wide_plan
    (core_of wide_plan wide_inputs)
    (ticks_from 11000 2
    ++ (replica_at 12500 1 6383 100
    ∷ (ticks_from 13000 2
    ++ (pongs_at 14500 ++ (ticks_from 15000 5 ++ (pongs_at 19000 ++ (ticks_from 20000 4 ++ (pongs_at 23500 ++ ticks_from 24000 1))))))))
    ≡ (11000, sent (StoreAt 1) (ReplicaOf (Some (local 6383))) ∷ [])
    ∷ (13000, sent (StoreAt 2) (ReplicaOf (Some (local 6383))) ∷ [])
    ∷ (24000, sent (StoreAt 3) (ReplicaOf (Some (local 6383))) ∷ [])
    ∷ []

-- the former master comes back as a master: after more than 8 seconds of that it is told to follow the new one, and its time starts anew
abbrev pub AFormerMasterFollows : Type 0
AFormerMasterFollows =
    rare_from
    failover_plan
    (failing_at 13000)
    (master_at 14000 0 ∷ pong_at 21000 2 ∷ master_at 22000 0 ∷ master_at 22001 0 ∷ master_at 23000 0 ∷ [])
    ≡ (22001, sent (StoreAt 0) (ReplicaOf (Some (local 6381))) ∷ []) ∷ []

-- a replica that follows the former master is told after more than the failover timeout; one INFO in between that is right breaks the time
abbrev pub AReplicaOfAnotherFollows : Type 0
AReplicaOfAnotherFollows =
    rare_from
    failover_plan
    (failing_at 13000)
    (replica_at 13500 1 6379 100
    ∷ replica_at 13700 1 6381 100
    ∷ replica_at 14000 1 6379 100
    ∷ pong_at 193000 2
    ∷ replica_at 194000 1 6379 100
    ∷ replica_at 194001 1 6379 100
    ∷ [])
    ≡ (194001, sent (StoreAt 1) (ReplicaOf (Some (local 6381))) ∷ []) ∷ []

-- What clients are shown

-- a replica at this port, of which PONG and INFO came 1,600 ms ago; the first PING since was sent 500 ms later
abbrev pub replica_shown : (port offset : ℕ) → ReplicaRow
replica_shown port offset =
    record {
      addr = local port;
      down = false;
      disconnected = false;
      priority = 100;
      offset = offset;
      after_ms = 5000;
      contact = record { ping_ms = 1100; valid_ms = 1600; reply_ms = 1600; down_ms = 0 };
      said = record { id = None; info_ms = 1600; role = Replica; role_ms = 1600 };
      link = record { down_ms = 0; up = true; master = Some (local 6379); announced = true };
    }

-- a Sentinel that never answered, and for whom it voted
abbrev pub sentinel_shown : RunId → (port : ℕ) → Option RunId → (epoch : ℕ) → SentinelRow
sentinel_shown id port leader epoch =
    record {
      id = id;
      addr = local port;
      down = true;
      disconnected = false;
      masters = 1;
      after_ms = 5000;
      hello_ms = 7100;
      leader = leader;
      leader_epoch = epoch;
      contact = record { ping_ms = 7100; valid_ms = 7100; reply_ms = 7100; down_ms = 2100 };
    }

-- during the failover: the Sentinels that never answered a PING are down
pub record ShownInAFailover : Type 0 where
  pub master :
      master_row failover_plan (failing_at 7100) 7100 0
      ≡ record {
        name = mymaster;
        addr = local 6379;
        down = true;
        odown = true;
        disconnected = false;
        failing_over = true;
        replicas = 2;
        others = 2;
        quorum = 2;
        after_ms = 5000;
        timeout = 180000;
        parallel_syncs = 1;
        epoch = 0;
        odown_ms = 100;
        stage = StageWaitStart;
        contact = record { ping_ms = 7100; valid_ms = 7100; reply_ms = 7100; down_ms = 2100 };
        said = record { id = None; info_ms = 0; role = Master; role_ms = 7100 };
      }
  pub replicas :
      replica_rows failover_plan (failing_at 7100) 7100 0
      ≡ replica_shown 6380 100 ∷ replica_shown 6381 200 ∷ []
  pub sentinels :
      sentinel_rows failover_plan (failing_at 7100) 7100 0
      ≡ sentinel_shown id_b 26380 (Some id_a) 1 ∷ sentinel_shown id_c 26381 None 0 ∷ []
  pub usable : usable_count failover_plan (failing_at 7100) 7100 ≡ 1
