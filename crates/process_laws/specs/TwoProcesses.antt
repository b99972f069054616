-- What two processes do: an election by the other one's vote, an adoption by hello, a refused store and a start after it. The processes meet all
-- premises of the laws.
use Rattle.std.specs.Prelude.{◌≡◌, ℕ, ◌+◌, true, Some, None, List, [], ◌∷◌, ◌++◌, codes, length}
use Rattle.ballot_law.specs.declared.addresses.RunId.{RunId}
use Rattle.ballot_law.specs.declared.cards.Card.{Card}
use Rattle.ballot_law.specs.declared.cards.Kept.{Kept}
use Rattle.ballot_law.specs.declared.events.Event.{Event}
use Rattle.ballot_law.specs.declared.events.Event.TheVariants.{HelloRead}
use Rattle.ballot_law.specs.declared.messages.Body.{Body}
use Rattle.ballot_law.specs.declared.messages.Body.TheVariants.{Ask, Answer, Ping, InfoAsk, Publish, ReplicaOf}
use Rattle.ballot_law.specs.declared.messages.NodeName.{NodeName}
use Rattle.ballot_law.specs.declared.messages.NodeName.TheVariants.{SentinelAt, StoreAt, PortAt}
use Rattle.ballot_law.specs.declared.messages.Output.{Output}
use Rattle.ballot_law.specs.declared.messages.Output.TheVariants.{Send, Tell}
use Rattle.ballot_law.specs.declared.records.Advertisement.{Advertisement}
use Rattle.ballot_law.specs.declared.records.Election.{Election}
use Rattle.ballot_law.specs.declared.replies.Hello.{Hello}
use Rattle.ballot_law.specs.declared.steps.KeptText.TheVariants.{Old, New}
use Rattle.ballot_law.specs.Hellos.{hello_text}
use Rattle.ballot_law.specs.Law.{IsStart}
use Rattle.ballot_law.specs.RosterFaults.{IsRoster}
use Rattle.ballot_law.specs.Rosters.{Roster, HasDistinctIds}
use Rattle.ballot_law.specs.Worlds.{World as Group, Ready, started}
use Rattle.sentinel_cell.specs.declared.entry.Entry.{Entry}
use Rattle.sentinel_cell.specs.declared.entry.Outcome.TheVariants.{Stored, Refused}
use Rattle.sentinel_conf.specs.declared.settings.TheConstants.{DEFAULT_SETTINGS}
use Rattle.sentinel_rules.specs.declared.profiles.Profile.TheVariants.{Strict}
use Rattle.sentinel_rules.specs.Plans.{Plan}
use Rattle.sentinel_rules.specs.Worked.{id_a, id_b, local, mymaster, members_from, kept_with, kept_at_epoch, tick_at, ask_at, answer_at, pong_at, replica_at, master_at}
use Rattle.process_laws.specs.Actions.{Action, Opened, Took, Told, AreActions, actions_after, all_said, all_elected, at_first, opened_by}

-- two Sentinels, and a master with one replica
abbrev pub roster : Roster
roster =
    record {
      sentinels = members_from 26379 (10 ∷ 11 ∷ []);
      masters = record { name = mymaster; nodes = local 6379 ∷ local 6380 ∷ []; quorum = 2 } ∷ [];
    }

abbrev pub first_card : Card
first_card = record { epoch = 0; addr = local 6379 }

abbrev pub new_card : Card
new_card = record { epoch = 1; addr = local 6380 }

-- nobody was voted for
abbrev pub first_file : Kept
first_file = kept_at_epoch 0

-- neither has voted yet, and both data nodes run
abbrev pub begin : Group
begin =
    record {
      sentinels = started roster first_file ∷ started roster first_file ∷ [];
      stores = (record { state = Ready; held = [] }) ∷ (record { state = Ready; held = [] }) ∷ [];
      clients = [];
      messages = [];
      votes = [];
      elected = [];
      said = [];
    }

-- a file of this Sentinel; a node is down after half a second
abbrev pub plan_at : (place : ℕ) → RunId → Kept → Plan
plan_at place id kept =
    record {
      conf =
          record {
            kept_lines = [];
            roster = roster;
            id = id;
            port = 26379 + place;
            settings = record DEFAULT_SETTINGS { after_ms = 500 } ∷ [];
            kept = kept;
          };
      place = place;
      profile = Strict;
      reboots = [];
    }

abbrev pub opens : (place : ℕ) → RunId → Kept → (now : ℕ) → Action
opens place id kept now = Opened place (opened_by (plan_at place id kept) now) now

-- an input at its reading, which is stored
abbrev pub entry_of : ℕ × Event → List Output → Entry
entry_of input outputs = record { number = 0; input = record { now = input.0; event = input.1 }; outcome = Stored; outputs = outputs; failures = 0 }

-- an input that no question at the port brings
abbrev pub takes : (place : ℕ) → ℕ × Event → List Output → Action
takes place input outputs = Took place (entry_of input outputs) (PortAt 0) Old

-- a question that a node asks at the port
abbrev pub asked_by : NodeName → (place : ℕ) → ℕ × Event → List Output → Action
asked_by asker place input outputs = Took place (entry_of input outputs) asker Old

-- a question whose store is refused, and the file holds the new text
abbrev pub refuses : NodeName → (place : ℕ) → ℕ × Event → Action
refuses asker place input = Took place (record (entry_of input []) { outcome = Refused; failures = 1 }) asker New

abbrev pub sends : (place : ℕ) → NodeName → Body → Output
sends place target body = Send (record { sender = SentinelAt place; target = target; body = body })

-- the note of the new configuration
abbrev pub switched : Output
switched = Tell (record { master = 0; old = local 6379; card = new_card })

abbrev pub hello_with : (current : ℕ) → Card → Hello
hello_with current card = record { addr = local 26379; id = id_a; current = current; master = mymaster; card = card }

-- PING, INFO and a hello to each data node
abbrev pub greets : (number : ℕ) → List Output
greets number =
    sends 0 (StoreAt number) Ping
    ∷ sends 0 (StoreAt number) InfoAsk
    ∷ sends 0 (StoreAt number) (Publish (hello_with 0 first_card))
    ∷ []

-- both begin
abbrev pub beginning : List Action
beginning = opens 0 id_a first_file 0 ∷ opens 1 id_b first_file 0 ∷ []

-- The first finds the master down and asks the other, which says so too; the replica answers the first
abbrev pub finding_down : List Action
finding_down =
    takes 0 (tick_at 600) (sends 0 (SentinelAt 1) Ping ∷ (greets 0 ++ (greets 1 ++ sends 0 (SentinelAt 1) (Ask 0 (local 6379) 0 None) ∷ [])))
    ∷ asked_by (SentinelAt 0) 1 (ask_at 610 6379 0 None) (sends 1 (PortAt 0) (Answer 0 (local 6379) true None 0) ∷ [])
    ∷ takes 0 (answer_at 620 1 None 0) []
    ∷ takes 0 (pong_at 630 1) []
    ∷ takes 0 (replica_at 640 1 6379 100) []
    ∷ []

-- it votes for itself and asks for the other's vote, which elects it
abbrev pub electing : List Action
electing =
    takes 0 (tick_at 700) (sends 0 (SentinelAt 1) (Ask 0 (local 6379) 1 (Some id_a)) ∷ [])
    ∷ asked_by (SentinelAt 0) 1 (ask_at 710 6379 1 (Some id_a)) (sends 1 (PortAt 0) (Answer 0 (local 6379) true (Some id_a) 1) ∷ [])
    ∷ takes 0 (answer_at 720 1 (Some id_a) 1) []
    ∷ takes 0 (tick_at 800) []
    ∷ []

-- it promotes the replica
abbrev pub promoting : List Action
promoting =
    takes 0 (tick_at 810) []
    ∷ takes 0 (tick_at 820) (sends 0 (StoreAt 1) (ReplicaOf None) ∷ [])
    ∷ takes 0 (master_at 830 1) (switched ∷ [])
    ∷ []

-- Both tell a client the address, each what it has stored. The first publishes; the other hears something that is no hello, and then the hello, of
-- which it tells
abbrev pub adopting : List Action
adopting =
    Told 0 0
    ∷ Told 1 0
    ∷ takes 0 (tick_at 900) (sends 0 (StoreAt 0) (Publish (hello_with 1 new_card)) ∷ sends 0 (StoreAt 1) (Publish (hello_with 1 new_card)) ∷ [])
    ∷ takes 1 (910, HelloRead (codes "a hello of nobody")) []
    ∷ takes 1 (920, HelloRead (hello_text (hello_with 1 new_card))) (switched ∷ [])
    ∷ Told 1 0
    ∷ []

-- what the refused store left in the first one's file: a vote that nobody was told
abbrev pub left_file : Kept
left_file = kept_with 2 new_card 2 (Some id_b)

-- The first is asked for a vote, its store is refused, and it halts. Another process begins with what the file was left with; the answer with the other
-- one's vote comes a second time, late; and a client is told the address
abbrev pub beginning_anew : List Action
beginning_anew =
    refuses (SentinelAt 1) 0 (ask_at 930 6380 2 (Some id_b))
    ∷ opens 0 id_a left_file 1000
    ∷ takes 0 (answer_at 1010 1 (Some id_a) 1) []
    ∷ Told 0 0
    ∷ []

abbrev pub actions : List Action
actions = beginning ++ (finding_down ++ (electing ++ (promoting ++ (adopting ++ beginning_anew))))

abbrev pub says : (place : ℕ) → Card → Advertisement
says place card = record { sentinel = place; master = 0; card = card }

-- what came of it
pub record IsShown : Type 0 where
  pub elected : all_elected (at_first begin) actions ≡ (let e : Election = record { sentinel = 0; master = 0; epoch = 1 } in e) ∷ []
  -- two hellos, a note, an answer of each, two hellos, and the other's note and answer; then the answer after the start
  pub said : all_said roster (at_first begin) actions
      ≡ says 0 first_card
      ∷ says 0 first_card
      ∷ says 0 new_card
      ∷ says 0 new_card
      ∷ says 1 first_card
      ∷ says 0 new_card
      ∷ says 0 new_card
      ∷ says 1 new_card
      ∷ says 1 new_card
      ∷ says 0 new_card
      ∷ []
  pub first : (actions_after (at_first begin) actions 0).file ≡ left_file
  pub other : (actions_after (at_first begin) actions 1).file ≡ kept_with 1 new_card 1 (Some id_a)

-- there are such processes, of a roster as `Roster::new` makes them
abbrev pub ActionsHappen : Type 0
ActionsHappen = IsRoster roster × HasDistinctIds roster × IsStart roster begin × AreActions roster (length begin.stores) (at_first begin) [] actions × IsShown
