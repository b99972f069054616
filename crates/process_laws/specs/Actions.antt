-- What the processes of a group did, one action after another.
use Rattle.std.specs.Prelude.{◌≡◌, ℕ, ◌<◌, ◌≤◌, ◌⊎◌, eqb, Bool, true, false, cond, List, [], ◌∷◌, ◌++◌, map, length, Contains, Some, None}
use Rattle.ballot_law.specs.declared.cards.Kept.{Kept}
use Rattle.ballot_law.specs.declared.events.Event.{Event}
use Rattle.ballot_law.specs.declared.events.Event.TheVariants.{HelloRead}
use Rattle.ballot_law.specs.declared.messages.Message.{Message}
use Rattle.ballot_law.specs.declared.messages.NodeName.{NodeName}
use Rattle.ballot_law.specs.declared.messages.NodeName.TheVariants.{SentinelAt, StoreAt, ClientAt, PortAt}
use Rattle.ballot_law.specs.declared.messages.Output.{Output}
use Rattle.ballot_law.specs.declared.messages.Output.TheVariants.{Send, Tell}
use Rattle.ballot_law.specs.declared.records.Advertisement.{Advertisement}
use Rattle.ballot_law.specs.declared.records.Election.{Election}
use Rattle.ballot_law.specs.declared.replies.Hello.{Hello}
use Rattle.ballot_law.specs.declared.steps.KeptText.{KeptText}
use Rattle.ballot_law.specs.declared.steps.Step.{Step}
use Rattle.ballot_law.specs.Ballots.{card_of}
use Rattle.ballot_law.specs.Hellos.{hello_text}
use Rattle.ballot_law.specs.Law.{IsStart, HasOneLeader, HasOneAddress}
use Rattle.ballot_law.specs.Messages.{sent, advertised_by, published, Delivers, IsForSentinels}
use Rattle.ballot_law.specs.Rosters.{Roster, size, HasDistinctIds}
use Rattle.ballot_law.specs.Worlds.{World as Group, sentinel_at, said_by, elected_by, IsFree, Run}
use Rattle.sentinel_cell.specs.declared.entry.Entry.{Entry}
use Rattle.sentinel_cell.specs.declared.entry.Outcome.{Outcome}
use Rattle.sentinel_cell.specs.declared.entry.Outcome.TheVariants.{Stored, Refused, Halted}
use Rattle.sentinel_cell.specs.EntrySteps.{IsAsLeft, kept_left}
use Rattle.sentinel_cell.specs.Histories.{World, no_world, IsStep, after}
use Rattle.sentinel_rules.specs.Facts.{IsSoundPlan}
use Rattle.sentinel_rules.specs.Ignored.{is_noticed}
use Rattle.sentinel_rules.specs.Plans.{Plan, roster_of}
use Rattle.sentinel_rules.specs.States.{opened}
use Rattle.sentinel_rules.specs.Steps.{wins_of}
use Rattle.process_laws.specs.Differing.{DifferInNodes}

-- One thing that the process of the Sentinel at a place did.
-- Opened: the process began, and its file opened the Sentinel in this world. One that ran before has ended.
-- Took: its Sentinel took an input, the next entry of its history. `asker` is the node that a question at its port came from, and `left` tells what the file
-- holds where the store refused it. A process that is killed within a store is one whose store was refused.
-- Told: it told a client what is stored of a master
pub data Action : Type 0 where
  Opened : (place : ℕ) (world : World) (now : ℕ) → Action
  Took : (place : ℕ) (entry : Entry) (asker : NodeName) (left : KeptText) → Action
  Told : (place : ℕ) (master : ℕ) → Action

-- whether it runs, its Sentinel as the entries since its opening leave it, and what its file holds
pub record Process : Type 0 where
  pub runs : Bool
  pub world : World
  pub file : Kept

-- what an action changes

abbrev pub with_process : (ℕ → Process) → ℕ → Process → (ℕ → Process)
with_process all i p = λ j. cond (eqb j i) p (all j)

abbrev pub file_after : Outcome → KeptText → Process → Entry → Kept
file_after Stored left p e = (after p.world e).stored
file_after Refused left p e = kept_left left p.file (after p.world e).core.kept
file_after Halted left p e = p.file

abbrev pub action_after : (ℕ → Process) → Action → (ℕ → Process)
action_after all (Opened i w now) = with_process all i (record { runs = true; world = w; file = (all i).file })
action_after all (Took i e asker left) = with_process all i (record { runs = true; world = after (all i).world e; file = file_after e.outcome left (all i) e })
action_after all (Told i m) = all

-- what an action shows

-- an answer to a question at a port goes to the node that asked there
abbrev pub to_asker : NodeName → NodeName → NodeName
to_asker asker (PortAt k) = asker
to_asker asker (SentinelAt k) = SentinelAt k
to_asker asker (StoreAt k) = StoreAt k
to_asker asker (ClientAt k) = ClientAt k

abbrev pub output_to : NodeName → Output → Output
output_to asker (Send message) = Send (record message { target = to_asker asker message.target })
output_to asker (Tell note) = Tell note

abbrev pub sent_by : Action → List Message
sent_by (Opened i w now) = []
sent_by (Took i e asker left) = sent (map (output_to asker) e.outputs)
sent_by (Told i m) = []

abbrev pub said_in : Roster → (ℕ → Process) → Action → List Advertisement
said_in roster all (Opened i w now) = []
said_in roster all (Took i e asker left) = said_by i (advertised_by roster e.outputs)
said_in roster all (Told i m) = (record { sentinel = i; master = m; card = card_of (all i).world.stored m }) ∷ []

-- a win that was stored is an election
abbrev pub elected_at : Outcome → ℕ → World → List Election
elected_at Stored i w = elected_by i (wins_of w.core.won)
elected_at Refused i w = []
elected_at Halted i w = []

abbrev pub elected_in : (ℕ → Process) → Action → List Election
elected_in all (Opened i w now) = []
elected_in all (Took i e asker left) = elected_at e.outcome i (after (all i).world e)
elected_in all (Told i m) = []

-- when an action may be done

-- a Sentinel at its start, with what this plan's file holds
abbrev pub opened_by : Plan → (now : ℕ) → World
opened_by plan now =
    record {
      plan = plan;
      core = opened plan now;
      stored = plan.conf.kept;
      halted = false;
      change = None;
      text = None;
      refused = None;
      failures = 0;
    }

-- the file opens the Sentinel so: with what it holds, and nothing else. It may name fewer data nodes than the roster, and others than the file before it
pub record IsOpened (roster : Roster) (i : ℕ) (file : Kept) (now : ℕ) (w : World) : Type 0 where
  pub place : w.plan.place ≡ i
  pub roster_is : DifferInNodes (roster_of w.plan) roster
  pub plan : IsSoundPlan w.plan
  pub file_is : w.plan.conf.kept ≡ file
  pub core : w.core ≡ opened w.plan now
  pub stored : w.stored ≡ file
  pub runs : w.halted ≡ false

-- a message to this Sentinel, of those sent before, brings the event
abbrev pub IsSentTo : List Message → (i : ℕ) → Event → Type 0
IsSentTo messages i event =
    (message : Message) × Contains messages message × (message.target ≡ SentinelAt i) × IsForSentinels message.body × Delivers message event

-- The event is a hello, of those that were published at a data node before. Its number is the one in the roster of the Sentinel that published, and nothing tells at which
-- data node it is heard
abbrev pub IsPublished : (stores : ℕ) → List Message → Event → Type 0
IsPublished stores messages event =
    (message : Message) × (hello : Hello) × (store : ℕ) × Contains messages message × (message.target ≡ StoreAt store) × (store < stores) ×
    (published message.body ≡ Some hello) × (event ≡ HelloRead (hello_text hello))

-- What the Sentinel with this plan hears: an event that no message brings, one of which it takes no notice, from whomever it came, an event that
-- a message to it brings, or a hello that was published. So a hello of no other Sentinel of its roster, or about no master of it, may come from anybody
abbrev pub IsHeard : Plan → (stores : ℕ) → List Message → (i : ℕ) → Event → Type 0
IsHeard plan stores messages i event = (IsFree event ⊎ (is_noticed plan event ≡ false)) ⊎ (IsSentTo messages i event ⊎ IsPublished stores messages event)

abbrev pub IsAction : Roster → (stores : ℕ) → (ℕ → Process) → List Message → Action → Type 0
IsAction roster stores all messages (Opened i w now) = (i < size roster) × IsOpened roster i (all i).file now w
IsAction roster stores all messages (Took i e asker left) =
    (i < size roster) × ((all i).runs ≡ true) × IsStep (all i).world e × IsHeard (all i).world.plan stores messages i e.input.event
IsAction roster stores all messages (Told i m) = (i < size roster) × ((all i).runs ≡ true) × (m < length roster.masters)

-- actions in an order in which each process has a legal history of its own, and hears what was sent before
abbrev pub AreActions : Roster → (stores : ℕ) → (ℕ → Process) → List Message → List Action → Type 0
AreActions roster stores all messages [] = Unit {0}
AreActions roster stores all messages (d ∷ ds) = IsAction roster stores all messages d × AreActions roster stores (action_after all d) (messages ++ sent_by d) ds

-- all actions together

abbrev pub actions_after : (ℕ → Process) → List Action → (ℕ → Process)
actions_after all [] = all
actions_after all (d ∷ ds) = actions_after (action_after all d) ds

abbrev pub all_sent : List Action → List Message
all_sent [] = []
all_sent (d ∷ ds) = sent_by d ++ all_sent ds

abbrev pub all_said : Roster → (ℕ → Process) → List Action → List Advertisement
all_said roster all [] = []
all_said roster all (d ∷ ds) = said_in roster all d ++ all_said roster (action_after all d) ds

abbrev pub all_elected : (ℕ → Process) → List Action → List Election
all_elected all [] = []
all_elected all (d ∷ ds) = elected_in all d ++ all_elected (action_after all d) ds

-- before the first action no process runs, and each file holds what it holds at the start
abbrev pub at_first : Group → (ℕ → Process)
at_first start = λ i. record { runs = false; world = no_world; file = (sentinel_at start i).file }

-- in the model Sentinel i has the file of its process, and is as the process's history leaves it
pub record IsAsProcess (i : ℕ) (p : Process) (group : Group) : Type 0 where
  pub file : (sentinel_at group i).file ≡ p.file
  pub left : p.runs ≡ true → IsAsLeft i p.world group

abbrev pub ProcessesAreARun : Type 0
ProcessesAreARun =
    (roster : Roster) (start : Group) (actions : List Action) →
    IsStart roster start →
    AreActions roster (length start.stores) (at_first start) [] actions →
    (steps : List Step) × (last : Group) × Run roster steps start last
    × (last.elected ≡ all_elected (at_first start) actions)
    × (last.said ≡ all_said roster (at_first start) actions)
    × ((message : Message) → Contains (all_sent actions) message → Contains last.messages message)
    × ((i : ℕ) → i < size roster → IsAsProcess i (actions_after (at_first start) actions i) last)

-- no epoch of a configuration in a process's file is lower after the second list of actions
abbrev pub FilesNeverFall : Roster → (ℕ → Process) → (ℕ → Process) → Type 0
FilesNeverFall roster before last = (i m : ℕ) → i < size roster → (card_of (before i).file m).epoch ≤ (card_of (last i).file m).epoch

-- the configuration that a process has stored is its file's, while it runs and no store of it was refused
abbrev pub StoredIsFiled : (ℕ → Process) → Type 0
StoredIsFiled all = (i : ℕ) → (all i).runs ≡ true → (all i).world.halted ≡ false → (all i).world.stored ≡ (all i).file

-- of any moment, which is the end of the first list of actions, and all that comes after it
abbrev pub ProcessesAreSafe : Type 0
ProcessesAreSafe =
    (roster : Roster) (start : Group) (actions more : List Action) →
    HasDistinctIds roster →
    IsStart roster start →
    AreActions roster (length start.stores) (at_first start) [] (actions ++ more) →
    HasOneLeader (all_elected (at_first start) (actions ++ more))
    × HasOneAddress (all_said roster (at_first start) (actions ++ more))
    × FilesNeverFall roster (actions_after (at_first start) actions) (actions_after (at_first start) (actions ++ more))
    × StoredIsFiled (actions_after (at_first start) actions)
