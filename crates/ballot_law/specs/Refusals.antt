-- A run with what goes wrong in a group: a start after votes, stopped nodes, refused stores that leave either text, a
-- message that comes twice, and answers at any moment between.
use Rattle.std.specs.Prelude.{◌≡◌, ℕ, ◌-◌, false, Some, None, List, [], ◌∷◌, ◌++◌, replicate, Contains, codes}
use Rattle.ballot_law.specs.declared.addresses.Addr.{Addr}
use Rattle.ballot_law.specs.declared.addresses.RunId.{RunId}
use Rattle.ballot_law.specs.declared.cards.Card.{Card}
use Rattle.ballot_law.specs.declared.cards.Kept.{Kept}
use Rattle.ballot_law.specs.declared.cards.TheConstants.{MAX_EPOCH}
use Rattle.ballot_law.specs.declared.commands.Command.TheVariants.{GetMasterAddrByName, Masters, FlushConfig}
use Rattle.ballot_law.specs.declared.events.Event.{Event}
use Rattle.ballot_law.specs.declared.events.Event.TheVariants.{Tick, Command, Become}
use Rattle.ballot_law.specs.declared.events.Input.{Input}
use Rattle.ballot_law.specs.declared.messages.Body.TheVariants.{PingText, AddressAsk, PortReply}
use Rattle.ballot_law.specs.declared.messages.Message.{Message}
use Rattle.ballot_law.specs.declared.messages.NodeName.{NodeName}
use Rattle.ballot_law.specs.declared.messages.NodeName.TheVariants.{SentinelAt, StoreAt, ClientAt, PortAt}
use Rattle.ballot_law.specs.declared.records.Election.{Election}
use Rattle.ballot_law.specs.declared.records.Advertisement.{Advertisement}
use Rattle.ballot_law.specs.declared.steps.KeptText.TheVariants.{Old, New}
use Rattle.ballot_law.specs.declared.steps.Step.{Step}
use Rattle.ballot_law.specs.declared.steps.Step.TheVariants.{Take, Deliver, Store, StoreRefused, Release, Stop, Start, Answer}
use Rattle.ballot_law.specs.Rosters.{Roster}
use Rattle.ballot_law.specs.RosterFaults.{IsRoster}
use Rattle.ballot_law.specs.Messages.{Delivers}
use Rattle.ballot_law.specs.Ballots.{vote}
use Rattle.ballot_law.specs.Worlds.{Ready, Stopped, Halted, World, sentinel_at, started, Run}
use Rattle.ballot_law.specs.Law.{IsStart}

abbrev pub addr : (port : ℕ) → Addr
addr port = record { ip = 2130706433; port = port }

abbrev pub own_id : RunId
own_id = record { hi = 0; lo = 1 }

abbrev pub first_name : List ℕ
first_name = codes "first"

-- one Sentinel and two masters, each with two nodes
abbrev pub roster : Roster
roster =
    record {
      sentinels = (record { id = own_id; addr = addr 26379 }) ∷ [];
      masters =
          (record { name = first_name; nodes = addr 6379 ∷ addr 6380 ∷ []; quorum = 1 })
          ∷ (record { name = codes "second"; nodes = addr 6381 ∷ addr 6382 ∷ []; quorum = 1 })
          ∷ [];
    }

abbrev pub first_card : Card
first_card = record { epoch = 2; addr = addr 6379 }

abbrev pub second_card : Card
second_card = record { epoch = 4; addr = addr 6381 }

-- votes were given for both masters, the first one by a file that tells no candidate, and two epochs are left
abbrev pub first_file : Kept
first_file =
    record {
      current = MAX_EPOCH - 2;
      masters = (record { card = first_card; voted = 3; candidate = None }) ∷ (record { card = second_card; voted = 5; candidate = Some own_id }) ∷ [];
    }

-- the configuration of the first master after a failover in the last epoch but one
abbrev pub new_card : Card
new_card = record { epoch = MAX_EPOCH - 1; addr = addr 6380 }

-- what the file holds when both masters had a campaign
abbrev pub last_file : Kept
last_file =
    record {
      current = MAX_EPOCH;
      masters =
          (record { card = new_card; voted = MAX_EPOCH - 1; candidate = Some own_id })
          ∷ (record { card = second_card; voted = MAX_EPOCH; candidate = Some own_id })
          ∷ [];
    }

-- the Sentinel and the first data node are stopped; the only client has number 5
abbrev pub begin : World
begin =
    record {
      sentinels = (record (started roster first_file) { state = Stopped }) ∷ [];
      stores = (record { state = Stopped; held = [] }) ∷ (record { state = Ready; held = [] }) ∷ [];
      clients = replicate 5 None ++ Some (record { state = Ready; held = [] }) ∷ [];
      messages = [];
      votes = vote 0 1 5 own_id ∷ [];
      elected = [];
      said = [];
    }

abbrev pub me : NodeName
me = SentinelAt 0

-- the data node says something, and the client asks where the first master is
abbrev pub pong : Message
pong = record { sender = StoreAt 0; target = me; body = PingText false (codes "PONG") }

abbrev pub question : Message
question = record { sender = ClientAt 5; target = me; body = AddressAsk first_name }

-- one answer that shows the configurations of both masters
abbrev pub listed : Message
listed =
    record {
      sender = me;
      target = PortAt 0;
      body = PortReply ((record { master = 0; card = first_card }) ∷ (record { master = 1; card = second_card }) ∷ []) [];
    }

abbrev pub at_zero : Event → Input
at_zero event = record { now = 0; event = event }

-- the data node is made a replica that lags, and says something; the client asks
abbrev pub others_speak : List Step
others_speak =
    Start me 0
    ∷ Start (StoreAt 0) 0
    ∷ Take (StoreAt 0) (at_zero (Become 1 2 3))
    ∷ Store (StoreAt 0)
    ∷ Release (StoreAt 0)
    ∷ Take (ClientAt 5) (at_zero (Tick 0 0))
    ∷ Store (ClientAt 5)
    ∷ Release (ClientAt 5)
    ∷ []

-- the question comes twice; a refused store of nothing is a store. Then another client asks for all masters
abbrev pub asked : List Step
asked =
    Deliver 1 0
    ∷ StoreRefused me Old
    ∷ Release me
    ∷ Deliver 1 0
    ∷ Store me
    ∷ Release me
    ∷ Take me (at_zero (Command (PortAt 0) Masters))
    ∷ Store me
    ∷ Release me
    ∷ []

-- a failover of the first master isn't stored; the Sentinel answers while it is halted, and from the old file
abbrev pub refused_old : List Step
refused_old =
    Take me (at_zero (Tick 0 0))
    ∷ StoreRefused me Old
    ∷ Answer me 0
    ∷ Stop me New
    ∷ Start me 0
    ∷ Answer me 0
    ∷ []

-- the same failover; the Sentinel answers while the store is pending, the store is refused and leaves the new text
abbrev pub refused_new : List Step
refused_new =
    Take me (at_zero (Tick 0 0))
    ∷ Answer me 0
    ∷ StoreRefused me New
    ∷ Stop me Old
    ∷ Start me 0
    ∷ Answer me 0
    ∷ []

-- it is elected for the second master, in the last epoch
abbrev pub elected : List Step
elected =
    Take me (at_zero (Tick 1 0))
    ∷ Store me
    ∷ Release me
    ∷ []

-- FLUSHCONFIG stores what is kept, changed or not; refused, the Sentinel halts and sends nothing
abbrev pub flushed : List Step
flushed =
    Take me (at_zero (Command (PortAt 0) FlushConfig))
    ∷ StoreRefused me Old
    ∷ Release me
    ∷ []

abbrev pub steps : List Step
steps = others_speak ++ asked ++ refused_old ++ refused_new ++ elected ++ flushed

abbrev pub says : (m : ℕ) → Card → Advertisement
says m card = record { sentinel = 0; master = m; card = card }

-- what the world shows at the end
pub record IsEnd (last : World) : Type 0 where
  pub messages : Contains last.messages pong
  -- MASTERS is answered by one message that shows both configurations
  pub listed_is : Contains last.messages listed
  pub votes : last.votes ≡ vote 0 1 5 own_id ∷ vote 0 0 (MAX_EPOCH - 1) own_id ∷ vote 0 1 MAX_EPOCH own_id ∷ []
  -- the failover whose store was refused with the new text is no election
  pub elected_are : last.elected ≡ (let e : Election = record { sentinel = 0; master = 1; epoch = MAX_EPOCH } in e) ∷ []
  -- two answers to the question, one to MASTERS, and four at moments between
  pub said : last.said
      ≡ says 0 first_card
      ∷ says 0 first_card
      ∷ says 0 first_card
      ∷ says 1 second_card
      ∷ says 0 first_card
      ∷ says 0 first_card
      ∷ says 0 first_card
      ∷ says 0 new_card
      ∷ []
  pub state : (sentinel_at last 0).state ≡ Halted
  pub kept : (sentinel_at last 0).parts.kept ≡ last_file
  pub file : (sentinel_at last 0).file ≡ last_file

-- there is such a run; the question reaches the Sentinel as the command with the name that the client asked for
abbrev pub RefusalsHappen : Type 0
RefusalsHappen =
    IsRoster roster
    × IsStart roster begin
    × Delivers question (Command (ClientAt 5) (GetMasterAddrByName (Some first_name)))
    × ((last : World) × Run roster steps begin last × IsEnd last)
