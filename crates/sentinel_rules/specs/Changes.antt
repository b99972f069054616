-- What one input changes of what is kept.
use Rattle.std.specs.Prelude.{◌≡◌, ◌≢◌, ℕ, ◌<◌, ◌⊎◌, Option, Some, None, Result, Ok, Err}
use Rattle.ballot_law.specs.declared.cards.Card.{Card}
use Rattle.ballot_law.specs.declared.cards.Kept.{Kept}
use Rattle.ballot_law.specs.declared.commands.Command.{Command}
use Rattle.ballot_law.specs.declared.commands.Command.TheVariants.{IsMasterDownByAddr}
use Rattle.ballot_law.specs.declared.events.Event.{Event}
use Rattle.ballot_law.specs.declared.events.Event.TheVariants.{Tick, Command as Commanded, InfoRead, HelloRead}
use Rattle.ballot_law.specs.declared.replies.Hello.{Hello}
use Rattle.ballot_law.specs.Ballots.{Campaign, Idle, Running, Won, Chosen, card_of, kept_of}
use Rattle.ballot_law.specs.Rosters.{master_named}
use Rattle.node_texts.specs.declared.faults.TextFault.{TextFault}
use Rattle.node_texts.specs.Hellos.{hello_of}
use Rattle.sentinel_rules.specs.Answers.{master_with_card}
use Rattle.ballot_law.specs.declared.node_places.NodePlace.{NodePlace}
use Rattle.sentinel_rules.specs.Plans.{Plan, roster_of, node_named}
use Rattle.sentinel_rules.specs.States.{Core, failover_of, opened}
use Rattle.sentinel_rules.specs.Steps.{campaign_in}
use Rattle.sentinel_rules.specs.Takes.{next}
use Rattle.sentinel_rules.specs.Facts.{IsSoundPlan, IsSound}
use Rattle.ballot_law.specs.Limits.{IsWithinEvent}

-- at most the current epoch, and the entry of one master
abbrev pub ChangesOne : Kept → Kept → Type 0
ChangesOne kept kept2 = (m : ℕ) × ((k : ℕ) → k ≢ m → kept_of kept2 k ≡ kept_of kept k)

-- the master whose entry an event may change

-- that of a question, which may be a request for a vote
abbrev pub asked_about : Command → Kept → Option ℕ
asked_about (IsMasterDownByAddr addr epoch candidate) kept = master_with_card kept.masters addr
asked_about _ kept = None

-- that of a data node
abbrev pub listed_by : Option NodePlace → Option ℕ
listed_by None = None
listed_by (Some at) = Some at.master

-- that which a hello names
abbrev pub told_of : Plan → Result Hello TextFault → Option ℕ
told_of plan (Err fault) = None
told_of plan (Ok hello) = master_named (roster_of plan) hello.master

abbrev pub concerned : Plan → Event → Kept → Option ℕ
concerned plan (Tick m random) kept = Some m
concerned plan (Commanded sender command) kept = asked_about command kept
concerned plan (InfoRead node text) kept = listed_by (node_named plan node)
concerned plan (HelloRead text) kept = told_of plan (hello_of text)
concerned plan event kept = None

-- at most the current epoch, and the entry of this master
abbrev pub ChangesAt : Option ℕ → Kept → Kept → Type 0
ChangesAt master kept kept2 = (k : ℕ) → master ≢ Some k → kept_of kept2 k ≡ kept_of kept k

-- the second configuration is the first one, or of a greater epoch
abbrev pub IsSameOrNewer : Card → Card → Type 0
IsSameOrNewer one two = (one ≡ two) ⊎ (one.epoch < two.epoch)

-- a failover is of an epoch above the configuration's, until its choice is the configuration
abbrev pub IsAheadOf : Card → Campaign → Type 0
IsAheadOf card Idle = Unit {0}
IsAheadOf card (Running epoch) = card.epoch < epoch
IsAheadOf card (Won epoch) = card.epoch < epoch
IsAheadOf card (Chosen epoch choice) = (card.epoch < epoch) ⊎ (card ≡ record { epoch = epoch; addr = choice })

abbrev pub IsAhead : Core → Type 0
IsAhead core = (m : ℕ) → IsAheadOf (card_of core.kept m) (campaign_in (failover_of core m).state)

-- an input changes at most the entry of the master that its event concerns
abbrev pub InputsChangeAt : Type 0
InputsChangeAt =
    (plan : Plan) (core : Core) (now : ℕ) (event : Event) →
    ChangesAt (concerned plan event core.kept) core.kept (next plan core now event).core.kept

-- so an input changes the configuration of at most one master
abbrev pub InputsChangeOne : Type 0
InputsChangeOne = (plan : Plan) (core : Core) (now : ℕ) (event : Event) → ChangesOne core.kept (next plan core now event).core.kept

-- a configuration that changes is of a greater epoch
abbrev pub InputsRaiseCards : Type 0
InputsRaiseCards =
    (plan : Plan) (core : Core) (now : ℕ) (event : Event) →
    IsSoundPlan plan →
    IsSound plan core →
    IsWithinEvent event →
    IsAhead core →
    IsAhead (next plan core now event).core
    × ((m : ℕ) → IsSameOrNewer (card_of core.kept m) (card_of (next plan core now event).core.kept m))

-- at the start no failover runs
abbrev pub OpenedIsAhead : Type 0
OpenedIsAhead = (plan : Plan) (now : ℕ) → IsAhead (opened plan now)
