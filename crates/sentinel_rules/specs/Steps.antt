-- One input by single steps of the ballot model.
use Rattle.std.specs.Prelude.{◌≡◌, ℕ, ◌<◌, ◌≤◌, Option, Some, None, List, [], ◌∷◌, length, All, Contains}
use Rattle.ballot_law.specs.declared.events.Event.{Event}
use Rattle.ballot_law.specs.declared.hearings.HeardVote.{HeardVote}
use Rattle.ballot_law.specs.declared.messages.Output.{Output}
use Rattle.ballot_law.specs.declared.records.Win.{Win}
use Rattle.ballot_law.specs.Ballots.{Campaign, Idle as NoCampaign, Running, Won, Chosen, OpenMaster, Parts, Ballot, Moved, vote, open_of, restored}
use Rattle.ballot_law.specs.VotesHeard.{kept_at}
use Rattle.ballot_law.specs.Worlds.{IsRightOutput}
use Rattle.failover_states.specs.declared.states.FailoverState.{FailoverState}
use Rattle.failover_states.specs.declared.states.FailoverState.TheVariants.{Idle, WaitStart, SelectReplica, SendPromotion, WaitPromotion, ReconfReplicas, UpdateConfig}
use Rattle.sentinel_rules.specs.Plans.{Plan, roster_of}
use Rattle.sentinel_rules.specs.States.{Core, MasterState, master_of, opened}
use Rattle.sentinel_rules.specs.Takes.{next}
use Rattle.sentinel_rules.specs.Facts.{IsSoundPlan, IsSound}
use Rattle.ballot_law.specs.Limits.{IsWithinEvent}

-- what a failover is to the model
abbrev pub campaign_in : FailoverState → Campaign
campaign_in Idle = NoCampaign
campaign_in (WaitStart epoch) = Running epoch
campaign_in (SelectReplica epoch) = Won epoch
campaign_in (SendPromotion epoch choice) = Chosen epoch choice.addr
campaign_in (WaitPromotion epoch choice former) = Chosen epoch choice.addr
campaign_in (ReconfReplicas epoch choice former) = Chosen epoch choice.addr
campaign_in (UpdateConfig epoch choice) = Chosen epoch choice.addr

-- each vote that is kept was heard, and the campaign is the same
pub record IsOpenOf (m : ℕ) (master : MasterState) (open_part : OpenMaster) : Type 0 where
  pub heard : (voter : ℕ) (given : HeardVote) → kept_at master.heard voter ≡ Some given → Contains open_part.heard (vote voter m given.epoch given.candidate)
  pub campaign : open_part.campaign ≡ campaign_in master.failover.state

abbrev pub wins_of : Option Win → List Win
wins_of None = []
wins_of (Some win) = win ∷ []

-- the parts of the model that a core stands for
pub record IsPartsOf (core : Core) (parts : Parts) : Type 0 where
  pub kept : parts.kept ≡ core.kept
  pub count : length parts.masters ≡ length core.masters
  pub each : (m : ℕ) → m < length core.masters → IsOpenOf m (master_of core m) (open_of parts m)
  pub wins : parts.wins ≡ wins_of core.won

-- an input is at most six steps of the model, what is put out shows what is kept at its end, and the core stays sound
pub record IsTake (plan : Plan) (core : Core) (parts : Parts) (event : Event) (after : Core) (outputs : List Output) : Type 0 where
  pub ballots : List Ballot
  pub moved_to : Parts
  pub few : length ballots ≤ 6
  pub moved : Moved (roster_of plan) plan.place event ballots (record parts { casts = []; wins = [] }) moved_to
  pub parts_after : IsPartsOf after moved_to
  pub right : All (IsRightOutput (roster_of plan) plan.place moved_to) outputs
  pub sound : IsSound plan after

abbrev pub InputsAreSteps : Type 0
InputsAreSteps =
    (plan : Plan) (core : Core) (parts : Parts) (now : ℕ) (event : Event) →
    IsSoundPlan plan →
    IsSound plan core →
    IsPartsOf core parts →
    IsWithinEvent event →
    IsTake plan core parts event (next plan core now event).core (next plan core now event).outputs

-- the core at the start is sound, and stands for what the model restores from the file
abbrev pub OpenedIsSound : Type 0
OpenedIsSound =
    (plan : Plan) (now : ℕ) →
    IsSoundPlan plan →
    IsSound plan (opened plan now) × IsPartsOf (opened plan now) (restored (roster_of plan) plan.conf.kept)
