-- A take wins for masters of the roster alone, at epochs within the limit.
use Rattle.std.proofs.Common.{inl, inr, ◌≤◌, ◌<◌, ◌+◌, ℕ, zero, suc, Option, Some, None, List, [], ◌∷◌, ◌++◌, length, get_or, set, sym, subst, arith}
use Rattle.std.specs.List.{AllByRecursion}
use Rattle.std.specs.Prelude.{IfSome}
use Rattle.std.proofs.lemmas.Bool.{cases_lt}
use Rattle.std.proofs.lemmas.List.{get_or_past}
use Rattle.ballot_law.specs.declared.cards.TheConstants.{MAX_EPOCH}
use Rattle.ballot_law.specs.declared.events.Event.{Event}
use Rattle.ballot_law.specs.declared.records.Win.{Win}
use Rattle.ballot_law.specs.Ballots.{Campaign, Idle, Running, Won, Chosen, OpenMaster, empty, Parts, Ballot, Raise, Open, Cast, Hear, Win_at, Choose, Enact, Adopt, Drop, campaign_of, IsAllowed, Moved, after}
use Rattle.ballot_law.specs.Rosters.{Roster}
use Rattle.failover_states.specs.declared.states.FailoverState.{FailoverState}
use Rattle.failover_states.specs.declared.states.FailoverState.TheVariants as state
use Rattle.failover_states.specs.Calls.{epoch_of}
use Rattle.sentinel_rules.specs.Facts.{IsSound}
use Rattle.sentinel_rules.specs.Plans.{Plan}
use Rattle.sentinel_rules.specs.States.{Core, master_of}
use Rattle.sentinel_rules.specs.Steps.{IsPartsOf, campaign_in, wins_of}
use Rattle.boxed_nodes.specs.Sentinels.Kinds.{IsWinOf}

-- Campaigns

abbrev pub IsCampaignWithin : Campaign → Type 0
IsCampaignWithin Idle = Unit {0}
IsCampaignWithin (Running epoch) = epoch ≤ MAX_EPOCH
IsCampaignWithin (Won epoch) = epoch ≤ MAX_EPOCH
IsCampaignWithin (Chosen epoch choice) = epoch ≤ MAX_EPOCH

abbrev pub AreCampaignsWithin : Parts → Type 0
AreCampaignsWithin parts = (m : ℕ) → IsCampaignWithin (campaign_of parts m)

-- one master's campaign has changed
set_at : (masters : List OpenMaster) (m j : ℕ) (opened : OpenMaster) → IsCampaignWithin opened.campaign → IsCampaignWithin (get_or masters j empty).campaign →
    IsCampaignWithin (get_or (set masters m opened) j empty).campaign
set_at [] m j opened new old = old
set_at (x ∷ masters) zero zero opened new old = new
set_at (x ∷ masters) zero (suc j) opened new old = old
set_at (x ∷ masters) (suc m) zero opened new old = old
set_at (x ∷ masters) (suc m) (suc j) opened new old = set_at masters m j opened new old

one_above : (epoch : ℕ) → epoch < MAX_EPOCH → epoch + 1 ≤ MAX_EPOCH
one_above epoch below = omega (arith, below)

step_within : (roster : Roster) (i : ℕ) (event : Event) (parts : Parts) (ballot : Ballot) → IsAllowed roster i event parts ballot → AreCampaignsWithin parts →
    AreCampaignsWithin (after i parts ballot)
step_within roster i event parts (Raise e) allowed fine j = fine j
step_within roster i event parts (Open m) allowed fine j = set_at parts.masters m j _ (one_above parts.kept.current allowed.2) (fine j)
step_within roster i event parts (Cast m e c) allowed fine j = set_at parts.masters m j _ (fine m) (fine j)
step_within roster i event parts (Hear v m e c) allowed fine j = set_at parts.masters m j _ (fine m) (fine j)
step_within roster i event parts (Win_at m e) allowed fine j = set_at parts.masters m j _ (subst IsCampaignWithin allowed.1 (fine m)) (fine j)
step_within roster i event parts (Choose m e a) allowed fine j = set_at parts.masters m j _ (subst IsCampaignWithin allowed.1 (fine m)) (fine j)
step_within roster i event parts (Enact m e a) allowed fine j = set_at parts.masters m j _ (fine m) (fine j)
step_within roster i event parts (Adopt m card) allowed fine j = set_at parts.masters m j _ tt (fine j)
step_within roster i event parts (Drop m) allowed fine j = set_at parts.masters m j _ tt (fine j)

-- of a failover, whose epoch has come
state_within : (failover : FailoverState) (current : ℕ) → IfSome (epoch_of failover) (λ epoch. epoch ≤ current) → current ≤ MAX_EPOCH → IsCampaignWithin (campaign_in failover)
state_within state.Idle current come few = tt
state_within (state.WaitStart epoch) current come few = omega (arith, come, few)
state_within (state.SelectReplica epoch) current come few = omega (arith, come, few)
state_within (state.SendPromotion epoch choice) current come few = omega (arith, come, few)
state_within (state.WaitPromotion epoch choice former) current come few = omega (arith, come, few)
state_within (state.ReconfReplicas epoch choice former) current come few = omega (arith, come, few)
state_within (state.UpdateConfig epoch choice) current come few = omega (arith, come, few)

pub parts_within : (plan : Plan) (core : Core) (parts : Parts) → IsSound plan core → IsPartsOf core parts → AreCampaignsWithin parts
parts_within plan core parts sound is m =
    elim (cases_lt m (length core.masters)) as (λ _. IsCampaignWithin (campaign_of parts m)) [
      | inl there ↦ subst IsCampaignWithin (sym (is.each m there).campaign)
          (state_within (master_of core m).failover.state core.kept.current (sound.each m (subst (λ n. m < n) sound.masters there)).epoch sound.kept.current)
      | inr past ↦ subst (λ (o : OpenMaster). IsCampaignWithin o.campaign) (sym (get_or_past parts.masters m empty (subst (λ n. n ≤ m) (sym is.count) past))) tt
    ]

-- Wins

abbrev AreWithin : Roster → List Win → Type 0
AreWithin roster wins = AllByRecursion (λ win. (win.master < length roster.masters) × (win.epoch ≤ MAX_EPOCH)) wins

one_more : (roster : Roster) (wins : List Win) (win : Win) → AreWithin roster wins → (win.master < length roster.masters) × (win.epoch ≤ MAX_EPOCH) →
    AreWithin roster (wins ++ win ∷ [])
one_more roster [] win fine last = (last, tt)
one_more roster (first ∷ wins) win fine last = (fine.0, one_more roster wins win fine.1 last)

-- a step wins for a master of the roster at its campaign's epoch, or for none
step_wins : (roster : Roster) (i : ℕ) (event : Event) (parts : Parts) (ballot : Ballot) → IsAllowed roster i event parts ballot → AreCampaignsWithin parts →
    AreWithin roster parts.wins → AreWithin roster (after i parts ballot).wins
step_wins roster i event parts (Raise e) allowed campaigns fine = fine
step_wins roster i event parts (Open m) allowed campaigns fine = fine
step_wins roster i event parts (Cast m e c) allowed campaigns fine = fine
step_wins roster i event parts (Hear v m e c) allowed campaigns fine = fine
step_wins roster i event parts (Win_at m e) allowed campaigns fine =
    one_more roster parts.wins (record { master = m; epoch = e }) fine (allowed.0, subst IsCampaignWithin allowed.1 (campaigns m))
step_wins roster i event parts (Choose m e a) allowed campaigns fine = fine
step_wins roster i event parts (Enact m e a) allowed campaigns fine = fine
step_wins roster i event parts (Adopt m card) allowed campaigns fine = fine
step_wins roster i event parts (Drop m) allowed campaigns fine = fine

all_wins : (roster : Roster) (i : ℕ) (event : Event) (ballots : List Ballot) (parts last : Parts) → Moved roster i event ballots parts last → AreCampaignsWithin parts →
    AreWithin roster parts.wins → AreWithin roster last.wins
all_wins roster i event [] parts last moved campaigns fine = subst (λ (p : Parts). AreWithin roster p.wins) moved fine
all_wins roster i event (ballot ∷ ballots) parts last moved campaigns fine =
    all_wins roster i event ballots (after i parts ballot) last moved.1 (step_within roster i event parts ballot moved.0 campaigns)
    (step_wins roster i event parts ballot moved.0 campaigns fine)

win_listed : (roster : Roster) (won : Option Win) → AreWithin roster (wins_of won) → IsWinOf roster won
win_listed roster None fine = tt
win_listed roster (Some win) fine = fine.0

-- a take begins with no win
pub won_of : (roster : Roster) (i : ℕ) (event : Event) (ballots : List Ballot) (parts last : Parts) (core : Core) →
    Moved roster i event ballots (record parts { casts = []; wins = [] }) last → IsPartsOf core last → AreCampaignsWithin parts → IsWinOf roster core.won
won_of roster i event ballots parts last core moved is campaigns =
    win_listed roster core.won (subst (AreWithin roster) is.wins (all_wins roster i event ballots (record parts { casts = []; wins = [] }) last moved campaigns tt))
