-- A configuration that an input changes is of a greater epoch.
use Rattle.std.proofs.Common.{◌≡◌, ◌≢◌, ◌⊎◌, ℕ, zero, suc, ◌+◌, ◌<◌, ◌≤◌, max, Option, Some, None, List, [], ◌∷◌, length, ◌++◌, map, slice_index_or, length-set, refl, sym, ap, subst, ◌∙◌, ⊎_elim, inl, inr, arith, get_or-set_same, get_or-set_other}
use Rattle.std.specs.Prelude.{Contains, IfSome}
use Rattle.std.proofs.lemmas.Bool.{cases_eq}
use Rattle.ballot_law.specs.declared.addresses.Addr.{Addr}
use Rattle.ballot_law.specs.declared.cards.Card.{Card}
use Rattle.ballot_law.specs.declared.cards.Kept.{Kept}
use Rattle.ballot_law.specs.declared.cards.KeptMaster.{KeptMaster}
use Rattle.ballot_law.specs.declared.events.Event.{Event}
use Rattle.ballot_law.specs.declared.hearings.HeardVote.{HeardVote}
use Rattle.ballot_law.specs.Ballots.{Campaign, Idle, Running, Won, Chosen, OpenMaster, Parts, Ballot, Raise, Open, Cast, Hear, Win_at, Choose, Enact, Adopt, Drop, IsAllowed, Moved, after, changed, vote, empty, no_kept, kept_of, card_of, open_of, campaign_of}
use Rattle.ballot_law.specs.Messages.{Vote}
use Rattle.ballot_law.specs.Rosters.{Roster, MasterPlan}
use Rattle.ballot_law.proofs.CountedVotes.{Contains-head, Contains-later}
use Rattle.failover_states.specs.declared.states.FailoverState.{FailoverState}
use Rattle.failover_states.specs.declared.states.FailoverState.TheVariants.{Idle as NoState, WaitStart, SelectReplica, SendPromotion, WaitPromotion, ReconfReplicas, UpdateConfig}
use Rattle.failover_states.specs.Calls.{epoch_of}
use Rattle.ballot_law.specs.Clocks.{clock}
use Rattle.sentinel_rules.specs.Plans.{Plan, roster_of, master_count, group_size}
use Rattle.sentinel_rules.specs.States.{Core, MasterState, no_master, master_of, failover_of, new_master, opened}
use Rattle.sentinel_rules.specs.Steps.{campaign_in, IsOpenOf, wins_of, IsPartsOf, IsTake}
use Rattle.sentinel_rules.specs.Takes.{next}
use Rattle.sentinel_rules.specs.Facts.{IsSound}
use Rattle.sentinel_rules.specs.Changes.{IsSameOrNewer, IsAheadOf, IsAhead, InputsRaiseCards, OpenedIsAhead}
use Rattle.sentinel_rules.proofs.KeptParts.{kept_at as kept_part_at}
use Rattle.sentinel_rules.proofs.InputSteps.{inputs_are_steps}

-- Parts of a core

abbrev votes_from : (m place : ℕ) → List (Option HeardVote) → List Vote
votes_from m place [] = []
votes_from m place (None ∷ votes) = votes_from m (place + 1) votes
votes_from m place (Some given ∷ votes) = vote place m given.epoch given.candidate ∷ votes_from m (place + 1) votes

in_votes : (m place : ℕ) (votes : List (Option HeardVote)) (voter : ℕ) (given : HeardVote) → slice_index_or votes voter None ≡ Some given →
    Contains (votes_from m place votes) (vote (place + voter) m given.epoch given.candidate)
in_votes m place [] voter given e = absurd (cc)
in_votes m place (None ∷ votes) zero given e = absurd (cc)
in_votes m place (None ∷ votes) (suc voter) given e =
    let there = in_votes m (place + 1) votes voter given e in
    let same : (place + 1) + voter ≡ place + suc voter = omega arith in
    subst (λ (v : ℕ). Contains (votes_from m (place + 1) votes) (vote v m given.epoch given.candidate)) same there
in_votes m place (Some first ∷ votes) zero given e =
    let same : first ≡ given = cc in
    let here : place ≡ place + zero = omega arith in
    subst (λ (g : HeardVote). Contains (vote place m first.epoch first.candidate ∷ votes_from m (place + 1) votes) (vote (place + zero) m g.epoch g.candidate)) same
    (subst (λ (v : ℕ). Contains (vote place m first.epoch first.candidate ∷ votes_from m (place + 1) votes) (vote v m first.epoch first.candidate)) here
    (Contains-head (vote place m first.epoch first.candidate) (votes_from m (place + 1) votes)))
in_votes m place (Some first ∷ votes) (suc voter) given e =
    let there = in_votes m (place + 1) votes voter given e in
    let same : (place + 1) + voter ≡ place + suc voter = omega arith in
    Contains-later (vote place m first.epoch first.candidate) (vote (place + suc voter) m given.epoch given.candidate) (votes_from m (place + 1) votes)
    (subst (λ (v : ℕ). Contains (votes_from m (place + 1) votes) (vote v m given.epoch given.candidate)) same there)

abbrev open_at : (m : ℕ) → MasterState → OpenMaster
open_at m master = record { heard = votes_from m 0 master.heard; campaign = campaign_in master.failover.state }

abbrev opens_from : (m : ℕ) → List MasterState → List OpenMaster
opens_from m [] = []
opens_from m (master ∷ masters) = open_at m master ∷ opens_from (m + 1) masters

opens_long : (m : ℕ) (masters : List MasterState) → length (opens_from m masters) ≡ length masters
opens_long m [] = refl
opens_long m (master ∷ masters) = ap suc (opens_long (m + 1) masters)

opens_at : (m : ℕ) (masters : List MasterState) (k : ℕ) → k < length masters → slice_index_or (opens_from m masters) k empty ≡ open_at (m + k) (slice_index_or masters k no_master)
opens_at m [] k h = absurd (omega arith)
opens_at m (master ∷ masters) zero h = let same : m ≡ m + zero = omega arith in ap (λ (x : ℕ). open_at x master) same
opens_at m (master ∷ masters) (suc k) h =
    let same : (m + 1) + k ≡ m + suc k = omega arith in
    opens_at (m + 1) masters k (omega arith) ∙ ap (λ (x : ℕ). open_at x (slice_index_or masters k no_master)) same

nothing_more : (m : ℕ) → 0 + m ≡ m
nothing_more m = omega arith

-- what a core stands for, with each vote that it keeps
abbrev pub parts_of : Core → Parts
parts_of core = record { kept = core.kept; masters = opens_from 0 core.masters; casts = []; wins = wins_of core.won }

pub are_parts_of : (core : Core) → IsPartsOf core (parts_of core)
are_parts_of core =
    record {
      kept = refl;
      count = opens_long 0 core.masters;
      each = λ m lt. subst (IsOpenOf m (master_of core m)) (sym (opens_at 0 core.masters m lt ∙ ap (λ (x : ℕ). open_at x (master_of core m)) (nothing_more m)))
          (record {
            heard = λ voter given e. subst (λ (v : ℕ). Contains (votes_from m 0 (master_of core m).heard) (vote v m given.epoch given.candidate)) (nothing_more voter)
                (in_votes m 0 (master_of core m).heard voter given e);
            campaign = refl;
          });
      wins = refl;
    }

-- What holds along the steps

-- the campaign's epoch has come
abbrev IsUpTo : (current : ℕ) → Campaign → Type 0
IsUpTo current Idle = Unit {0}
IsUpTo current (Running epoch) = epoch ≤ current
IsUpTo current (Won epoch) = epoch ≤ current
IsUpTo current (Chosen epoch choice) = epoch ≤ current

up_later : (a b : ℕ) (campaign : Campaign) → a ≤ b → IsUpTo a campaign → IsUpTo b campaign
up_later a b Idle le h = tt
up_later a b (Running epoch) le h = let l : epoch ≤ a = h in omega arith
up_later a b (Won epoch) le h = let l : epoch ≤ a = h in omega arith
up_later a b (Chosen epoch choice) le h = let l : epoch ≤ a = h in omega arith

-- each configuration's epoch has come, and each campaign is ahead of it
record Holds (roster : Roster) (parts : Parts) : Type 0 where
  kept_long : length parts.kept.masters ≡ length roster.masters
  open_long : length parts.masters ≡ length roster.masters
  low : (k : ℕ) → (card_of parts.kept k).epoch ≤ parts.kept.current
  ahead : (k : ℕ) → IsAheadOf (card_of parts.kept k) (campaign_of parts k)
  up : (k : ℕ) → IsUpTo parts.kept.current (campaign_of parts k)

-- and what a step, or several, do to the configurations
record Goes (roster : Roster) (parts last : Parts) : Type 0 where
  holds : Holds roster last
  newer : (k : ℕ) → IsSameOrNewer (card_of parts.kept k) (card_of last.kept k)

newer_then : (one two three : Card) → IsSameOrNewer one two → IsSameOrNewer two three → IsSameOrNewer one three
newer_then one two three f g = ⊎_elim
    (λ (e : one ≡ two). subst (λ (c : Card). IsSameOrNewer c three) (sym e) g)
    (λ (l : one.epoch < two.epoch). ⊎_elim
    (λ (e : two ≡ three). inr (subst (λ (c : Card). one.epoch < c.epoch) e l))
    (λ (l' : two.epoch < three.epoch). inr (omega arith)) g) f

-- one master's entries change
module _ (roster : Roster) (parts : Parts) (h : Holds roster parts) (current m : ℕ) (kept : KeptMaster) (opened : OpenMaster) (lt : m < length roster.masters) where
  in_kept : m < length parts.kept.masters
  in_kept = subst (λ (n : ℕ). m < n) (sym h.kept_long) lt

  in_open : m < length parts.masters
  in_open = subst (λ (n : ℕ). m < n) (sym h.open_long) lt

  kept_here : kept_of (changed parts current m kept opened).kept m ≡ kept
  kept_here = get_or-set_same parts.kept.masters m kept no_kept in_kept

  open_here : open_of (changed parts current m kept opened) m ≡ opened
  open_here = get_or-set_same parts.masters m opened empty in_open

  kept_there : (k : ℕ) → k ≢ m → kept_of (changed parts current m kept opened).kept k ≡ kept_of parts.kept k
  kept_there k apart = get_or-set_other parts.kept.masters m k kept no_kept apart

  open_there : (k : ℕ) → k ≢ m → open_of (changed parts current m kept opened) k ≡ open_of parts k
  open_there k apart = get_or-set_other parts.masters m k opened empty apart

  goes : parts.kept.current ≤ current → kept.card.epoch ≤ current → IsAheadOf kept.card opened.campaign → IsUpTo current opened.campaign →
      IsSameOrNewer (card_of parts.kept m) kept.card → Goes roster parts (changed parts current m kept opened)
  goes later low ahead up newer =
      record {
        holds = record {
          kept_long = length-set parts.kept.masters m kept ∙ h.kept_long;
          open_long = length-set parts.masters m opened ∙ h.open_long;
          low = λ k. ⊎_elim
              (λ (e : k ≡ m). subst (λ (i : ℕ). (card_of (changed parts current m kept opened).kept i).epoch ≤ current) (sym e)
              (subst (λ (x : KeptMaster). x.card.epoch ≤ current) (sym kept_here) low))
              (λ (apart : k ≢ m). subst (λ (x : KeptMaster). x.card.epoch ≤ current) (sym (kept_there k apart))
              (let before : (card_of parts.kept k).epoch ≤ parts.kept.current = h.low k in omega arith))
              (cases_eq k m);
          ahead = λ k. ⊎_elim
              (λ (e : k ≡ m). subst (λ (i : ℕ). IsAheadOf (card_of (changed parts current m kept opened).kept i) (campaign_of (changed parts current m kept opened) i)) (sym e)
              (subst (λ (x : KeptMaster × OpenMaster). IsAheadOf x.0.card x.1.campaign) (λ i. (sym kept_here i, sym open_here i)) ahead))
              (λ (apart : k ≢ m). subst (λ (x : KeptMaster × OpenMaster). IsAheadOf x.0.card x.1.campaign) (λ i. (sym (kept_there k apart) i, sym (open_there k apart) i))
              (h.ahead k))
              (cases_eq k m);
          up = λ k. ⊎_elim
              (λ (e : k ≡ m). subst (λ (i : ℕ). IsUpTo current (campaign_of (changed parts current m kept opened) i)) (sym e)
              (subst (λ (x : OpenMaster). IsUpTo current x.campaign) (sym open_here) up))
              (λ (apart : k ≢ m). subst (λ (x : OpenMaster). IsUpTo current x.campaign) (sym (open_there k apart))
              (up_later parts.kept.current current (campaign_of parts k) later (h.up k)))
              (cases_eq k m);
        };
        newer = λ k. ⊎_elim
            (λ (e : k ≡ m). subst (λ (i : ℕ). IsSameOrNewer (card_of parts.kept i) (card_of (changed parts current m kept opened).kept i)) (sym e)
            (subst (λ (x : KeptMaster). IsSameOrNewer (card_of parts.kept m) x.card) (sym kept_here) newer))
            (λ (apart : k ≢ m). inl (ap (λ (x : KeptMaster). x.card) (sym (kept_there k apart))))
            (cases_eq k m);
      }

-- the parts with other lists of casts and wins
recorded : (roster : Roster) (parts last last2 : Parts) → last2.kept ≡ last.kept → last2.masters ≡ last.masters → Goes roster parts last → Goes roster parts last2
recorded roster parts last last2 e f g =
    record {
      holds = record {
        kept_long = ap (λ (kept : Kept). length kept.masters) e ∙ g.holds.kept_long;
        open_long = ap (λ (masters : List OpenMaster). length masters) f ∙ g.holds.open_long;
        low = λ k. subst (λ (kept : Kept). (card_of kept k).epoch ≤ kept.current) (sym e) (g.holds.low k);
        ahead = λ k. subst (λ (x : Kept × List OpenMaster). IsAheadOf (card_of x.0 k) (slice_index_or x.1 k empty).campaign) (λ i. (sym e i, sym f i)) (g.holds.ahead k);
        up = λ k. subst (λ (x : Kept × List OpenMaster). IsUpTo x.0.current (slice_index_or x.1 k empty).campaign) (λ i. (sym e i, sym f i)) (g.holds.up k);
      };
      newer = λ k. subst (λ (kept : Kept). IsSameOrNewer (card_of parts.kept k) (card_of kept k)) (sym e) (g.newer k);
    }

chosen_ahead : (card : Card) (epoch : ℕ) (choice : Addr) (campaign : Campaign) → campaign ≡ Chosen epoch choice → IsAheadOf card campaign →
    (card.epoch < epoch) ⊎ (card ≡ record { epoch = epoch; addr = choice })
chosen_ahead card epoch choice campaign e h = let g : IsAheadOf card (Chosen epoch choice) = subst (IsAheadOf card) e h in g

-- the choice of a campaign is the configuration, or of a greater epoch
enacted : (card : Card) (epoch : ℕ) (choice : Addr) → (card.epoch < epoch) ⊎ (card ≡ record { epoch = epoch; addr = choice }) →
    IsSameOrNewer card (record { epoch = epoch; addr = choice })
enacted card epoch choice h = ⊎_elim (λ (l : card.epoch < epoch). inr l) (λ (e : card ≡ record { epoch = epoch; addr = choice }). inl e) h

up_enacted : (current epoch : ℕ) (choice : Addr) (campaign : Campaign) → campaign ≡ Chosen epoch choice → IsUpTo current campaign → epoch ≤ current
up_enacted current epoch choice campaign e h = let g : IsUpTo current (Chosen epoch choice) = subst (IsUpTo current) e h in g

-- a campaign is opened above all configurations, and enacts its epoch
one_step : (roster : Roster) (i : ℕ) (event : Event) (parts : Parts) (ballot : Ballot) → Holds roster parts → IsAllowed roster i event parts ballot →
    Goes roster parts (after i parts ballot)
one_step roster i event parts (Raise e) h may =
    let up : parts.kept.current < e = may in
    record {
      holds = record {
        kept_long = h.kept_long;
        open_long = h.open_long;
        low = λ k. (let low : (card_of parts.kept k).epoch ≤ parts.kept.current = h.low k in omega arith);
        ahead = h.ahead;
        up = λ k. up_later parts.kept.current e (campaign_of parts k) (omega arith) (h.up k);
      };
      newer = λ k. inl refl;
    }
one_step roster i event parts (Open m) h may =
    let low : (card_of parts.kept m).epoch ≤ parts.kept.current = h.low m in
    goes roster parts h (parts.kept.current + 1) m (kept_of parts.kept m) (record (open_of parts m) { campaign = Running (parts.kept.current + 1) }) may.0 (omega arith)
    (omega arith) (omega arith) (omega arith) (inl refl)
one_step roster i event parts (Cast m e c) h may =
    recorded roster parts (changed parts parts.kept.current m (record (kept_of parts.kept m) { voted = e; candidate = Some c }) (open_of parts m)) (after i parts (Cast m e c))
    refl refl
    (goes roster parts h parts.kept.current m (record (kept_of parts.kept m) { voted = e; candidate = Some c }) (open_of parts m) may.0 (omega arith) (h.low m) (h.ahead m)
    (h.up m) (inl refl))
one_step roster i event parts (Hear v m e c) h may =
    goes roster parts h parts.kept.current m (kept_of parts.kept m) (record (open_of parts m) { heard = (open_of parts m).heard ++ vote v m e c ∷ [] }) may.0 (omega arith)
    (h.low m) (h.ahead m) (h.up m) (inl refl)
one_step roster i event parts (Win_at m e) h may =
    let ahead : (card_of parts.kept m).epoch < e = (let g : IsAheadOf (card_of parts.kept m) (Running e) = subst (IsAheadOf (card_of parts.kept m)) may.1 (h.ahead m) in g) in
    let up : e ≤ parts.kept.current = (let g : IsUpTo parts.kept.current (Running e) = subst (IsUpTo parts.kept.current) may.1 (h.up m) in g) in
    recorded roster parts (changed parts parts.kept.current m (kept_of parts.kept m) (record (open_of parts m) { campaign = Won e })) (after i parts (Win_at m e)) refl refl
    (goes roster parts h parts.kept.current m (kept_of parts.kept m) (record (open_of parts m) { campaign = Won e }) may.0 (omega arith) (h.low m) ahead up (inl refl))
one_step roster i event parts (Choose m e a) h may =
    let ahead : (card_of parts.kept m).epoch < e = (let g : IsAheadOf (card_of parts.kept m) (Won e) = subst (IsAheadOf (card_of parts.kept m)) may.1 (h.ahead m) in g) in
    let up : e ≤ parts.kept.current = (let g : IsUpTo parts.kept.current (Won e) = subst (IsUpTo parts.kept.current) may.1 (h.up m) in g) in
    goes roster parts h parts.kept.current m (kept_of parts.kept m) (record (open_of parts m) { campaign = Chosen e a }) may.0 (omega arith) (h.low m) (inl ahead) up (inl refl)
one_step roster i event parts (Enact m e a) h may =
    goes roster parts h parts.kept.current m (record (kept_of parts.kept m) { card = record { epoch = e; addr = a } }) (open_of parts m) may.0 (omega arith)
    (up_enacted parts.kept.current e a (campaign_of parts m) may.1 (h.up m))
    (subst (IsAheadOf (record { epoch = e; addr = a })) (sym may.1) (inr refl))
    (h.up m)
    (enacted (card_of parts.kept m) e a (chosen_ahead (card_of parts.kept m) e a (campaign_of parts m) may.1 (h.ahead m)))
one_step roster i event parts (Adopt m card) h may =
    goes roster parts h (max parts.kept.current card.epoch) m (record (kept_of parts.kept m) { card = card }) (record (open_of parts m) { campaign = Idle }) may.0 (omega arith)
    (omega arith) tt tt (inr may.2)
one_step roster i event parts (Drop m) h may =
    goes roster parts h parts.kept.current m (kept_of parts.kept m) (record (open_of parts m) { campaign = Idle }) may (omega arith) (h.low m) tt tt (inl refl)

all_steps : (roster : Roster) (i : ℕ) (event : Event) (ballots : List Ballot) (parts last : Parts) → Holds roster parts → Moved roster i event ballots parts last →
    Goes roster parts last
all_steps roster i event [] parts last h moved = subst (Goes roster parts) moved (record { holds = h; newer = λ k. inl refl })
all_steps roster i event (ballot ∷ ballots) parts last h moved =
    let first : Goes roster parts (after i parts ballot) = one_step roster i event parts ballot h moved.0 in
    let rest : Goes roster (after i parts ballot) last = all_steps roster i event ballots (after i parts ballot) last first.holds moved.1 in
    record { holds = rest.holds; newer = λ k. newer_then (card_of parts.kept k) (card_of (after i parts ballot).kept k) (card_of last.kept k) (first.newer k) (rest.newer k) }

-- One input

up_in : (current : ℕ) (state : FailoverState) → IfSome (epoch_of state) (λ epoch. epoch ≤ current) → IsUpTo current (campaign_in state)
up_in current NoState h = tt
up_in current (WaitStart epoch) h = h
up_in current (SelectReplica epoch) h = h
up_in current (SendPromotion epoch choice) h = h
up_in current (WaitPromotion epoch choice former) h = h
up_in current (ReconfReplicas epoch choice former) h = h
up_in current (UpdateConfig epoch choice) h = h

split_at : (k n : ℕ) → (k < n) ⊎ (n ≤ k)
split_at k zero = inr (omega arith)
split_at zero (suc n) = inl (omega arith)
split_at (suc k) (suc n) = ⊎_elim (λ (l : k < n). inl (omega arith)) (λ (l : n ≤ k). inr (omega arith)) (split_at k n)

-- an item behind the end is the default
behind : {X : Type 0} (xs : List X) (k : ℕ) (d : X) → length xs ≤ k → slice_index_or xs k d ≡ d
behind [] k d h = refl
behind (x ∷ xs) zero d h = absurd (omega arith)
behind (x ∷ xs) (suc k) d h = behind xs k d (omega arith)

module _ (plan : Plan) (core : Core) (s : IsSound plan core) where
  low_card : (k : ℕ) → (card_of core.kept k).epoch ≤ core.kept.current
  low_card k = ⊎_elim
      (λ (lt : k < master_count plan). (kept_part_at plan.conf core.kept k lt s.kept).epoch)
      (λ (le : master_count plan ≤ k). subst (λ (x : KeptMaster). x.card.epoch ≤ core.kept.current)
      (sym (behind core.kept.masters k no_kept (let e : length core.kept.masters ≡ master_count plan = s.kept_masters in omega arith))) (omega arith))
      (split_at k (master_count plan))

  up_state : (k : ℕ) → IsUpTo core.kept.current (campaign_in (failover_of core k).state)
  up_state k = ⊎_elim
      (λ (lt : k < master_count plan). up_in core.kept.current (failover_of core k).state (s.each k lt).epoch)
      (λ (le : master_count plan ≤ k). subst (λ (x : MasterState). IsUpTo core.kept.current (campaign_in x.failover.state))
      (sym (behind core.masters k no_master (let e : length core.masters ≡ master_count plan = s.masters in omega arith))) tt)
      (split_at k (master_count plan))

-- the campaigns of a core's parts are those of its states
campaign_same : (core : Core) (parts : Parts) → IsPartsOf core parts → (k : ℕ) → campaign_of parts k ≡ campaign_in (failover_of core k).state
campaign_same core parts is k = ⊎_elim
    (λ (lt : k < length core.masters). (is.each k lt).campaign)
    (λ (le : length core.masters ≤ k).
    ap (λ (x : OpenMaster). x.campaign) (behind parts.masters k empty (let e : length parts.masters ≡ length core.masters = is.count in omega arith))
    ∙ ap (λ (x : MasterState). campaign_in x.failover.state) (sym (behind core.masters k no_master le)))
    (split_at k (length core.masters))

holds_of : (plan : Plan) (core : Core) → IsSound plan core → IsAhead core → Holds (roster_of plan) (record (parts_of core) { casts = []; wins = [] })
holds_of plan core s ahead =
    record {
      kept_long = s.kept_masters;
      open_long = opens_long 0 core.masters ∙ s.masters;
      low = low_card plan core s;
      ahead = λ k. subst (IsAheadOf (card_of core.kept k)) (sym (campaign_same core (parts_of core) (are_parts_of core) k)) (ahead k);
      up = λ k. subst (IsUpTo core.kept.current) (sym (campaign_same core (parts_of core) (are_parts_of core) k)) (up_state plan core s k);
    }

pub inputs_raise_cards : InputsRaiseCards
inputs_raise_cards plan core now event p s within ahead =
    let after' : Core = (next plan core now event).core in
    let take : IsTake plan core (parts_of core) event after' (next plan core now event).outputs =
    inputs_are_steps plan core (parts_of core) now event p s (are_parts_of core) within in
    let g : Goes (roster_of plan) (record (parts_of core) { casts = []; wins = [] }) take.moved_to =
    all_steps (roster_of plan) plan.place event take.ballots (record (parts_of core) { casts = []; wins = [] }) take.moved_to (holds_of plan core s ahead) take.moved in
    let kept : take.moved_to.kept ≡ after'.kept = take.parts_after.kept in (
      λ m. subst (λ (kept : Kept). IsAheadOf (card_of kept m) (campaign_in (failover_of after' m).state)) kept
          (subst (IsAheadOf (card_of take.moved_to.kept m)) (campaign_same after' take.moved_to take.parts_after m) (g.holds.ahead m)),
      λ m. subst (λ (kept : Kept). IsSameOrNewer (card_of core.kept m) (card_of kept m)) kept (g.newer m),
    )

-- at the start each state is idle
idle_at : (f : MasterPlan → MasterState) → ((x : MasterPlan) → (f x).failover.state ≡ NoState) → (masters : List MasterPlan) (m : ℕ) →
    (slice_index_or (map f masters) m no_master).failover.state ≡ NoState
idle_at f e [] m = refl
idle_at f e (x ∷ xs) zero = e x
idle_at f e (x ∷ xs) (suc m) = idle_at f e xs m

pub opened_is_ahead : OpenedIsAhead
opened_is_ahead plan now m =
    let core : Core = opened plan now in
    let idle : (failover_of core m).state ≡ NoState = idle_at (λ (master : MasterPlan). new_master (group_size plan) (length master.nodes) (clock now)) (λ x. refl)
    (roster_of plan).masters m in
    subst (λ (st : FailoverState). IsAheadOf (card_of core.kept m) (campaign_in st)) (sym idle) tt
