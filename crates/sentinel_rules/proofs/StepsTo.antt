-- Single steps of the ballot model that lead from the parts of one core to those of another.
use Rattle.std.proofs.Common.{◌≡◌, ◌≢◌, ℕ, ◌+◌, ◌<◌, ◌≤◌, Option, Some, None, List, [], ◌∷◌, ◌++◌, length, length-set, slice_index_or, slice_set, refl, sym, ap, subst, ◌∙◌, ⊎_elim, arith, get_or-set_same, get_or-set_other}
use Rattle.std.proofs.lemmas.Bool.{cases_eq}
use Rattle.std.proofs.lemmas.List.{length-append, set-get_or}
use Rattle.ballot_law.specs.declared.addresses.Addr.{Addr}
use Rattle.ballot_law.specs.declared.addresses.RunId.{RunId}
use Rattle.ballot_law.specs.declared.cards.Kept.{Kept}
use Rattle.ballot_law.specs.declared.cards.KeptMaster.{KeptMaster}
use Rattle.ballot_law.specs.declared.cards.TheConstants.{MAX_EPOCH}
use Rattle.ballot_law.specs.declared.events.Event.{Event}
use Rattle.ballot_law.specs.declared.hearings.HeardVote.{HeardVote}
use Rattle.ballot_law.specs.declared.records.Win.{Win}
use Rattle.ballot_law.specs.Ballots.{Campaign, Idle as NoCampaign, Running, Won, Chosen, OpenMaster, Parts, Ballot, Raise, Open, Cast, Win_at, Choose, Drop, IsAllowed, HasVoted, Moved, after, with_campaign, empty, no_kept, kept_of, card_of, voted_of, open_of}
use Rattle.ballot_law.specs.Rosters.{AtLeast, HasNode, size, need}
use Rattle.ballot_law.specs.VotesHeard.{kept_at}
use Rattle.ballot_law.proofs.Joining.{Moved-append}
use Rattle.sentinel_rules.specs.Plans.{Plan, roster_of, master_count}
use Rattle.sentinel_rules.specs.States.{Core, MasterState, no_master, master_of, failover_of, with_master, with_current}
use Rattle.sentinel_rules.specs.Steps.{campaign_in, IsOpenOf, wins_of, IsPartsOf}
use Rattle.sentinel_rules.proofs.Framing.{master_same, master_other}

-- few steps lead from these parts to parts of the core
pub record Stepped (plan : Plan) (event : Event) (most : ℕ) (core : Core) (parts : Parts) : Type 0 where
  pub ballots : List Ballot
  pub last : Parts
  pub few : length ballots ≤ most
  pub moved : Moved (roster_of plan) plan.place event ballots parts last
  pub are_parts : IsPartsOf core last

-- and so from all parts of a core
abbrev pub StepsTo : Plan → Event → (most : ℕ) → Core → Core → Type 0
StepsTo plan event most core core2 = (parts : Parts) → IsPartsOf core parts → Stepped plan event most core2 parts

pub steps_then : (plan : Plan) (event : Event) (a b : ℕ) (core next last : Core) → StepsTo plan event a core next → StepsTo plan event b next last →
    StepsTo plan event (a + b) core last
steps_then plan event a b core next last f g parts is =
    let x : Stepped plan event a next parts = f parts is in
    let y : Stepped plan event b last x.last = g x.last x.are_parts in
    record {
      ballots = x.ballots ++ y.ballots;
      last = y.last;
      few = let p : length x.ballots ≤ a = x.few in
          let q : length y.ballots ≤ b = y.few in
          let e : length (x.ballots ++ y.ballots) ≡ length x.ballots + length y.ballots = length-append x.ballots y.ballots in
          omega arith;
      moved = Moved-append (roster_of plan) plan.place event x.ballots y.ballots parts x.last y.last x.moved y.moved;
      are_parts = y.are_parts;
    }

pub steps_more : (plan : Plan) (event : Event) (a b : ℕ) (core last : Core) → a ≤ b → StepsTo plan event a core last → StepsTo plan event b core last
steps_more plan event a b core last le f parts is =
    let x : Stepped plan event a last parts = f parts is in
    record { ballots = x.ballots; last = x.last; few = let p : length x.ballots ≤ a = x.few in omega arith; moved = x.moved; are_parts = x.are_parts }

-- the parts with just what the core keeps
abbrev pub kept_as : Core → Parts → Parts
kept_as core parts = record parts { kept = core.kept }

pub steps_kept : (plan : Plan) (event : Event) (most : ℕ) (core core2 : Core) →
    ((parts : Parts) → IsPartsOf core (kept_as core parts) → Stepped plan event most core2 (kept_as core parts)) → StepsTo plan event most core core2
steps_kept plan event most core core2 f parts is =
    let same : parts ≡ kept_as core parts = ap (λ (kept : Kept). let x : Parts = record parts { kept = kept } in x) is.kept in
    subst (λ (p : Parts). Stepped plan event most core2 p) (sym same) (f parts (subst (λ (p : Parts). IsPartsOf core p) same is))

-- with one step
pub steps_one : (plan : Plan) (event : Event) (ballot : Ballot) (core core2 : Core)
    → ((parts : Parts) → IsPartsOf core (kept_as core parts) → IsAllowed (roster_of plan) plan.place event (kept_as core parts) ballot)
    → ((parts : Parts) → IsPartsOf core (kept_as core parts) → IsPartsOf core2 (after plan.place (kept_as core parts) ballot))
    → StepsTo plan event 1 core core2
steps_one plan event ballot core core2 allowed there =
    steps_kept plan event 1 core core2
    (λ parts is. record {
      ballots = ballot ∷ [];
      last = after plan.place (kept_as core parts) ballot;
      few = omega arith;
      moved = (allowed parts is, refl);
      are_parts =
          there parts is;
    })

-- Parts of a core of which one master changed

pub parts_at : (core core2 : Core) (m : ℕ) (parts parts2 : Parts) (opened : OpenMaster) → IsPartsOf core parts → m < length core.masters
    → length core2.masters ≡ length core.masters
    → ((k : ℕ) → k ≢ m → master_of core2 k ≡ master_of core k)
    → IsOpenOf m (master_of core2 m) opened
    → parts2.kept ≡ core2.kept
    → parts2.masters ≡ slice_set parts.masters m opened
    → parts2.wins ≡ wins_of core2.won
    → IsPartsOf core2 parts2
parts_at core core2 m parts parts2 opened is lt count others here kept masters wins =
    record {
      kept = kept;
      count = ap (λ (list : List OpenMaster). length list) masters ∙ (length-set parts.masters m opened ∙ (is.count ∙ sym count));
      each = λ k l. ⊎_elim (λ (e : k ≡ m). at_m k e) (λ (apart : k ≢ m). elsewhere k (subst (λ (n : ℕ). k < n) count l) apart) (cases_eq k m);
      wins = wins;
    }
  where
    open_at : (k : ℕ) → open_of parts2 k ≡ slice_index_or (slice_set parts.masters m opened) k empty
    open_at k = ap (λ (list : List OpenMaster). slice_index_or list k empty) masters

    inside : m < length parts.masters
    inside = subst (λ (n : ℕ). m < n) (sym is.count) lt

    own : open_of parts2 m ≡ opened
    own = open_at m ∙ get_or-set_same parts.masters m opened empty inside

    at_m : (k : ℕ) → k ≡ m → IsOpenOf k (master_of core2 k) (open_of parts2 k)
    at_m k e = subst (λ (i : ℕ). IsOpenOf i (master_of core2 i) (open_of parts2 i)) (sym e) (subst (λ (o : OpenMaster). IsOpenOf m (master_of core2 m) o) (sym own) here)

    elsewhere : (k : ℕ) → k < length core.masters → k ≢ m → IsOpenOf k (master_of core2 k) (open_of parts2 k)
    elsewhere k l apart =
        subst (λ (o : OpenMaster). IsOpenOf k (master_of core2 k) o) (sym (open_at k ∙ get_or-set_other parts.masters m k opened empty apart))
        (subst (λ (master : MasterState). IsOpenOf k master (open_of parts k)) (sym (others k apart)) (is.each k l))

-- a core that differs in one master's campaign, and in what the model doesn't see
pub record IsTwin (m : ℕ) (core core2 : Core) (campaign : Campaign) : Type 0 where
  pub kept : core2.kept ≡ core.kept
  pub won : core2.won ≡ core.won
  pub count : length core2.masters ≡ length core.masters
  pub others : (k : ℕ) → k ≢ m → master_of core2 k ≡ master_of core k
  pub heard : (master_of core2 m).heard ≡ (master_of core m).heard
  pub runs : campaign_in (master_of core2 m).failover.state ≡ campaign

pub twin_then : (m : ℕ) (core next last : Core) (c d : Campaign) → IsTwin m core next c → IsTwin m next last d → IsTwin m core last d
twin_then m core next last c d s t =
    record {
      kept = t.kept ∙ s.kept;
      won = t.won ∙ s.won;
      count = t.count ∙ s.count;
      others = λ k apart. t.others k apart ∙ s.others k apart;
      heard = t.heard ∙ s.heard;
      runs = t.runs;
    }

-- the open part of a twin
twin_open : (m : ℕ) (core core2 : Core) (campaign : Campaign) (opened : OpenMaster) → IsTwin m core core2 campaign → IsOpenOf m (master_of core m) opened →
    IsOpenOf m (master_of core2 m) (record opened { campaign = campaign })
twin_open m core core2 campaign opened t o =
    record {
      heard = λ voter given h. o.heard voter given (subst (λ (list : List (Option HeardVote)). kept_at list voter ≡ Some given) t.heard h);
      campaign = sym t.runs;
    }

-- a master's entry in the kept part written back
pub kept_back : (kept : Kept) (m : ℕ) → (let x : Kept = record { current = kept.current; masters = slice_set kept.masters m (kept_of kept m) } in x) ≡ kept
kept_back kept m = ap (λ (masters : List KeptMaster). let x : Kept = record { current = kept.current; masters = masters } in x) (set-get_or kept.masters m no_kept)

-- nothing that the model sees changed
pub twin_steps : (plan : Plan) (event : Event) (most m : ℕ) (core core2 : Core) → m < length core.masters → IsTwin m core core2 (campaign_in (failover_of core m).state) →
    StepsTo plan event most core core2
twin_steps plan event most m core core2 lt t =
    steps_kept plan event most core core2
    (λ parts is. let o : IsOpenOf m (master_of core m) (open_of parts m) = is.each m lt in
    record {
      ballots = [];
      last = kept_as core parts;
      few = omega arith;
      moved = refl;
      are_parts = parts_at core core2 m (kept_as core parts) (kept_as core parts) (open_of parts m) is lt t.count t.others
          (record {
            heard = λ voter given h. o.heard voter given (subst (λ (list : List (Option HeardVote)). kept_at list voter ≡ Some given) t.heard h);
            campaign = o.campaign ∙ sym t.runs;
          })
          (sym t.kept)
          (sym (set-get_or parts.masters m empty))
          (is.wins ∙ ap (λ (won : Option Win). wins_of won) (sym t.won));
    })

-- what soundness doesn't look at, and the model neither
pub same_steps : (plan : Plan) (event : Event) (most : ℕ) (core core2 : Core) → core2.kept ≡ core.kept → core2.masters ≡ core.masters → core2.won ≡ core.won →
    StepsTo plan event most core core2
same_steps plan event most core core2 kept masters won parts is =
    record {
      ballots = [];
      last = parts;
      few = omega arith;
      moved = refl;
      are_parts = record {
        kept = is.kept ∙ sym kept;
        count = is.count ∙ sym (ap (λ (list : List MasterState). length list) masters);
        each = λ k lt. subst (λ (list : List MasterState). IsOpenOf k (slice_index_or list k no_master) (open_of parts k)) (sym masters)
            (is.each k (subst (λ (list : List MasterState). k < length list) masters lt));
        wins = is.wins ∙ ap (λ (w : Option Win). wins_of w) (sym won);
      };
    }

-- One master's state, in what the model doesn't see

pub twin_master : (core : Core) (m : ℕ) (master : MasterState) → m < length core.masters → master.heard ≡ (master_of core m).heard →
    IsTwin m core (with_master core m master) (campaign_in master.failover.state)
twin_master core m master lt heard =
    record {
      kept = refl;
      won = refl;
      count = length-set core.masters m master;
      others = λ k apart. master_other core m k master apart;
      heard = ap (λ (x : MasterState). x.heard) (master_same core m master lt) ∙ heard;
      runs = ap (λ (x : MasterState). campaign_in x.failover.state) (master_same core m master lt);
    }

pub twin_state : (m : ℕ) (core core2 : Core) (c d : Campaign) → c ≡ d → IsTwin m core core2 c → IsTwin m core core2 d
twin_state m core core2 c d e t = subst (λ (x : Campaign). IsTwin m core core2 x) e t

-- Steps of a campaign

pub campaign_steps : (plan : Plan) (event : Event) (ballot : Ballot) (campaign : Campaign) (m : ℕ) (core core2 : Core) → m < length core.masters → IsTwin m core core2 campaign
    → ((parts : Parts) → IsPartsOf core (kept_as core parts) → IsAllowed (roster_of plan) plan.place event (kept_as core parts) ballot)
    → ((parts : Parts) → after plan.place (kept_as core parts) ballot ≡ with_campaign (kept_as core parts) core.kept.current m campaign)
    → StepsTo plan event 1 core core2
campaign_steps plan event ballot campaign m core core2 lt t allowed same =
    steps_one plan event ballot core core2 allowed
    (λ parts is. subst (λ (p : Parts). IsPartsOf core2 p) (sym (same parts))
    (parts_at core core2 m (kept_as core parts) (with_campaign (kept_as core parts) core.kept.current m campaign) (record (open_of parts m) { campaign = campaign }) is lt t.count
    t.others
    (twin_open m core core2 campaign (open_of parts m) t (is.each m lt))
    (kept_back core.kept m ∙ sym t.kept) refl (is.wins ∙ ap (λ (w : Option Win). wins_of w) (sym t.won))))

pub drop_steps : (plan : Plan) (event : Event) (m : ℕ) (core core2 : Core) → m < length core.masters → m < master_count plan → IsTwin m core core2 NoCampaign →
    StepsTo plan event 1 core core2
drop_steps plan event m core core2 lt inside t = campaign_steps plan event (Drop m) NoCampaign m core core2 lt t (λ parts is. inside) (λ parts. refl)

pub choose_steps : (plan : Plan) (event : Event) (m epoch : ℕ) (choice : Addr) (core core2 : Core) → m < length core.masters → m < master_count plan
    → campaign_in (failover_of core m).state ≡ Won epoch → HasNode (roster_of plan) m choice → choice ≢ (card_of core.kept m).addr
    → IsTwin m core core2 (Chosen epoch choice) → StepsTo plan event 1 core core2
choose_steps plan event m epoch choice core core2 lt inside won there other t =
    campaign_steps plan event (Choose m epoch choice) (Chosen epoch choice) m core core2 lt t
    (λ parts is. (inside, (is.each m lt).campaign ∙ won, there, other)) (λ parts. refl)

-- an election: the first of the input
pub win_steps : (plan : Plan) (event : Event) (m epoch : ℕ) (core core2 : Core) → m < length core.masters → m < master_count plan
    → core.won ≡ None
    → campaign_in (failover_of core m).state ≡ Running epoch
    → ((parts : Parts) → IsPartsOf core (kept_as core parts) →
    AtLeast (HasVoted (roster_of plan) plan.place (kept_as core parts) m epoch) (size (roster_of plan)) (need (roster_of plan) m))
    → IsTwin m core core2 (Won epoch) → StepsTo plan event 1 core (record core2 { won = Some (record { master = m; epoch = epoch }) })
win_steps plan event m epoch core core2 lt inside none running enough t =
    steps_one plan event (Win_at m epoch) core (record core2 { won = Some (record { master = m; epoch = epoch }) })
    (λ parts is. (inside, (is.each m lt).campaign ∙ running, enough parts is))
    (λ parts is. parts_at core (record core2 { won = Some (record { master = m; epoch = epoch }) }) m (kept_as core parts) (after plan.place (kept_as core parts) (Win_at m epoch))
    (record (open_of parts m) { campaign = Won epoch }) is lt t.count t.others
    (twin_open m core core2 (Won epoch) (open_of parts m) t (is.each m lt))
    (kept_back core.kept m ∙ sym t.kept) refl
    (ap (λ (wins : List Win). wins ++ record { master = m; epoch = epoch } ∷ []) (is.wins ∙ ap (λ (w : Option Win). wins_of w) none)))

-- a start: the campaign's epoch is the next one, and the current one then
pub open_steps : (plan : Plan) (event : Event) (m : ℕ) (core core2 : Core) → m < length core.masters → m < master_count plan
    → campaign_in (failover_of core m).state ≡ NoCampaign → core.kept.current < MAX_EPOCH
    → IsTwin m core core2 (Running (core.kept.current + 1)) → StepsTo plan event 1 core (with_current core2 (core.kept.current + 1))
open_steps plan event m core core2 lt inside idle room t =
    steps_one plan event (Open m) core (with_current core2 (core.kept.current + 1))
    (λ parts is. (inside, (is.each m lt).campaign ∙ idle, room))
    (λ parts is. parts_at core (with_current core2 (core.kept.current + 1)) m (kept_as core parts) (after plan.place (kept_as core parts) (Open m))
    (record (open_of parts m) { campaign = Running (core.kept.current + 1) }) is lt t.count t.others
    (twin_open m core core2 (Running (core.kept.current + 1)) (open_of parts m) t (is.each m lt))
    (ap (λ (kept : Kept). let x : Kept = record kept { current = core.kept.current + 1 } in x) (kept_back core.kept m ∙ sym t.kept)) refl
    (is.wins ∙ ap (λ (w : Option Win). wins_of w) (sym t.won)))

-- The current epoch

pub raise_steps : (plan : Plan) (event : Event) (epoch : ℕ) (core : Core) → core.kept.current < epoch → StepsTo plan event 1 core (with_current core epoch)
raise_steps plan event epoch core above =
    steps_one plan event (Raise epoch) core (with_current core epoch) (λ parts is. above)
    (λ parts is. record { kept = refl; count = is.count; each = is.each; wins = is.wins })

-- Votes

abbrev pub voted_core : Core → (m epoch : ℕ) → RunId → Core
voted_core core m epoch candidate =
    record core {
      kept = record { current = epoch; masters = slice_set core.kept.masters m (record (kept_of core.kept m) { voted = epoch; candidate = Some candidate }) };
    }

pub cast_steps : (plan : Plan) (event : Event) (m epoch : ℕ) (candidate : RunId) (core : Core) → m < length core.masters → m < master_count plan
    → core.kept.current ≡ epoch → voted_of core.kept m < epoch → StepsTo plan event 1 core (voted_core core m epoch candidate)
cast_steps plan event m epoch candidate core lt inside now_open later =
    steps_one plan event (Cast m epoch candidate) core (voted_core core m epoch candidate)
    (λ parts is. (inside, now_open, later))
    (λ parts is. parts_at core (voted_core core m epoch candidate) m (kept_as core parts) (after plan.place (kept_as core parts) (Cast m epoch candidate)) (open_of parts m) is lt
    refl (λ k apart. refl) (is.each m lt)
    (ap (λ (current : ℕ).
    let x : Kept = record { current = current; masters = slice_set core.kept.masters m (record (kept_of core.kept m) { voted = epoch; candidate = Some candidate }) } in x)
    now_open)
    refl is.wins)
