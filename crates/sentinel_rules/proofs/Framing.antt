-- Soundness of a core of which one master, or the current epoch, changed.
use Rattle.std.proofs.Common.{◌≡◌, ◌≢◌, ℕ, ◌<◌, ◌≤◌, List, length, length-set, slice_index_or, refl, sym, ap, subst, ◌∙◌, arith, ⊎_elim, get_or-set_same, get_or-set_other}
use Rattle.std.specs.Prelude.{IfSome}
use Rattle.std.proofs.lemmas.Bool.{cases_eq}
use Rattle.std.proofs.lemmas.Option.{IfSome_then}
use Rattle.ballot_law.specs.declared.cards.Card.{Card}
use Rattle.ballot_law.specs.declared.cards.Kept.{Kept}
use Rattle.ballot_law.specs.Ballots.{kept_of, card_of}
use Rattle.failover_states.specs.declared.states.Choice.{Choice}
use Rattle.failover_states.specs.Calls.{epoch_of}
use Rattle.failover_states.specs.Failovers.{Failover}
use Rattle.sentinel_conf.specs.Rewritten.{IsKeptPart}
use Rattle.sentinel_rules.specs.Plans.{Plan, master_count}
use Rattle.sentinel_rules.specs.States.{Core, MasterState, NodeState, master_of, no_master, with_master}
use Rattle.sentinel_rules.specs.Facts.{IsSound, IsSoundMaster, IsAwaited, awaited}
use Rattle.sentinel_rules.proofs.KeptParts.{kept_long}

-- the master at a place after a change of it, and of another
pub master_same : (core : Core) (m : ℕ) (master : MasterState) → m < length core.masters → master_of (with_master core m master) m ≡ master
master_same core m master h = get_or-set_same core.masters m master no_master h

pub master_other : (core : Core) (m k : ℕ) (master : MasterState) → k ≢ m → master_of (with_master core m master) k ≡ master_of core k
master_other core m k master h = get_or-set_other core.masters m k master no_master h

-- an awaited choice stays one while the configuration's address does
pub awaited_still : (plan : Plan) (kept kept2 : Kept) (m : ℕ) → card_of kept2 m ≡ card_of kept m → (choice : Choice) → IsAwaited plan kept m choice → IsAwaited plan kept2 m choice
awaited_still plan kept kept2 m e choice a =
    record { listed = a.listed; addressed = a.addressed; other = λ same. a.other (same ∙ ap (λ (card : Card). card.addr) e) }

-- a master is sound with a later current epoch too
pub master_later : (plan : Plan) (kept kept2 : Kept) (m : ℕ) (master : MasterState) → kept.current ≤ kept2.current → card_of kept2 m ≡ card_of kept m →
    IsSoundMaster plan kept m master → IsSoundMaster plan kept2 m master
master_later plan kept kept2 m master low e s =
    record {
      heard = s.heard;
      reports = s.reports;
      nodes = s.nodes;
      replicas = s.replicas;
      own = s.own;
      epoch = IfSome_then (epoch_of master.failover.state) s.epoch (λ epoch le. omega (arith, le, low));
      choice = IfSome_then (awaited master.failover.state) s.choice (awaited_still plan kept kept2 m e);
    }

-- a core of which one master and its entry in the kept part changed
pub sound_at : (plan : Plan) (core core2 : Core) (m : ℕ) → IsSound plan core
    → length core2.masters ≡ length core.masters
    → ((k : ℕ) → k ≢ m → master_of core2 k ≡ master_of core k)
    → length core2.peers ≡ length core.peers
    → IsKeptPart plan.conf core2.kept
    → core.kept.current ≤ core2.kept.current
    → ((k : ℕ) → k ≢ m → kept_of core2.kept k ≡ kept_of core.kept k)
    → (m < master_count plan → IsSoundMaster plan core2.kept m (master_of core2 m))
    → IsSound plan core2
sound_at plan core core2 m s count others peers part low cards new =
    record {
      kept = part;
      masters = count ∙ s.masters;
      kept_masters = kept_long plan.conf core2.kept part;
      peers = peers ∙ s.peers;
      each = λ k lt. ⊎_elim (λ (e : k ≡ m). here k lt e) (λ (apart : k ≢ m). elsewhere k lt apart) (cases_eq k m);
    }
  where
    here : (k : ℕ) → k < master_count plan → k ≡ m → IsSoundMaster plan core2.kept k (master_of core2 k)
    here k lt e = subst (λ (i : ℕ). IsSoundMaster plan core2.kept i (master_of core2 i)) (sym e) (new (subst (λ (i : ℕ). i < master_count plan) e lt))

    elsewhere : (k : ℕ) → k < master_count plan → k ≢ m → IsSoundMaster plan core2.kept k (master_of core2 k)
    elsewhere k lt apart =
        let e : card_of core2.kept k ≡ card_of core.kept k = ap (λ kept. kept.card) (cards k apart) in
        subst (IsSoundMaster plan core2.kept k) (sym (others k apart)) (master_later plan core.kept core2.kept k (master_of core k) low e (s.each k lt))

-- only one master changed
pub sound_master : (plan : Plan) (core : Core) (m : ℕ) (master : MasterState) → IsSound plan core
    → (m < master_count plan → IsSoundMaster plan core.kept m master) → IsSound plan (with_master core m master)
sound_master plan core m master s new =
    sound_at plan core (with_master core m master) m s (length-set core.masters m master) (λ k apart. master_other core m k master apart) refl s.kept (omega arith)
    (λ k apart. refl)
    (λ lt. let inside : m < length core.masters = subst (λ (n : ℕ). m < n) (sym s.masters) lt in
    subst (IsSoundMaster plan core.kept m) (sym (master_same core m master inside)) (new lt))

-- only the current epoch changed
pub sound_current : (plan : Plan) (core : Core) (current : ℕ) → IsSound plan core → core.kept.current ≤ current → IsKeptPart plan.conf (record core.kept { current = current })
    → IsSound plan (record core { kept = record core.kept { current = current } })
sound_current plan core current s low part =
    record {
      kept = part;
      masters = s.masters;
      kept_masters = s.kept_masters;
      peers = s.peers;
      each = λ k lt. master_later plan core.kept (record core.kept { current = current }) k (master_of core k) low refl (s.each k lt);
    }

-- what soundness doesn't look at
pub sound_alike : (plan : Plan) (core core2 : Core) → core2.kept ≡ core.kept → core2.masters ≡ core.masters → length core2.peers ≡ length core.peers → IsSound plan core →
    IsSound plan core2
sound_alike plan core core2 kept masters peers s =
    let at : (m : ℕ) → master_of core2 m ≡ master_of core m = λ m. ap (λ (list : List MasterState). slice_index_or list m no_master) masters in
    record {
      kept = subst (IsKeptPart plan.conf) (sym kept) s.kept;
      masters = ap (λ (list : List MasterState). length list) masters ∙ s.masters;
      kept_masters = ap (λ (k : Kept). length k.masters) kept ∙ s.kept_masters;
      peers = peers ∙ s.peers;
      each = λ m lt. subst (λ (k : Kept). IsSoundMaster plan k m (master_of core2 m)) (sym kept) (subst (IsSoundMaster plan core.kept m) (sym (at m)) (s.each m lt));
    }

-- another failover of a sound master
pub master_with : (plan : Plan) (kept : Kept) (m : ℕ) (master : MasterState) (failover : Failover) → IsSoundMaster plan kept m master
    → length failover.replicas ≡ length master.failover.replicas
    → IfSome (epoch_of failover.state) (λ epoch. epoch ≤ kept.current)
    → IfSome (awaited failover.state) (IsAwaited plan kept m)
    → IsSoundMaster plan kept m (record master { failover = failover })
master_with plan kept m master failover s replicas epoch choice =
    record {
      heard = s.heard;
      reports = s.reports;
      nodes = s.nodes;
      replicas = replicas ∙ s.replicas;
      own = s.own;
      epoch = epoch;
      choice = choice;
    }

-- another list of as many nodes of a sound master
pub nodes_with : (plan : Plan) (kept : Kept) (m : ℕ) (master : MasterState) (nodes : List NodeState) → IsSoundMaster plan kept m master
    → length nodes ≡ length master.nodes → IsSoundMaster plan kept m (record master { nodes = nodes })
nodes_with plan kept m master nodes s count =
    record { heard = s.heard; reports = s.reports; nodes = count ∙ s.nodes; replicas = s.replicas; own = s.own; epoch = s.epoch; choice = s.choice }
