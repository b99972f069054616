-- The core at the start.
use Rattle.std.proofs.Common.{◌≡◌, ℕ, zero, suc, ◌<◌, Some, None, length, replicate, slice_index_or, refl, sym, subst, ◌∙◌}
use Rattle.std.proofs.lemmas.List.{length-map, length-replicate, get_or-map}
use Rattle.ballot_law.specs.declared.cards.Kept.{Kept}
use Rattle.ballot_law.specs.Ballots.{OpenMaster, empty, open_of, restored}
use Rattle.ballot_law.specs.Clocks.{clock}
use Rattle.ballot_law.specs.Rosters.{MasterPlan, no_master as no_plan}
use Rattle.failover_states.specs.Replicas.{untouched}
use Rattle.sentinel_rules.specs.Plans.{Plan, roster_of, group_size, master_count, nodes_of}
use Rattle.sentinel_rules.specs.States.{MasterState, no_master, new_node, new_peer, new_master, master_of, opened}
use Rattle.sentinel_rules.specs.Facts.{IsSoundPlan, IsSoundMaster}
use Rattle.sentinel_rules.specs.Steps.{IsOpenOf, OpenedIsSound}
use Rattle.sentinel_rules.proofs.KeptParts.{kept_long}

replicate_all : {X : Type 0} (n : ℕ) (d : X) (i : ℕ) → slice_index_or (replicate n d) i d ≡ d
replicate_all zero d i = refl
replicate_all (suc n) d zero = refl
replicate_all (suc n) d (suc i) = replicate_all n d i

new_sound : (plan : Plan) (kept : Kept) (m at : ℕ) → IsSoundPlan plan → IsSoundMaster plan kept m (new_master (group_size plan) (length (nodes_of plan m)) at)
new_sound plan kept m at p =
    record {
      heard = length-replicate (group_size plan) None;
      reports = length-replicate (group_size plan) None;
      nodes = length-replicate (length (nodes_of plan m)) (new_node at);
      replicas = length-replicate (length (nodes_of plan m)) untouched;
      own = replicate_all (group_size plan) None plan.place;
      epoch = tt;
      choice = tt;
    }

new_open : (sentinels nodes m at : ℕ) → IsOpenOf m (new_master sentinels nodes at) empty
new_open sentinels nodes m at =
    record {
      heard = λ voter given h. let none : None ≡ Some given = sym (replicate_all sentinels None voter) ∙ h in absurd (cc);
      campaign = refl;
    }

master_at_start : (plan : Plan) (now m : ℕ) → m < master_count plan → master_of (opened plan now) m ≡ new_master (group_size plan) (length (nodes_of plan m)) (clock now)
master_at_start plan now m lt =
    get_or-map (λ (master : MasterPlan). new_master (group_size plan) (length master.nodes) (clock now)) (roster_of plan).masters m no_plan no_master lt

pub opened_is_sound : OpenedIsSound
opened_is_sound plan now p = (
  record {
    kept = p.conf.kept;
    masters = count;
    kept_masters = kept_long plan.conf plan.conf.kept p.conf.kept;
    peers = length-replicate (group_size plan) (new_peer (clock now));
    each = λ m lt. subst (IsSoundMaster plan plan.conf.kept m) (sym (master_at_start plan now m lt)) (new_sound plan plan.conf.kept m (clock now) p);
  },
  record {
    kept = refl;
    count = length-replicate (master_count plan) empty ∙ sym count;
    each = λ m lt. opens m (subst (λ (n : ℕ). m < n) count lt);
    wins = refl;
  },
)
  where
    count : length (opened plan now).masters ≡ master_count plan
    count = length-map (roster_of plan).masters (λ (master : MasterPlan). new_master (group_size plan) (length master.nodes) (clock now))

    opens : (m : ℕ) → m < master_count plan → IsOpenOf m (master_of (opened plan now) m) (open_of (restored (roster_of plan) plan.conf.kept) m)
    opens m lt =
        subst
        (λ (o : OpenMaster). IsOpenOf m (master_of (opened plan now) m) o)
        (sym (replicate_all (master_count plan) empty m))
        (subst (λ (master : MasterState). IsOpenOf m master empty) (sym (master_at_start plan now m lt)) (new_open (group_size plan) (length (nodes_of plan m)) m (clock now)))
