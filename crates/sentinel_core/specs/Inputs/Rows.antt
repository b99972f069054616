-- What the rows of the failover table ask for, and what they look at.
use Rattle.std.specs.Prelude.{Bool, true, false, Option, Some, None, [], if◌then◌else◌}
use Rattle.failover_states.specs.declared.states.Row.{Row}
use Rattle.failover_states.specs.declared.states.Row.TheVariants.{Promote, PromotionTimeout}
use Rattle.failover_states.specs.declared.states.FailoverState.{FailoverState}
use Rattle.failover_states.specs.declared.states.FailoverState.TheVariants.{Idle, WaitStart, SelectReplica, SendPromotion, WaitPromotion, ReconfReplicas, UpdateConfig}
use Rattle.failover_states.specs.Known.{Known}

-- the choice is to be told that it is the master
abbrev pub is_promotion : Option Row → Bool
is_promotion (Some Promote) = true
is_promotion _ = false

-- the choice didn't become a master in time
abbrev pub is_too_late : Option Row → Bool
is_too_late (Some PromotionTimeout) = true
is_too_late _ = false

-- the rows of this state look at the votes heard
abbrev pub looks_at_votes : FailoverState → Bool
looks_at_votes Idle = false
looks_at_votes (WaitStart epoch) = true
looks_at_votes (SelectReplica epoch) = false
looks_at_votes (SendPromotion epoch choice) = false
looks_at_votes (WaitPromotion epoch choice former) = false
looks_at_votes (ReconfReplicas epoch choice former) = false
looks_at_votes (UpdateConfig epoch choice) = false

-- the rows of this state look at the best replica
abbrev pub looks_at_best : FailoverState → Bool
looks_at_best Idle = false
looks_at_best (WaitStart epoch) = false
looks_at_best (SelectReplica epoch) = true
looks_at_best (SendPromotion epoch choice) = false
looks_at_best (WaitPromotion epoch choice former) = false
looks_at_best (ReconfReplicas epoch choice former) = false
looks_at_best (UpdateConfig epoch choice) = false

-- the rows of this state look at the nodes: which of them are down, and which one the configuration names
abbrev pub looks_at_nodes : FailoverState → Bool
looks_at_nodes Idle = false
looks_at_nodes (WaitStart epoch) = false
looks_at_nodes (SelectReplica epoch) = false
looks_at_nodes (SendPromotion epoch choice) = true
looks_at_nodes (WaitPromotion epoch choice former) = false
looks_at_nodes (ReconfReplicas epoch choice former) = true
looks_at_nodes (UpdateConfig epoch choice) = false

-- the facts with nothing in those that the rows of this state don't look at
abbrev pub looked_at : FailoverState → Known → Known
looked_at state k =
    record k {
      pick = if looks_at_votes state then k.pick else k.me;
      count = if looks_at_votes state then k.count else 0;
      best = if looks_at_best state then k.best else None;
      card_place = if looks_at_nodes state then k.card_place else 0;
      down = if looks_at_nodes state then k.down else [];
    }
