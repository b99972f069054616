-- Which nodes beside the master a Sentinel finds down at the end of a tick.
use Rattle.std.specs.Prelude.{ℕ, Bool, not, ◌&&◌, ◌==◌}
use Rattle.sentinel_rules.specs.Plans.{Plan}
use Rattle.sentinel_rules.specs.States.{Core, card_place, is_node_down, is_peer_down}

-- whether the node at a place is down and isn't the one that the configuration names
abbrev pub is_replica_down : Plan → Core → (m now k : ℕ) → Bool
is_replica_down plan core m now k = not (k == card_place plan core m) && is_node_down plan core m now k

-- whether the Sentinel at a place is down and another one
abbrev pub is_other_down : Plan → Core → (now place : ℕ) → Bool
is_other_down plan core now place = not (place == plan.place) && is_peer_down plan core now place
