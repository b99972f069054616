-- The places that a failover speaks of are those of a master's nodes, of which there are at most 256.
use Rattle.std.specs.Prelude.{◌≤◌, length, unwrap_or}
use Rattle.ballot_law.specs.declared.rosters.TheConstants.{NODES_MAX}
use Rattle.failover_states.specs.Calls.{choice_of}
use Rattle.failover_states.specs.Failovers.{Failover}

-- it keeps at most 256 nodes, and its choice stands at such a place
abbrev pub HasFewPlaces : Failover → Type 0
HasFewPlaces f = (length f.replicas ≤ NODES_MAX) × (unwrap_or (choice_of f.state) 0 ≤ NODES_MAX)
