use Rattle.std.proofs.Common.{◌≡◌, length, take}
use Rattle.ballot_law.specs.Clocks.{clock}
use Rattle.sentinel_state.specs.Sights.{is_replica_down}
use Rattle.sentinel_rules.specs.Ticks.{at_places}
use Rattle.sentinel_state.proofs.cores.Core.down_replicas.Given as goal

abbrev pub invariant-loop-k : goal.invariant-loop-k
invariant-loop-k l =
    record {
      long : length l.down ≡ 256;
      filled : take l.k l.down ≡ at_places (is_replica_down l.plan l.self l.m (clock l.now)) 0 l.k;
    }
