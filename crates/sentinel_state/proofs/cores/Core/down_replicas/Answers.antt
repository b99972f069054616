use Rattle.std.proofs.Common.{◌<◌, length, arith}
use Rattle.std.proofs.Math.ListN.{length-set}
use Rattle.ballot_law.specs.Clocks.{clock}
use Rattle.sentinel_state.specs.Sights.{is_replica_down}
use Rattle.sentinel_state.proofs.AtPlaces.{filled_more}
use Rattle.sentinel_state.proofs.cores.Core.down_replicas.Goals as goal

pub loop-k-preserved : goal.loop-k-preserved
loop-k-preserved c =
    let down = is_replica_down c.args.plan.now c.args.self.now c.args.m (clock c.args.now) in
    let lt : c.loop-k.k < length c.loop-k.down = omega arith in
    record {
      long = simp length-set c.loop-k.invariant.long;
      filled = filled_more down c.loop-k.down c.loop-k.k c.is_replica_down.result lt c.is_replica_down.ensures c.loop-k.invariant.filled;
    }
