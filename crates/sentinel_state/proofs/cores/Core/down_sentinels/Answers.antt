use Rattle.std.proofs.Common.{◌<◌, length, arith}
use Rattle.std.proofs.Math.ListN.{length-set}
use Rattle.ballot_law.specs.Clocks.{clock}
use Rattle.sentinel_state.specs.Sights.{is_other_down}
use Rattle.sentinel_state.proofs.AtPlaces.{filled_more}
use Rattle.sentinel_state.proofs.cores.Core.down_sentinels.Goals as goal

pub loop-place-preserved : goal.loop-place-preserved
loop-place-preserved c =
    let down = is_other_down c.args.plan.now c.args.self.now (clock c.args.now) in
    let lt : c.loop-place.place < length c.loop-place.down = omega arith in
    record {
      long = simp length-set c.loop-place.invariant.long;
      filled = filled_more down c.loop-place.down c.loop-place.place c.is_other_down.result lt c.is_other_down.ensures c.loop-place.invariant.filled;
    }
