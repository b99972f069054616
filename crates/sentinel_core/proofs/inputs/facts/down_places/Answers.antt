use Rattle.std.proofs.Common.{◌<◌, length, arith}
use Rattle.std.proofs.Math.ListN.{length-set}
use Rattle.ballot_law.specs.Clocks.{clock}
use Rattle.sentinel_rules.specs.States.{is_node_down}
use Rattle.sentinel_state.proofs.AtPlaces.{filled_more}
use Rattle.sentinel_core.proofs.inputs.facts.down_places.Goals as goal

pub loop-k-preserved : goal.loop-k-preserved
loop-k-preserved c =
    let down = is_node_down c.args.state.now.plan c.args.state.now.core c.args.m (clock c.args.now) in
    let lt : c.loop-k.k < length c.loop-k.down = omega arith in
    record {
      long = simp length-set c.loop-k.invariant.long;
      filled = filled_more down c.loop-k.down c.loop-k.k c.is_node_down.result lt c.is_node_down.ensures c.loop-k.invariant.filled;
    }
