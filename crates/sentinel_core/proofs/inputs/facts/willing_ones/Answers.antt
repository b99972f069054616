use Rattle.std.proofs.Common.{◌<◌, length, arith}
use Rattle.std.proofs.Math.ListN.{length-set}
use Rattle.ballot_law.specs.Clocks.{clock}
use Rattle.sentinel_rules.specs.Ticks.{willing_of}
use Rattle.sentinel_state.proofs.AtPlaces.{filled_more}
use Rattle.sentinel_core.proofs.inputs.facts.willing_ones.Goals as goal

pub loop-k-preserved : goal.loop-k-preserved
loop-k-preserved c =
    let willing = willing_of c.args.plan.now c.args.core.now c.args.m (clock c.args.now) c.args.again in
    let lt : c.loop-k.k < length c.loop-k.candidates = omega arith in
    record {
      long = simp length-set c.loop-k.invariant.long;
      filled = filled_more willing c.loop-k.candidates c.loop-k.k c.willing.result lt c.willing.ensures c.loop-k.invariant.filled;
    }
