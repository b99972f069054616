use Rattle.std.proofs.Common.{◌≡◌, length, take}
use Rattle.ballot_law.specs.Clocks.{clock}
use Rattle.sentinel_rules.specs.Ticks.{at_places, willing_of}
use Rattle.sentinel_core.proofs.inputs.facts.willing_ones.Given as goal

abbrev pub invariant-loop-k : goal.invariant-loop-k
invariant-loop-k l =
    record {
      long : length l.candidates ≡ 256;
      filled : take l.k l.candidates ≡ at_places (willing_of l.plan l.core l.m (clock l.now) l.again) 0 l.k;
    }
