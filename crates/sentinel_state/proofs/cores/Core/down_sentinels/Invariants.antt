use Rattle.std.proofs.Common.{◌≡◌, length, take}
use Rattle.ballot_law.specs.Clocks.{clock}
use Rattle.sentinel_state.specs.Sights.{is_other_down}
use Rattle.sentinel_rules.specs.Ticks.{at_places}
use Rattle.sentinel_state.proofs.cores.Core.down_sentinels.Given as goal

abbrev pub invariant-loop-place : goal.invariant-loop-place
invariant-loop-place l =
    record {
      long : length l.down ≡ 64;
      filled : take l.place l.down ≡ at_places (is_other_down l.plan l.self (clock l.now)) 0 l.place;
    }
