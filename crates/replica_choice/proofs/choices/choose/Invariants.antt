use Rattle.std.proofs.Common.{◌≡◌, ◌<◌, length}
use Rattle.std.specs.Prelude.{IfSome}
use Rattle.replica_choice.specs.Choices.{choice_below}
use Rattle.replica_choice.proofs.choices.choose.Given as goal

abbrev pub invariant-loop-place : goal.invariant-loop-place
invariant-loop-place l =
    record {
      value : l.best ≡ choice_below l.candidates l.now l.limits l.place;
      listed : IfSome l.best (λ best. best < length l.candidates);
    }
