use Rattle.std.proofs.Common.{◌≡◌, length, arith}
use Rattle.replica_choice.proofs.Best.{IsEligible-choice_of, none_better-choice_of, IsNone-choice_of}
use Rattle.replica_choice.proofs.choices.choose.Goals as goal

pub returns-clause-chosen : goal.returns-clause-chosen
returns-clause-chosen c =
    let all : c.loop-place.place ≡ length c.args.candidates.now = omega arith in
    rw (c.loop-place.invariant.value, all) (IsEligible-choice_of c.args.candidates.now c.args.now c.args.limits)

pub returns-clause-none_better : goal.returns-clause-none_better
returns-clause-none_better c =
    let all : c.loop-place.place ≡ length c.args.candidates.now = omega arith in
    rw (c.loop-place.invariant.value, all) (none_better-choice_of c.args.candidates.now c.args.now c.args.limits)

pub returns-clause-none : goal.returns-clause-none
returns-clause-none c =
    let all : c.loop-place.place ≡ length c.args.candidates.now = omega arith in
    rw (c.loop-place.invariant.value, all) (IsNone-choice_of c.args.candidates.now c.args.now c.args.limits)
