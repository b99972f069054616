use Rattle.std.proofs.Common.{rules, ◌≡◌, IfNone, length, ap, sym, ◌∙◌, subst, arith, List}
use Rattle.ballot_law.specs.declared.cards.Kept.{Kept}
use Rattle.ballot_law.specs.declared.cards.KeptMaster.{KeptMaster}
use Rattle.conf_check.specs.Group.Groups.{AreOfOneGroup}
use Rattle.conf_check.proofs.GroupLemmas.Alike.{kept_of_each, as_many, one_group}
use Rattle.conf_check.proofs.group.differences.difference_of.Goals as goal

pub other_start-requires : goal.other_start-requires
other_start-requires c =
    let same : c.args.one.now.roster ≡ c.args.other.now.roster = search rules in
    let some = c.as_slice-some.ensures ∙ ap (λ (k : Kept). k.masters) c.kept.ensures.value in
    let others = c.as_slice.ensures ∙ ap (λ (k : Kept). k.masters) c.kept-2.ensures.value in
    ap (λ (xs : List KeptMaster). length xs) some
    ∙ as_many c.args.one.now c.args.other.now same c.kept.ensures.part c.kept-2.ensures.part
    ∙ sym (ap (λ (xs : List KeptMaster). length xs) others)

pub returns-in_err-m-clause-none : goal.returns-in_err-m-clause-none
returns-in_err-m-clause-none c =
    let same : c.args.one.now.roster ≡ c.args.other.now.roster = search rules in
    let some = c.as_slice-some.ensures ∙ ap (λ (k : Kept). k.masters) c.kept.ensures.value in
    let others = c.as_slice.ensures ∙ ap (λ (k : Kept). k.masters) c.kept-2.ensures.value in
    let each = c.in_err-m.ensures.none in
    let group = one_group c.args.one.now c.args.other.now c.as_slice-some.result.now c.as_slice.result.now same c.kept.ensures.part c.kept-2.ensures.part some others each in
    subst (λ o. IfNone o (AreOfOneGroup c.args.one.now c.args.other.now)) (sym c.from_residual.ensures) group

pub bounds-masters-m : goal.bounds-masters-m
bounds-masters-m c =
    let some = ap (λ (xs : List KeptMaster). length xs) (c.as_slice-some.ensures ∙ ap (λ (k : Kept). k.masters) c.kept.ensures.value) in
    let many = kept_of_each c.args.one.now c.kept.ensures.part in
    let found = c.in_ok-m.ensures.some.0 in
    let masters : length c.masters.result.now ≡ length c.args.one.now.roster.masters = search rules in
    omega (arith, some, many, found, masters)
