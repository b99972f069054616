use Rattle.std.proofs.Common.{rules, ◌≡◌, ◌++◌, subst}
use Rattle.sentinel_cell.specs.Calls.{AreApart}
use Rattle.sentinel_cell.proofs.Owners.{apart_halves}
use Rattle.sentinel_cell.proofs.shared.SharedSentinel.join.Goals as goal

pub invariant_of-result : goal.invariant_of-result
invariant_of-result c = search rules

pub returns-clause-fronts : goal.returns-clause-fronts
returns-clause-fronts c = search rules

pub returns-clause-calls : goal.returns-clause-calls
returns-clause-calls c = search rules

pub returns-clause-numbers : goal.returns-clause-numbers
returns-clause-numbers c = search rules

pub returns-clause-apart : goal.returns-clause-apart
returns-clause-apart g c =
    let numbers : c.join_at.new.place.me.0.numbers ≡ c.args.one.view.numbers ++ c.args.two.view.numbers = search rules in
    apart_halves c.args.one.view.numbers c.args.two.view.numbers (subst AreApart numbers c.join_at.ensures.apart)

pub returns-clause-answers : goal.returns-clause-answers
returns-clause-answers c = search rules

pub returns-clause-given : goal.returns-clause-given
returns-clause-given c = search rules

pub returns-clause-share : goal.returns-clause-share
returns-clause-share c = search rules
