use Rattle.std.proofs.Common.{rules, sym, ◌∙◌}
use Rattle.ballot_law.proofs.Same.{same_plan}
use Rattle.ballot_law.proofs.same_rosters.is_same_master.Goals as goal

pub returns-clause-same : goal.returns-clause-same
returns-clause-same c = λ t.
    same_plan c.args.one.now c.args.other.now (search rules) (sym c.nodes.ensures ∙ c.are_same_addrs.ensures.same t ∙ c.nodes-2.ensures) (search rules)
