use Rattle.std.proofs.Common.{◌+◌, drop, arith, sym, ◌∙◌}
use Rattle.ballot_law.specs.Ordered.{repeats}
use Rattle.ballot_law.proofs.Placing.{found_again, not_found, second_start, second_end}
use Rattle.ballot_law.proofs.ordering.has_repeats.Goals as goal

pub returns-then-is_same : goal.returns-then-is_same
returns-then-is_same g c =
    found_again g.T.Keyed.same c.args.items.now c.first.i c.second.j c.index-items-i.result c.index-items-j.result (repeats g.T.Keyed.same c.args.items.now)
    (repeats g.T.Keyed.same (drop (c.first.i + 1) c.args.items.now))
    c.index-items-i.is c.index-items-j.is (omega arith) (sym c.is_same.ensures ∙ c.if-is_same.true) c.second.invariant

pub second-init : goal.second-init
second-init g c =
    second_start g.T.Keyed.same c.args.items.now c.first.i (repeats g.T.Keyed.same c.args.items.now) (omega arith) c.first.invariant

pub second-preserved : goal.second-preserved
second-preserved g c =
    not_found g.T.Keyed.same c.args.items.now c.first.i c.second.j c.index-items-i.result c.index-items-j.result (repeats g.T.Keyed.same c.args.items.now)
    (repeats g.T.Keyed.same (drop (c.first.i + 1) c.args.items.now))
    c.index-items-i.is c.index-items-j.is (omega arith) (omega arith) (sym c.is_same.ensures ∙ c.if-is_same.false) c.second.invariant

pub first-preserved : goal.first-preserved
first-preserved g c =
    second_end g.T.Keyed.same c.args.items.now c.first.i c.second.j (repeats g.T.Keyed.same c.args.items.now) (repeats g.T.Keyed.same (drop (c.first.i + 1) c.args.items.now))
    (omega arith) (omega arith) c.second.invariant
