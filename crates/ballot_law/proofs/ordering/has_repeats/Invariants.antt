use Rattle.std.proofs.Common.{◌≡◌, ◌+◌, ◌||◌, drop, get_or}
use Rattle.std.specs.List.{list_any}
use Rattle.ballot_law.specs.Ordered.{repeats}
use Rattle.ballot_law.proofs.ordering.has_repeats.Given as goal

abbrev pub invariant-first : goal.invariant-first
invariant-first g l = repeats g.T.Keyed.same l.items ≡ repeats g.T.Keyed.same (drop l.i l.items)

abbrev pub invariant-second : goal.invariant-second
invariant-second g l = (d : _) → repeats g.T.Keyed.same l.items ≡ (list_any (g.T.Keyed.same (get_or l.items l.i d)) (drop l.j l.items) || repeats g.T.Keyed.same
    (drop (l.i + 1) l.items))
