use Rattle.std.proofs.Common.{rules}
use Rattle.ballot_law.proofs.Same.{slices_told}
use Rattle.ballot_law.proofs.same_rosters.are_same_addrs.Goals as goal

pub returns-clause-same : goal.returns-clause-same
returns-clause-same c = λ t. (slices_told _ _ _ _ c.eq.ensures (λ a b. search rules)).0 t

pub returns-clause-other : goal.returns-clause-other
returns-clause-other c = λ f. (slices_told _ _ _ _ c.eq.ensures (λ a b. search rules)).1 f
