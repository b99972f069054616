use Rattle.std.proofs.Common.{sym, subst, ◌≤◌, ℕ, length}
use Rattle.std.specs.Prelude.{IfSome, Option}
use Rattle.ballot_law.specs.declared.addresses.Addr.{Addr}
use Rattle.ballot_law.specs.declared.rosters.TheConstants.{NODES_MAX}
use Rattle.ballot_law.specs.Clocks.{clock}
use Rattle.sentinel_rules.specs.Plans.{nodes_of}
use Rattle.sentinel_core.proofs.InputsLemmas.FewBest.{best_few}
use Rattle.sentinel_core.proofs.inputs.facts.best_for.Goals as goal

pub returns-then-looks_at_best-clause-few : goal.returns-then-looks_at_best-clause-few
returns-then-looks_at_best-clause-few c =
    let plan = c.args.state.now.plan in
    let few : length (nodes_of plan c.args.m) ≤ NODES_MAX = subst (λ nodes. length nodes ≤ NODES_MAX) c.nodes-few.ensures.value c.nodes-few.ensures.few in
    subst (λ (best : Option (ℕ × Addr)). IfSome best (λ b. b.0 ≤ NODES_MAX)) (sym c.best.ensures)
    (best_few plan c.args.state.now.core c.args.m (clock c.args.now) few)
