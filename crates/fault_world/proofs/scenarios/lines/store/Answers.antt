use Rattle.std.proofs.Common.{◌≡◌, ℕ, List, [], ◌∷◌, true, false, Err, ap}
use Rattle.std.specs.Prelude.{codes}
use Rattle.std.proofs.lemmas.Result.{err_from_is_err_and}
use Rattle.fault_world.specs.declared.scenarios.faults.ScenarioKind.{ScenarioKind}
use Rattle.fault_world.specs.declared.scenarios.faults.ScenarioKind.TheVariants.{WrongWords}
use Rattle.fault_world.specs.Scenarios.Scenarios.{OneOf, is_node, may_be, row_line, store_row}
use Rattle.fault_world.proofs.scenarios.lines.store.Goals as goal

wrong_how : (args : List (List ℕ)) (node how : List ℕ) (kind : ScenarioKind) → args ≡ node ∷ how ∷ [] → is_node node ≡ true
    → (kind ≡ WrongWords) × (may_be (OneOf (codes "ok" ∷ codes "old" ∷ codes "new" ∷ [])) how ≡ false) → Err kind ≡ row_line store_row args
wrong_how args node how kind two is wrong = rw two (rw is (rw wrong.1 (ap Err wrong.0)))

pub returns-in_err-left-clause-line : goal.returns-in_err-left-clause-line
returns-in_err-left-clause-line c =
    let p = err_from_is_err_and c.from_residual-in_err-left.result c.from_residual-in_err-left.ensures.1 in
    rw (p.1, p.2) (wrong_how _ c.in_ok-node.node.now c.in_ok-node.how.now c.in_err-left.field-0.0 c.in_ok-node.ensures c.in_ok-check_node.ensures c.in_err-left.ensures)
