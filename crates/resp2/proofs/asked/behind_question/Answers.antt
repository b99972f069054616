use Rattle.std.proofs.Common.{refl, arith}
use Rattle.std.specs.Prelude.{codes}
use Rattle.resp2.proofs.Found.{spelled_names_behind}
use Rattle.resp2.proofs.asked.behind_question.Goals as goal

pub returns : goal.returns
returns c =
    spelled_names_behind 6 2 2 (codes "IS-MASTER-DOWN-BY-ADDR") (codes "is-master-down-by-addr") c.args.bytes.now c.in_ok-rest.rest.now c.in_ok-rest.ensures
    (omega arith) (omega arith) (λ k. omega arith) (omega arith) refl refl refl refl
