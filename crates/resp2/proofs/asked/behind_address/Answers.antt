use Rattle.std.proofs.Common.{refl, arith}
use Rattle.std.specs.Prelude.{codes}
use Rattle.resp2.proofs.Found.{spelled_names_behind}
use Rattle.resp2.proofs.asked.behind_address.Goals as goal

pub returns : goal.returns
returns c =
    spelled_names_behind 3 2 3 (codes "GET-MASTER-ADDR-BY-NAME") (codes "get-master-addr-by-name") c.args.bytes.now c.in_ok-rest.rest.now c.in_ok-rest.ensures
    (omega arith) (omega arith) (λ k. omega arith) (omega arith) refl refl refl refl
