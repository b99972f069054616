use Rattle.std.proofs.Common.{◌≡◌, ◌↔◌, Bool, IsTrue, subst, rules}
use Rattle.fault_world.proofs.boxes.has_roster.Goals as goal

-- what is told of the node that the box lends is told of the node in the box
told_known : {N : Type 0} (is_known : N → Type 0) (node lent : N) (result : Bool) → lent ≡ node → (IsTrue result ↔ is_known lent) → IsTrue result ↔ is_known node
told_known is_known node lent result same told = subst (λ n. IsTrue result ↔ is_known n) same told

pub returns : goal.returns
returns g c =
    let node = c.args.node.now in
    told_known (λ v. (goal.Node-dyn g v).is_known v.1 c.args.roster.now) (node.vtable, node.value) _ c.knows.result (search rules) c.knows.ensures
