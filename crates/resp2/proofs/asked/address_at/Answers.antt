use Rattle.resp2.proofs.Found.{address_found}
use Rattle.resp2.proofs.asked.address_at.Goals as goal

pub returns-clause-found : goal.returns-clause-found
returns-clause-found c =
    rw c.name_of.ensures (address_found c.args.bytes.now c.in_ok-behind_address.field-0.now c.in_ok-name.name.now c.in_ok-name.rest.now c.in_ok-behind_address.ensures
    c.in_ok-name.ensures.0 c.in_ok-name.ensures.1)
