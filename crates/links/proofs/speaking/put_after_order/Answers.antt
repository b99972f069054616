use Rattle.links.proofs.Saying.{four_ordered}
use Rattle.links.proofs.speaking.put_after_order.Goals as goal

pub returns-clause-ok : goal.returns-clause-ok
returns-clause-ok c =
    four_ordered c.command.result c.args.session.now c.order.new.self c.order-2.new.self c.order-3.new.self c.command.new.self _ _ _ _ _
    c.in_ok-order.ensures.ok c.in_ok-order-2.ensures.ok c.in_ok-order-3.ensures.ok c.command.ensures.ok
