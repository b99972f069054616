use Rattle.links.proofs.Keeping.{kept_ack}
use Rattle.links.proofs.node_link.NodeLink.ask_ack.Goals as goal

pub invariant_of-self : goal.invariant_of-self
invariant_of-self c =
    kept_ack c.self.inside.target c.self.inside.session c.put_ack_question.new.session c.self.invariant c.in-Ok.ensures.ok c.in-Ok.ensures.bounded

pub invariant_of-self-else-not-waits : goal.invariant_of-self-else-not-waits
invariant_of-self-else-not-waits c =
    kept_ack c.self.inside.target c.self.inside.session c.put_ack_question.new.session c.self.invariant c.in-Ok.ensures.ok c.in-Ok.ensures.bounded
