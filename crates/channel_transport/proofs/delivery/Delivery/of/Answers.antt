use Rattle.channel_transport.proofs.delivery.Delivery.of.Goals as goal

pub invariant_of-result : goal.invariant_of-result
invariant_of-result c = c.requires.within
