use Rattle.std.proofs.Common.{◌≡◌, false, subst}
use Rattle.ballot_law.specs.declared.messages.NodeName.TheVariants.{StoreAt}
use Rattle.links.specs.declared.target.Target.{Target}
use Rattle.tcp_transport.proofs.Sessions.{whole_ack}
use Rattle.tcp_transport.proofs.said_link.SaidLink.ask_ack.Goals as goal

pub invariant_of-self : goal.invariant_of-self
invariant_of-self g c =
    whole_ack g.J.Which.said g.J.Which.reaches _ c.args.now c.in-StoreAt.field-0 c.self.inside.link c.ask_ack.new.self c.self.invariant
    (subst (λ (target : Target). target.listens ≡ false) c.target-target.ensures c.if-target.false)
    (subst (λ (target : Target). target.node ≡ StoreAt c.in-StoreAt.field-0) c.target-target.ensures c.in-StoreAt.is) c.in-Ok.ensures.shut c.in-Ok.ensures.ok
