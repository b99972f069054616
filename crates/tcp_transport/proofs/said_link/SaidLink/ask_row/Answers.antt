use Rattle.std.proofs.Common.{◌≡◌, false, subst}
use Rattle.links.specs.declared.target.Target.{Target}
use Rattle.tcp_transport.proofs.Sessions.{whole_row}
use Rattle.tcp_transport.proofs.said_link.SaidLink.ask_row.Goals as goal

pub invariant_of-self : goal.invariant_of-self
invariant_of-self g c =
    whole_row g.J.Which.said g.J.Which.reaches _ c.args.now c.args.name.now c.in-Ok.is_asked c.self.inside.link c.ask_row.new.self c.self.invariant
    (subst (λ (target : Target). target.listens ≡ false) c.target.ensures c.if-target.false) c.in-Ok.ensures.asked c.in-Ok.ensures.unasked
