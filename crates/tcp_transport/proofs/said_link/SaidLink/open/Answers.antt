use Rattle.std.proofs.Common.{[], ap, subst, sym}
use Rattle.links.specs.declared.target.Target.{Target}
use Rattle.links.specs.NodeLinks.{State}
use Rattle.tcp_transport.proofs.Sessions.{whole_opened, whole_fresh}
use Rattle.tcp_transport.proofs.said_link.SaidLink.open.Goals as goal

-- the socket is to the node that it was to before
pub connected-requires : goal.connected-requires
connected-requires g c =
    subst (λ (target : Target). ∥ g.J.Which.reaches target ∥₁) (sym c.target.ensures)
    (subst (λ (x : State). ∥ g.J.Which.reaches x.target ∥₁) (sym c.in-Ok.ensures.ok) c.self.invariant.reached)

pub invariant_of-self-in-Some-2 : goal.invariant_of-self-in-Some-2
invariant_of-self-in-Some-2 g c =
    whole_opened g.J.Which.said g.J.Which.reaches (g.C.Stream.Socket.stands c.in-Some.socket) c.args.now c.args.login c.self.inside.link c.open.new.self
    c.self.invariant.reached c.in-Ok.ensures.ok
    (subst (λ (target : Target). g.C.Stream.Socket.stands c.in-Some.socket target [] []) c.target.ensures c.in-Some.ensures)

pub invariant_of-self-in-None : goal.invariant_of-self-in-None
invariant_of-self-in-None g c =
    whole_fresh g.J.Which.said g.J.Which.reaches c.open.new.self.target c.close.new.self
    (subst (λ (x : State). ∥ g.J.Which.reaches x.target ∥₁) (sym c.in-Ok.ensures.ok) c.self.invariant.reached) (ap (λ (x : State). x.target) c.close.ensures)
    (ap (λ (x : State). x.talk) c.close.ensures)
