use Rattle.std.proofs.Common.{◌≡◌, List, ◌++◌, Ok, Err, subst}
use Rattle.std.specs.List.{AllByRecursion}
use Rattle.ballot_law.specs.declared.events.Event.{Event}
use Rattle.links.specs.Sessions.Links.{IsHeard, IsBroken, events_in}
use Rattle.links.specs.NodeLinks.{State, IsHeardOn}
use Rattle.links.proofs.Keeping.{piece_kept, piece_received}
use Rattle.links.proofs.node_link.NodeLink.received.Goals as goal

pub invariant_of-self : goal.invariant_of-self
invariant_of-self c =
    piece_kept c.self.inside.target c.self.inside.session c.received.new.self c.args.piece.now c.in-Ok.field-0 (events_in c.args.heard.now.items) (events_in c.received.new.heard.items)
    c.self.invariant c.in-Ok.ensures.received c.in-Ok.ensures.node c.in-Ok.ensures.listens c.in-Ok.ensures.open c.in-Ok.ensures.unsent c.in-Ok.ensures.kept

pub returns-in-Ok-clause-received : goal.returns-in-Ok-clause-received
returns-in-Ok-clause-received c =
    subst (λ (s : State). (x : List Event) × ((events_in c.received.new.heard.items) ≡ (events_in c.args.heard.now.items) ++ x) × AllByRecursion (IsHeardOn s.target) x
    × IsHeard s.target.node s.target.listens s.talk.asked (s.talk.held ++ c.args.piece.now) x c.received.new.self.asked c.received.new.self.held) c.self.view_is
    (piece_received c.self.inside.target c.self.inside.session c.args.piece.now (Ok c.in-Ok.field-0) (events_in c.args.heard.now.items) (events_in c.received.new.heard.items)
    c.received.new.self.asked c.received.new.self.held c.self.invariant c.in-Ok.ensures.received)

pub returns-in-Err-clause-received : goal.returns-in-Err-clause-received
returns-in-Err-clause-received c =
    subst (λ (s : State). (x : List Event) × ((events_in c.received.new.heard.items) ≡ (events_in c.args.heard.now.items) ++ x) × AllByRecursion (IsHeardOn s.target) x
    × IsBroken s.target.node s.target.listens s.talk.asked (s.talk.held ++ c.args.piece.now) c.in-Err.fault x) c.self.view_is
    (piece_received {X = Unit {0}} c.self.inside.target c.self.inside.session c.args.piece.now (Err c.in-Err.fault) (events_in c.args.heard.now.items) (events_in c.received.new.heard.items)
    c.received.new.self.asked c.received.new.self.held c.self.invariant c.in-Err.ensures.received)
