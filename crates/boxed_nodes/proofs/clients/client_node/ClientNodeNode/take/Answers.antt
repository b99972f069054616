use Rattle.std.proofs.Common.{sym, subst}
use Rattle.std.specs.List.{All}
use Rattle.ballot_law.specs.declared.messages.NodeName.TheVariants.{ClientAt}
use Rattle.ballot_law.specs.Worlds.{IsPassable}
use Rattle.boxed_nodes.proofs.ClientsLemmas.Saying.{all_passable}
use Rattle.boxed_nodes.proofs.ClientsLemmas.Taking.{client_takes}
use Rattle.boxed_nodes.proofs.clients.client_node.ClientNodeNode.take.Goals as goal

pub returns-clause-takes : goal.returns-clause-takes
returns-clause-takes c =
    let k = c.self.inside.number in
    let event = c.args.input.now.event in
    rw (← c.self.view_is)
    (client_takes k event c.say.new.outbox.held c.self.inside.turn c.take.new.self c.in_ok-take.ensures.was c.in_ok-take.ensures.is
    (subst (All (IsPassable (ClientAt k) event)) (sym c.say.ensures.held) (all_passable c.self.inside.group k c.self.inside.search event)))
