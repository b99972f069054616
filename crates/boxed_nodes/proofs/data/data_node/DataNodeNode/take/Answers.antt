use Rattle.std.proofs.Common.{sym, subst}
use Rattle.std.specs.List.{All}
use Rattle.ballot_law.specs.declared.messages.NodeName.TheVariants.{StoreAt}
use Rattle.ballot_law.specs.Worlds.{IsPassable}
use Rattle.boxed_nodes.proofs.DataLemmas.SaidMessages.{all_passable}
use Rattle.boxed_nodes.proofs.DataLemmas.Taking.{store_takes}
use Rattle.boxed_nodes.proofs.data.data_node.DataNodeNode.take.Goals as goal

pub returns-clause-takes : goal.returns-clause-takes
returns-clause-takes c =
    let k = c.self.inside.number in
    let event = c.args.input.now.event in
    rw (← c.self.view_is)
    (store_takes k event c.say.new.outbox.held c.self.inside.turn c.take.new.self c.in_ok-take.ensures.was c.in_ok-take.ensures.is
    (subst (All (IsPassable (StoreAt k) event)) (sym c.say.ensures.held) (all_passable k c.self.inside.sentinels c.change.new.self event)))
