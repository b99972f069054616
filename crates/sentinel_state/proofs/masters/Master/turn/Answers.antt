use Rattle.failover_states.specs.Known.{known}
use Rattle.sentinel_state.proofs.FewPlaces.{few_after}
use Rattle.sentinel_state.proofs.masters.Master.turn.Goals as goal

pub invariant_of-self : goal.invariant_of-self
invariant_of-self c =
    let held = c.self.invariant in
    (held.0, few_after c.self.inside.failover c.turn.new.self (known c.args.facts.now) c.turn.result.row c.turn.result.vote c.turn.ensures c.requires held.1)
