use Rattle.std.proofs.Common.{◌∙◌}
use Rattle.ballot_law.specs.Clocks.{clock}
use Rattle.failover_states.specs.Known.{known}
use Rattle.failover_states.specs.Table.{can_be_told}
use Rattle.failover_states.proofs.Told.{told_all}
use Rattle.failover_states.proofs.replicas.Masters.tell_all.Goals as goal

pub returns : goal.returns
returns c =
    let masters = c.args.self in
    let facts = c.args.facts.now in
    c.tell.ensures ∙ told_all (can_be_told masters.choice masters.former (known facts)) (clock facts.now) c.args.replicas.now
