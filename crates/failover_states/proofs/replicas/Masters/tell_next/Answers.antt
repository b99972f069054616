use Rattle.std.proofs.Common.{◌≡◌, ◌∙◌, ◌-◌, ap, arith}
use Rattle.std.proofs.lemmas.Grind.{common_steps}
use Rattle.ballot_law.specs.Clocks.{clock}
use Rattle.failover_states.specs.Known.{known}
use Rattle.failover_states.specs.Orders.{ordered_from}
use Rattle.failover_states.specs.Table.{can_be_told, busy_count}
use Rattle.failover_states.proofs.Told.{told_next}
use Rattle.failover_states.proofs.replicas.Masters.tell_next.Goals as goal

pub returns : goal.returns
returns c =
    let masters = c.args.self in
    let facts = c.args.facts.now in
    let held = c.args.replicas.now in
    let can = can_be_told masters.choice masters.former (known facts) in
    let free : c.saturating_sub-free.result ≡ facts.parallel_syncs - busy_count held = grind (arith, common_steps, c.busy.ensures, c.saturating_sub-free.ensures) in
    c.tell.ensures
    ∙ (ap (λ n. ordered_from can (clock facts.now) 0 n held) free
    ∙ told_next can (clock facts.now) (busy_count held) facts.parallel_syncs held)
