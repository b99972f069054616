use Rattle.std.proofs.Common.{ap, sym, ◌∙◌}
use Rattle.std.specs.Prelude.{not}
use Rattle.ballot_law.specs.Orders.{same_addr}
use Rattle.conf_lines.specs.declared.lines.StateLine.TheVariants.{KnownReplica}
use Rattle.sentinel_conf.proofs.RoomLemmas.{lines_more}
use Rattle.sentinel_conf.proofs.writing.add_replicas.Goals as goal

pub loop-rest-preserved-then-not-is_same : goal.loop-rest-preserved-then-not-is_same
loop-rest-preserved-then-not-is_same c =
    lines_more (λ addr. not (same_addr c.args.at addr)) (KnownReplica c.args.name.now) c.args.out.now c.loop-rest.out c.add_state.new.out c.args.nodes.now c.loop-rest.rest.now _
    c.in-len1-up.len_at_least (ap not (sym c.is_same.ensures ∙ c.if-not-is_same.true)) c.add_state.ensures c.loop-rest.invariant
