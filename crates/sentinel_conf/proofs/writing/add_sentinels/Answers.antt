use Rattle.std.proofs.Common.{ap, sym, ◌∙◌}
use Rattle.std.specs.Prelude.{not}
use Rattle.ballot_law.specs.declared.rosters.Member.{Member}
use Rattle.ballot_law.specs.Orders.{same_id}
use Rattle.conf_lines.specs.declared.lines.StateLine.TheVariants.{KnownSentinel}
use Rattle.sentinel_conf.proofs.RoomLemmas.{lines_more}
use Rattle.sentinel_conf.proofs.writing.add_sentinels.Goals as goal

pub loop-rest-preserved-then-not-is_same : goal.loop-rest-preserved-then-not-is_same
loop-rest-preserved-then-not-is_same c =
    lines_more (λ (member : Member). not (same_id c.args.id member.id)) (λ (member : Member). KnownSentinel c.args.name.now member.addr member.id) c.args.out.now c.loop-rest.out
    c.add_state.new.out c.args.members.now c.loop-rest.rest.now _
    c.in-len1-up.len_at_least (ap not (sym c.is_same.ensures ∙ c.if-not-is_same.true)) c.add_state.ensures c.loop-rest.invariant
