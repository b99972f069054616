use Rattle.std.specs.Prelude.{codes}
use Rattle.client_commands.specs.Sections.{count_line, stats_front}
use Rattle.client_commands.proofs.Parts.{four_parts}
use Rattle.client_commands.proofs.infos.add_stats.Goals as goal

pub returns : goal.returns
returns c =
    let figures = c.args.figures.now in
    four_parts c.add_count_line-3.result stats_front (count_line (codes "total_connections_received:") figures.received)
    (count_line (codes "total_commands_processed:") figures.commands) (count_line (codes "rejected_connections:") figures.rejected)
    c.args.out.now c.add_stats_front.new.out c.add_count_line.new.out c.add_count_line-2.new.out c.add_count_line-3.new.out
    c.in_ok-add_stats_front.ensures c.in_ok-add_count_line.ensures c.in_ok-add_count_line-2.ensures c.add_count_line-3.ensures
