use Rattle.std.specs.Prelude.{codes}
use Rattle.client_commands.specs.Sections.{count_line, clients_front}
use Rattle.client_commands.proofs.Parts.{four_parts}
use Rattle.client_commands.proofs.infos.add_clients.Goals as goal

pub returns : goal.returns
returns c =
    let figures = c.args.figures.now in
    four_parts c.add_count_line-3.result clients_front (count_line (codes "connected_clients:") figures.connected)
    (count_line (codes "maxclients:") figures.most) (count_line (codes "blocked_clients:") 0)
    c.args.out.now c.add_clients_front.new.out c.add_count_line.new.out c.add_count_line-2.new.out c.add_count_line-3.new.out
    c.in_ok-add_clients_front.ensures c.in_ok-add_count_line.ensures c.in_ok-add_count_line-2.ensures c.add_count_line-3.ensures
