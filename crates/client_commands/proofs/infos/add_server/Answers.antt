use Rattle.std.proofs.Common.{◌∙◌, ◌++◌, ◌/◌, ℕ, List, ap}
use Rattle.std.specs.Prelude.{codes}
use Rattle.client_commands.specs.Sections.{line, count_line, server_front}
use Rattle.ballot_law.specs.Words.{id_text}
use Rattle.client_commands.proofs.Parts.{six_parts}
use Rattle.client_commands.proofs.infos.add_server.Goals as goal

pub returns : goal.returns
returns c =
    let figures = c.args.figures.now in
    let id_told = c.in_ok-add_line.ensures
    ∙ ap (λ (t : List ℕ). c.add_count_line.new.out ++ line (codes "run_id:") t) (c.as_slice.ensures.value ∙ c.run_id_text.ensures.items) in
    let port_told = c.in_ok-add_count_line-2.ensures ∙ ap (λ (n : ℕ). c.add_line.new.out ++ count_line (codes "tcp_port:") n) c.from.ensures in
    six_parts c.add_count_line-4.result server_front (count_line (codes "process_id:") figures.process) (line (codes "run_id:") (id_text figures.run_id))
    (count_line (codes "tcp_port:") figures.address.port) (count_line (codes "uptime_in_seconds:") (figures.clock / 1000))
    (count_line (codes "uptime_in_days:") (figures.clock / 86400000))
    c.args.out.now c.add_server_front.new.out c.add_count_line.new.out c.add_line.new.out c.add_count_line-2.new.out c.add_count_line-3.new.out
    c.add_count_line-4.new.out
    c.in_ok-add_server_front.ensures c.in_ok-add_count_line.ensures id_told port_told c.in_ok-add_count_line-3.ensures c.add_count_line-4.ensures
