use Rattle.std.specs.Prelude.{codes}
use Rattle.client_commands.specs.Sections.{time_line, cpu_front}
use Rattle.client_commands.proofs.Parts.{three_parts}
use Rattle.client_commands.proofs.infos.add_cpu.Goals as goal

pub returns : goal.returns
returns c =
    let figures = c.args.figures.now in
    three_parts c.add_time_line-2.result cpu_front (time_line (codes "used_cpu_sys:") figures.system_time) (time_line (codes "used_cpu_user:") figures.user_time)
    c.args.out.now c.add_cpu_front.new.out c.add_time_line.new.out c.add_time_line-2.new.out
    c.in_ok-add_cpu_front.ensures c.in_ok-add_time_line.ensures c.add_time_line-2.ensures
