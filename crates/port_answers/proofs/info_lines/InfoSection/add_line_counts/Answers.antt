use Rattle.std.proofs.Common.{ℕ, List, ◌++◌}
use Rattle.std.specs.Prelude.{codes, decimal}
use Rattle.resp2.specs.Framing.Frame.{line_end}
use Rattle.port_answers.specs.declared.info_lines.TheConstants.{SECTION_MAX}
use Rattle.bounded_list.proofs.Bounded.{two_adds}
use Rattle.port_answers.proofs.info_lines.InfoSection.add_line_counts.Goals as goal

pub returns : goal.returns
returns c =
    let old = c.args.self.now in
    let master = c.args.master.now in
    let first = c.add_counted.new.self in
    let second = c.add_counted-2.new.self in
    let new = c.add.new.self in
    let replicas : List ℕ = codes ",slaves=" ++ decimal master.replicas in
    let sentinels : List ℕ = codes ",sentinels=" ++ decimal master.sentinels in
    two_adds SECTION_MAX old first new replicas (sentinels ++ line_end) c.add_counted.ensures
    (two_adds SECTION_MAX first second new sentinels line_end c.add_counted-2.ensures c.add.ensures)
