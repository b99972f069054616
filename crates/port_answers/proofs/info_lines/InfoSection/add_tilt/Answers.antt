use Rattle.std.proofs.Common.{ℕ, List, ◌+◌, ◌/◌, ◌++◌, Option, ap, sym, ◌∙◌}
use Rattle.std.specs.Prelude.{codes, decimal}
use Rattle.resp2.specs.Framing.Frame.{line_end}
use Rattle.port_answers.specs.declared.info_lines.TheConstants.{SECTION_MAX}
use Rattle.port_answers.specs.InfoLines.{tilt_lines}
use Rattle.port_answers.specs.Room.{within_section}
use Rattle.bounded_list.proofs.Bounded.{two_adds}
use Rattle.port_answers.proofs.info_lines.InfoSection.add_tilt.Goals as goal

pub returns-in-Some : goal.returns-in-Some
returns-in-Some c =
    let old = c.args.self.now in
    let first = c.add.new.self in
    let second = c.add_counted.new.self in
    let new = c.add-in-Some.new.self in
    let seconds : List ℕ = codes "sentinel_tilt_since_seconds:" ++ decimal (c.in-Some.millis / 1000) in
    two_adds SECTION_MAX old first new (codes "sentinel_tilt:1" ++ line_end) (seconds ++ line_end) c.add.ensures
    (two_adds SECTION_MAX first second new seconds line_end c.add_counted.ensures c.add-in-Some.ensures)
    ∙ ap (λ (t : Option ℕ). within_section (old ++ tilt_lines t)) (sym c.in-Some.is)
