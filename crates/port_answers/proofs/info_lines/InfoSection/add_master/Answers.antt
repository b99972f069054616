use Rattle.std.proofs.Common.{ℕ, List, ◌++◌, ap, ◌∙◌}
use Rattle.std.specs.Prelude.{codes}
use Rattle.port_answers.specs.declared.info_lines.TheConstants.{SECTION_MAX}
use Rattle.port_answers.specs.Answers.{addr_text}
use Rattle.port_answers.specs.InfoLines.{line_front, line_counts}
use Rattle.port_answers.specs.Room.{within_section}
use Rattle.bounded_list.proofs.Bounded.{two_adds}
use Rattle.port_answers.proofs.info_lines.InfoSection.add_master.Goals as goal

pub returns : goal.returns
returns c =
    let old = c.args.self.now in
    let master = c.args.master.now in
    let begun = c.add_line_front.new.self in
    let placed = c.add_labelled.new.self in
    let new = c.add_line_counts.new.self in
    let place : List ℕ = codes ",address=" ++ addr_text master.addr in
    two_adds SECTION_MAX old begun new (line_front c.args.n master) (place ++ line_counts master) c.add_line_front.ensures
    (two_adds SECTION_MAX begun placed new place (line_counts master)
    (c.add_labelled.ensures ∙ ap (λ (t : List ℕ). within_section (begun ++ (codes ",address=" ++ t))) (c.as_slice.ensures.value ∙ c.addr_text.ensures))
    c.add_line_counts.ensures)
