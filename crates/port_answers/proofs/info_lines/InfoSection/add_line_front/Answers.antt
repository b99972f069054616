use Rattle.std.proofs.Common.{ℕ, List, ◌++◌, ap, ◌∙◌}
use Rattle.std.specs.Prelude.{codes, decimal}
use Rattle.port_answers.specs.declared.info_lines.TheConstants.{SECTION_MAX}
use Rattle.port_answers.specs.InfoLines.{status}
use Rattle.port_answers.specs.Room.{within_section}
use Rattle.bounded_list.proofs.Bounded.{two_adds}
use Rattle.port_answers.proofs.info_lines.InfoSection.add_line_front.Goals as goal

pub returns : goal.returns
returns c =
    let old = c.args.self.now in
    let master = c.args.master.now in
    let numbered = c.add_counted.new.self in
    let named = c.add_labelled.new.self in
    let new = c.add_labelled-2.new.self in
    let number : List ℕ = codes "master" ++ decimal c.args.n in
    let name : List ℕ = codes ":name=" ++ master.name in
    let state : List ℕ = codes ",status=" ++ status master.down master.odown in
    two_adds SECTION_MAX old numbered new number (name ++ state) c.add_counted.ensures
    (two_adds SECTION_MAX numbered named new name state
    (c.add_labelled.ensures ∙ ap (λ (t : List ℕ). within_section (numbered ++ (codes ":name=" ++ t))) c.as_slice.ensures)
    (c.add_labelled-2.ensures ∙ ap (λ (t : List ℕ). within_section (named ++ (codes ",status=" ++ t))) c.status.ensures))
