use Rattle.std.proofs.Common.{◌++◌}
use Rattle.std.specs.Prelude.{decimal}
use Rattle.resp2.specs.Framing.Frame.{line_end}
use Rattle.port_answers.specs.declared.info_lines.TheConstants.{SECTION_MAX}
use Rattle.port_answers.specs.InfoLines.{tilt_lines, no_scripts, title}
use Rattle.bounded_list.proofs.Bounded.{two_adds}
use Rattle.port_answers.proofs.info_lines.InfoSection.add_front.Goals as goal

pub returns : goal.returns
returns c =
    let old = c.args.self.now in
    let counted = c.add_counted.new.self in
    let ended = c.add.new.self in
    let tilted = c.add_tilt.new.self in
    let new = c.add-2.new.self in
    let tilt = tilt_lines c.args.tilt in
    two_adds SECTION_MAX old counted new (title ++ decimal c.args.masters) (line_end ++ (tilt ++ no_scripts)) c.add_counted.ensures
    (two_adds SECTION_MAX counted ended new line_end (tilt ++ no_scripts) c.add.ensures
    (two_adds SECTION_MAX ended tilted new tilt no_scripts c.add_tilt.ensures c.add-2.ensures))
