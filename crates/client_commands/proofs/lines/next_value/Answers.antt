use Rattle.std.proofs.Common.{◌∙◌, sym, ap}
use Rattle.client_commands.specs.Lines.{begins_line}
use Rattle.client_commands.proofs.LineReader.{frame_answered}
use Rattle.client_commands.proofs.lines.next_value.Goals as goal

pub returns-else-begins_line-clause-exact : goal.returns-else-begins_line-clause-exact
returns-else-begins_line-clause-exact c =
    frame_answered c.args.frames.now c.next_frame.new.frames c.next_frame.result
    (ap begins_line (sym c.held.ensures) ∙ sym c.begins_line.ensures ∙ c.if-begins_line.false) c.next_frame.ensures.exact
