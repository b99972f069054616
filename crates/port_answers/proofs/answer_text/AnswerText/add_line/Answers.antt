use Rattle.std.proofs.Common.{◌++◌}
use Rattle.resp2.specs.Framing.Frame.{line_end}
use Rattle.port_answers.proofs.Filling.{filled}
use Rattle.port_answers.proofs.answer_text.AnswerText.add_line.Goals as goal

pub returns : goal.returns
returns c = filled c.push_line.result c.args.self.now c.push_line.new.sink (c.args.line.now ++ line_end) c.push_line.ensures.added c.push_line.ensures.within
