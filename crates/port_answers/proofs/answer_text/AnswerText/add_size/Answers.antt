use Rattle.std.proofs.Common.{◌∷◌, ◌++◌, decimal}
use Rattle.resp2.specs.Framing.Frame.{line_end}
use Rattle.port_answers.proofs.Filling.{filled}
use Rattle.port_answers.proofs.answer_text.AnswerText.add_size.Goals as goal

pub returns : goal.returns
returns c = filled c.push_size.result c.args.self.now c.push_size.new.sink (c.args.kind ∷ (decimal c.args.size ++ line_end)) c.push_size.ensures.added c.push_size.ensures.within
