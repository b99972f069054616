use Rattle.std.proofs.Common.{◌∷◌, ◌++◌}
use Rattle.resp2.specs.Framing.Frame.{line_end}
use Rattle.port_answers.proofs.Filling.{filled}
use Rattle.port_answers.proofs.answer_text.AnswerText.add_kind.Goals as goal

pub returns : goal.returns
returns c = filled c.push_kind.result c.args.self.now c.push_kind.new.sink (c.args.kind ∷ (c.args.line.now ++ line_end)) c.push_kind.ensures.added c.push_kind.ensures.within
