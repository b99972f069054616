use Rattle.resp2.specs.Framing.Frame.{spelling, bulk}
use Rattle.port_answers.proofs.Filling.{filled}
use Rattle.port_answers.proofs.answer_text.AnswerText.add_bulk.Goals as goal

pub returns : goal.returns
returns c = filled c.push_bulk.result c.args.self.now c.push_bulk.new.sink (spelling (bulk c.args.bytes.now)) c.push_bulk.ensures.added c.push_bulk.ensures.within
