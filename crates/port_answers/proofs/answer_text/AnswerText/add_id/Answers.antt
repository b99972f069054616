use Rattle.std.proofs.Common.{◌++◌, ap, ◌∙◌}
use Rattle.resp2.specs.Framing.Frame.{bulk, spelling}
use Rattle.port_answers.specs.Room.{bounded}
use Rattle.port_answers.proofs.answer_text.AnswerText.add_id.Goals as goal

pub returns : goal.returns
returns c =
    c.add_bulk.ensures
    ∙ ap (λ t. bounded (c.args.self.now ++ spelling (bulk t))) (c.as_slice.ensures.value ∙ c.run_id_text.ensures.items)
