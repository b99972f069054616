use Rattle.port_answers.proofs.answer_text.AnswerText.add_ok.Goals as goal

pub returns : goal.returns
returns c = c.add_kind.ensures
