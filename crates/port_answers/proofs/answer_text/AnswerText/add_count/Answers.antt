use Rattle.port_answers.proofs.answer_text.AnswerText.add_count.Goals as goal

pub returns : goal.returns
returns c = c.add_size.ensures
