use Rattle.port_answers.proofs.answer_text.AnswerText.add_no_such_master.Goals as goal

pub returns : goal.returns
returns c = c.add_kind.ensures
