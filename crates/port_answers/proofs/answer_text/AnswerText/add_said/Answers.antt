use Rattle.std.proofs.Common.{◌++◌, [], ◌∷◌, ap, ◌∙◌}
use Rattle.std.specs.Prelude.{codes}
use Rattle.port_answers.specs.Room.{bounded}
use Rattle.port_answers.specs.Answers.{fields_text}
use Rattle.port_answers.specs.RedisRows.{said_fields}
use Rattle.port_answers.proofs.FieldLemmas.{next}
use Rattle.port_answers.proofs.answer_text.AnswerText.add_said.Goals as goal

pub returns : goal.returns
returns c =
    let fields = said_fields c.args.said in
    let one = c.add_number.new.self in
    let two = c.add_field.new.self in
    let new = c.add_number-2.new.self in
    next fields 0 1 c.args.self.now one new c.add_number.ensures
    (next fields 1 1 one two new (c.add_field.ensures ∙ ap (λ t. bounded (one ++ fields_text ((codes "role-reported", t) ∷ []))) c.role_name.ensures)
    c.add_number-2.ensures)
