use Rattle.std.proofs.Common.{◌++◌, [], ◌∷◌, ap, ◌∙◌}
use Rattle.std.specs.Prelude.{codes, decimal}
use Rattle.port_answers.specs.Room.{bounded}
use Rattle.port_answers.specs.Answers.{fields_text}
use Rattle.port_answers.specs.RedisRows.{setting_fields}
use Rattle.port_answers.proofs.FieldLemmas.{next}
use Rattle.port_answers.proofs.answer_text.AnswerText.add_settings.Goals as goal

pub returns : goal.returns
returns c =
    let fields = setting_fields c.args.row.now in
    let one = c.add_number.new.self in
    let two = c.add_number-2.new.self in
    let three = c.add_number-3.new.self in
    let four = c.add_number-4.new.self in
    let five = c.add_number-5.new.self in
    let new = c.add_number-6.new.self in
    next fields 0 1 c.args.self.now one new c.add_number.ensures
    (next fields 1 1 one two new c.add_number-2.ensures
    (next fields 2 1 two three new c.add_number-3.ensures
    (next fields 3 1 three four new (c.add_number-4.ensures ∙ ap (λ n. bounded (three ++ fields_text ((codes "quorum", decimal n) ∷ []))) c.from.ensures)
    (next fields 4 1 four five new c.add_number-5.ensures c.add_number-6.ensures))))
