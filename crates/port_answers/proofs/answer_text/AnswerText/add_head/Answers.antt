use Rattle.port_answers.specs.RedisRows.{head_fields}
use Rattle.port_answers.proofs.FieldLemmas.{next}
use Rattle.port_answers.proofs.answer_text.AnswerText.add_head.Goals as goal

pub returns : goal.returns
returns c =
    let fields = head_fields c.args.name.now c.args.addr c.args.id.now c.args.flags.now c.args.shared in
    let old = c.args.self.now in
    let one = c.add_field.new.self in
    let two = c.add_addr.new.self in
    let three = c.add_field-2.new.self in
    let four = c.add_field-3.new.self in
    let five = c.add_field-4.new.self in
    let new = c.add_number.new.self in
    next fields 0 1 old one new c.add_field.ensures
    (next fields 1 2 one two new c.add_addr.ensures
    (next fields 3 1 two three new c.add_field-2.ensures
    (next fields 4 1 three four new c.add_field-3.ensures
    (next fields 5 1 four five new c.add_field-4.ensures c.add_number.ensures))))
