use Rattle.port_answers.specs.RedisRows.{ping_fields}
use Rattle.port_answers.proofs.FieldLemmas.{next}
use Rattle.port_answers.proofs.answer_text.AnswerText.add_pings.Goals as goal

pub returns : goal.returns
returns c =
    let fields = ping_fields c.args.contact in
    let one = c.add_number.new.self in
    let two = c.add_number-2.new.self in
    let new = c.add_number-3.new.self in
    next fields 0 1 c.args.self.now one new c.add_number.ensures (next fields 1 1 one two new c.add_number-2.ensures c.add_number-3.ensures)
