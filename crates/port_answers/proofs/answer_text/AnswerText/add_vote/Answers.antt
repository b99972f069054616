use Rattle.port_answers.specs.RedisRows.{vote_fields}
use Rattle.port_answers.proofs.FieldLemmas.{next}
use Rattle.port_answers.proofs.answer_text.AnswerText.add_vote.Goals as goal

pub returns : goal.returns
returns c =
    let fields = vote_fields c.args.row.now in
    let one = c.add_number.new.self in
    let two = c.add_leader.new.self in
    let new = c.add_number-2.new.self in
    next fields 0 1 c.args.self.now one new c.add_number.ensures (next fields 1 1 one two new c.add_leader.ensures c.add_number-2.ensures)
