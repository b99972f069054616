use Rattle.std.proofs.Common.{◌++◌, [], ◌∷◌, ap, ◌∙◌}
use Rattle.std.specs.Prelude.{codes}
use Rattle.port_answers.specs.Room.{bounded}
use Rattle.port_answers.specs.Answers.{replica_fields, addr_text, fields_text}
use Rattle.port_answers.proofs.FieldLemmas.{next, headed, field_of}
use Rattle.port_answers.proofs.answer_text.AnswerText.add_replica.Goals as goal

pub returns : goal.returns
returns c =
    let row = c.args.row.now in
    let fields = replica_fields row in
    let start = c.add_count.new.self in
    let one = c.add_addr_text.new.self in
    let two = c.add_addr.new.self in
    let three = c.add_field.new.self in
    let four = c.add_number.new.self in
    let new = c.add_number-2.new.self in
    headed 12 fields c.args.self.now start new c.add_count.ensures
    (next fields 0 1 start one new (field_of start c.add_bulk.new.self one (codes "name") (addr_text row.addr) c.add_bulk.ensures c.add_addr_text.ensures)
    (next fields 1 2 one two new c.add_addr.ensures
    (next fields 3 1 two three new (c.add_field.ensures ∙ ap (λ t. bounded (two ++ fields_text ((codes "flags", t) ∷ []))) c.replica_flags.ensures)
    (next fields 4 1 three four new c.add_number.ensures c.add_number-2.ensures))))
