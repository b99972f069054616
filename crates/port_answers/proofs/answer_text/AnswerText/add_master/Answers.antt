use Rattle.std.proofs.Common.{◌++◌, [], ◌∷◌, ap, ◌∙◌}
use Rattle.std.specs.Prelude.{codes, decimal}
use Rattle.port_answers.specs.Room.{bounded}
use Rattle.port_answers.specs.Answers.{master_fields, fields_text}
use Rattle.port_answers.proofs.FieldLemmas.{next, headed}
use Rattle.port_answers.proofs.answer_text.AnswerText.add_master.Goals as goal

pub returns : goal.returns
returns c =
    let row = c.args.row.now in
    let fields = master_fields row in
    let start = c.add_count.new.self in
    let named = c.add_field.new.self in
    let placed = c.add_addr.new.self in
    let flagged = c.add_field-2.new.self in
    let one = c.add_number.new.self in
    let two = c.add_number-2.new.self in
    let three = c.add_number-3.new.self in
    let four = c.add_number-4.new.self in
    let five = c.add_number-5.new.self in
    let six = c.add_number-6.new.self in
    let new = c.add_number-7.new.self in
    headed 22 fields c.args.self.now start new c.add_count.ensures
    (next fields 0 1 start named new (c.add_field.ensures ∙ ap (λ t. bounded (start ++ fields_text ((codes "name", t) ∷ []))) c.as_slice.ensures)
    (next fields 1 2 named placed new c.add_addr.ensures
    (next fields 3 1 placed flagged new (c.add_field-2.ensures ∙ ap (λ t. bounded (placed ++ fields_text ((codes "flags", t) ∷ []))) c.master_flags-flags.ensures)
    (next fields 4 1 flagged one new c.add_number.ensures
    (next fields 5 1 one two new c.add_number-2.ensures
    (next fields 6 1 two three new (c.add_number-3.ensures ∙ ap (λ n. bounded (two ++ fields_text ((codes "quorum", decimal n) ∷ []))) c.from.ensures)
    (next fields 7 1 three four new c.add_number-4.ensures
    (next fields 8 1 four five new c.add_number-5.ensures
    (next fields 9 1 five six new c.add_number-6.ensures c.add_number-7.ensures)))))))))
