use Rattle.std.proofs.Common.{◌++◌, [], ◌∷◌, ap, ◌∙◌}
use Rattle.std.specs.Prelude.{codes}
use Rattle.port_answers.specs.Room.{bounded}
use Rattle.port_answers.specs.Answers.{sentinel_fields, fields_text}
use Rattle.port_answers.proofs.FieldLemmas.{next, headed}
use Rattle.port_answers.proofs.answer_text.AnswerText.add_sentinel.Goals as goal

pub returns : goal.returns
returns c =
    let fields = sentinel_fields c.args.row.now in
    let start = c.add_count.new.self in
    let one = c.add_run_id.new.self in
    let two = c.add_addr.new.self in
    let three = c.add_run_id-2.new.self in
    let new = c.add_field.new.self in
    headed 10 fields c.args.self.now start new c.add_count.ensures
    (next fields 0 1 start one new c.add_run_id.ensures
    (next fields 1 2 one two new c.add_addr.ensures
    (next fields 3 1 two three new c.add_run_id-2.ensures
    (c.add_field.ensures ∙ ap (λ t. bounded (three ++ fields_text ((codes "flags", t) ∷ []))) c.sentinel_flags.ensures))))
