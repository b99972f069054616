use Rattle.std.proofs.Common.{◌++◌, [], ◌∷◌, ap, ◌∙◌}
use Rattle.std.specs.Prelude.{codes}
use Rattle.port_answers.specs.Room.{bounded}
use Rattle.port_answers.specs.Answers.{fields_text}
use Rattle.port_answers.specs.RedisRows.{link_fields}
use Rattle.port_answers.proofs.FieldLemmas.{next}
use Rattle.port_answers.proofs.answer_text.AnswerText.add_link.Goals as goal

pub returns : goal.returns
returns c =
    let fields = link_fields c.args.link in
    let one = c.add_number.new.self in
    let two = c.add_field.new.self in
    let new = c.add_host.new.self in
    next fields 0 1 c.args.self.now one new c.add_number.ensures
    (next fields 1 1 one two new (c.add_field.ensures ∙ ap (λ t. bounded (one ++ fields_text ((codes "master-link-status", t) ∷ []))) c.link_name.ensures)
    c.add_host.ensures)
