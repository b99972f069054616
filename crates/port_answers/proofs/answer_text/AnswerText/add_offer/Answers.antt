use Rattle.std.proofs.Common.{◌++◌, [], ◌∷◌, ap, ◌∙◌}
use Rattle.std.specs.Prelude.{codes}
use Rattle.port_answers.specs.Room.{bounded}
use Rattle.port_answers.specs.Answers.{fields_text}
use Rattle.port_answers.specs.RedisRows.{offer_fields}
use Rattle.port_answers.proofs.FieldLemmas.{next}
use Rattle.port_answers.proofs.answer_text.AnswerText.add_offer.Goals as goal

pub returns : goal.returns
returns c =
    let fields = offer_fields c.args.priority c.args.offset c.args.announced in
    let one = c.add_number.new.self in
    let two = c.add_number-2.new.self in
    let new = c.add_field.new.self in
    next fields 0 1 c.args.self.now one new c.add_number.ensures
    (next fields 1 1 one two new c.add_number-2.ensures
    (c.add_field.ensures ∙ ap (λ t. bounded (two ++ fields_text ((codes "replica-announced", t) ∷ []))) c.yes_or_no.ensures))
