use Rattle.std.proofs.Common.{◌++◌, [], ◌∷◌, ap, ◌∙◌}
use Rattle.std.specs.Prelude.{codes, decimal}
use Rattle.port_answers.specs.Room.{bounded}
use Rattle.port_answers.specs.Answers.{addr_fields, fields_text}
use Rattle.port_answers.proofs.FieldLemmas.{next}
use Rattle.port_answers.proofs.answer_text.AnswerText.add_addr.Goals as goal

pub returns : goal.returns
returns c =
    let old = c.args.self.now in
    let mid = c.add_field.new.self in
    let ip = c.as_slice.ensures.value ∙ c.ip_text.ensures in
    next (addr_fields c.args.addr) 0 1 old mid c.add_number.new.self
    (c.add_field.ensures ∙ ap (λ t. bounded (old ++ fields_text ((codes "ip", t) ∷ []))) ip)
    (c.add_number.ensures ∙ ap (λ n. bounded (mid ++ fields_text ((codes "port", decimal n) ∷ []))) c.from.ensures)
