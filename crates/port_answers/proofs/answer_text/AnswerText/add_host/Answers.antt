use Rattle.std.proofs.Common.{ℕ, List, [], ◌∷◌, ◌++◌, Option, None, Some, ap, sym, ◌∙◌}
use Rattle.std.specs.Prelude.{codes, decimal}
use Rattle.ballot_law.specs.declared.addresses.Addr.{Addr}
use Rattle.port_answers.specs.Room.{bounded}
use Rattle.port_answers.specs.Answers.{fields_text}
use Rattle.port_answers.specs.RedisRows.{host_fields}
use Rattle.port_answers.proofs.FieldLemmas.{next}
use Rattle.port_answers.proofs.answer_text.AnswerText.add_host.Goals as goal

pub returns-in-Some : goal.returns-in-Some
returns-in-Some c =
    let old = c.args.self.now in
    let mid = c.add_field.new.self in
    next (host_fields (Some c.in-Some.addr)) 0 1 old mid c.add_number.new.self
    (c.add_field.ensures ∙ ap (λ (t : List ℕ). bounded (old ++ fields_text ((codes "master-host", t) ∷ []))) (c.as_slice.ensures.value ∙ c.ip_text.ensures))
    (c.add_number.ensures ∙ ap (λ (n : ℕ). bounded (mid ++ fields_text ((codes "master-port", decimal n) ∷ []))) c.from.ensures)
    ∙ ap (λ (m : Option Addr). bounded (old ++ fields_text (host_fields m))) (sym c.in-Some.is)

pub returns-in-None : goal.returns-in-None
returns-in-None c =
    let old = c.args.self.now in
    next (host_fields None) 0 1 old c.add_field-in-None.new.self c.add_field-in-None-2.new.self c.add_field-in-None.ensures c.add_field-in-None-2.ensures
    ∙ ap (λ (m : Option Addr). bounded (old ++ fields_text (host_fields m))) (sym c.in-None.is)
