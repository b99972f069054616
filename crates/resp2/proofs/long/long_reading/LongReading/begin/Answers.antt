use Rattle.std.proofs.Common.{sym, ap, ◌∙◌}
use Rattle.resp2.specs.Long.LongValues.{long_size}
use Rattle.resp2.proofs.LongLemmas.Going.{header_within, begins_it}
use Rattle.resp2.proofs.LongLemmas.Headers.{size_found}
use Rattle.resp2.proofs.long.long_reading.LongReading.begin.Goals as goal

pub new-requires : goal.new-requires
new-requires c = (size_found c.held.result.now c.in-Some.size (sym c.in-Some.ensures)).long

pub skip-requires-clause-within : goal.skip-requires-clause-within
skip-requires-clause-within c =
    header_within _ c.in-Some.size c.header_length.result (ap long_size (sym c.held.ensures) ∙ sym c.in-Some.ensures) c.header_length.ensures.value

pub returns-clause-held : goal.returns-clause-held
returns-clause-held c =
    begins_it c.args.self.now.long c.args.self.now.frames c.skip.new.self c.in-Some.size c.in_ok-new.field-0.size c.in_ok-new.field-0.came c.header_length.result
    c.in_ok-new.field-0.kept.items c.in_ok-new.ensures.size
    (sym c.is_some.ensures ∙ c.if-is_some.false) c.requires.open (ap long_size (sym c.held.ensures) ∙ sym c.in-Some.ensures) c.header_length.ensures.value c.in_ok-new.ensures.came
    c.in_ok-new.ensures.kept c.skip.ensures
