use Rattle.std.proofs.Common.{Ok, ap, sym, ◌∙◌}
use Rattle.resp2.specs.Framing.Frame.{Frame}
use Rattle.resp2.specs.Long.LongValues.{long_frame_at}
use Rattle.resp2.proofs.LongLemmas.Values.{value_found, value_reads, tells_same}
use Rattle.resp2.proofs.long.laws.law_long_values.Goals as goal

pub returns-clause-reads : goal.returns-clause-reads
returns-clause-reads c = λ bytes told rest. (
  λ e.
      let found = value_found bytes told rest e in
      (found.value, found.parts, found.is, found.tells),
  λ h. ap long_frame_at h.1 ∙ value_reads h.0 rest h.2 ∙ ap (λ (f : Frame). Ok (f, rest)) (sym h.3),
)

pub returns-clause-passes : goal.returns-clause-passes
returns-clause-passes c = tells_same
