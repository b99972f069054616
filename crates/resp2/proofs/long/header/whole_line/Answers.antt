use Rattle.std.proofs.Common.{drop, Ok, ap}
use Rattle.resp2.specs.declared.framing.fault.FrameFault.TheVariants.{MissingEnd}
use Rattle.resp2.specs.declared.framing.fault.Unread.TheVariants.{NeedsMore, Faulty}
use Rattle.resp2.proofs.FramingLemmas.Lines.{line_length_le}
use Rattle.resp2.proofs.LongLemmas.Headers.{line_whole, line_open}
use Rattle.resp2.proofs.long.header.whole_line.Goals as goal

pub split_at-requires : goal.split_at-requires
split_at-requires c = rw c.line_length.ensures (line_length_le c.args.bytes.now)

pub returns-in-Ok-true-clause-some : goal.returns-in-Ok-true-clause-some
returns-in-Ok-true-clause-some c =
    let end = c.in-Ok-true.ensures.whole (ap Ok c.in-Ok-true.field-0-test) in (
      drop 2 c.split_at.result.1.now,
      line_whole c.args.bytes.now c.split_at.result.0.now c.split_at.result.1.now (drop 2 c.split_at.result.1.now) c.line_length.result c.line_length.ensures
          c.split_at.ensures.front c.split_at.ensures.back end.1,
    )

pub returns-in-Ok-false-clause-none : goal.returns-in-Ok-false-clause-none
returns-in-Ok-false-clause-none c = λ x e.
    let end = c.in-Ok-false.ensures.waits (ap Ok c.in-Ok-false.field-0-test) in
    line_open c.args.bytes.now c.split_at.result.1.now c.line_length.result NeedsMore x c.line_length.ensures c.split_at.ensures.back end.1 e

pub returns-in-Err-clause-none : goal.returns-in-Err-clause-none
returns-in-Err-clause-none c = λ x e.
    line_open c.args.bytes.now c.split_at.result.1.now c.line_length.result (Faulty MissingEnd) x c.line_length.ensures c.split_at.ensures.back c.in-Err.ensures.fault.1 e
