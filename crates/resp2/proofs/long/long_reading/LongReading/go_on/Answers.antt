use Rattle.std.proofs.Common.{◌≡◌, ◌≤◌, ◌<◌, ℕ, List, Ok, drop, sym, ap, ◌∙◌, arith}
use Rattle.resp2.specs.declared.framing.value.Value.TheFolds.{fold-roll-Value}
use Rattle.resp2.specs.declared.framing.value.Value.TheVariants as values
use Rattle.resp2.specs.Framing.Frame.{Frame, view, view_step, bulk}
use Rattle.resp2.specs.Framing.Reading.{end_at}
use Rattle.resp2.specs.Framing.Stream.{reading, bytes_in}
use Rattle.resp2.proofs.LongLemmas.Going.{is_taken, waits_in_it, waits_behind_it, fault_behind_it, given_whole}
use Rattle.resp2.proofs.long.long_reading.LongReading.go_on.Goals as goal

pub returns-then-left-gt0-clause-answers : goal.returns-then-left-gt0-clause-answers
returns-then-left-gt0-clause-answers c =
    let taken = is_taken c.args.bulk.size c.args.bulk.came c.args.bulk.kept.items (bytes_in c.args.self.now.frames) c.held-held.result.now c.left.result
    c.min-count.result c.take.new.self.size c.take.new.self.came c.take.new.self.kept.items c.args.bulk.long c.args.bulk.first c.args.bulk.within c.held-held.ensures c.left.ensures (omega arith)
    c.in_ok-take.ensures.size c.in_ok-take.ensures.came c.in_ok-take.ensures.kept in
    let less : c.take.new.self.came < c.take.new.self.size = omega (arith, c.if-left-gt0.true, c.left-2.ensures) in
    waits_in_it c.args.bulk.size c.args.bulk.came c.args.bulk.kept.items (bytes_in c.args.self.now.frames)
    c.min-count.result c.take.new.self.size c.take.new.self.came c.take.new.self.kept.items taken view c.skip.new.self less c.skip.ensures

pub returns-in-Ok-true-clause-answers : goal.returns-in-Ok-true-clause-answers
returns-in-Ok-true-clause-answers c =
    let taken = is_taken c.args.bulk.size c.args.bulk.came c.args.bulk.kept.items (bytes_in c.args.self.now.frames) c.held-held.result.now c.left.result
    c.min-count.result c.take.new.self.size c.take.new.self.came c.take.new.self.kept.items c.args.bulk.long c.args.bulk.first c.args.bulk.within c.held-held.ensures c.left.ensures (omega arith)
    c.in_ok-take.ensures.size c.in_ok-take.ensures.came c.in_ok-take.ensures.kept in
    let whole : c.take.new.self.size ≤ c.take.new.self.came = omega (arith, c.if-left-gt0.false, c.left-2.ensures) in
    let rest : bytes_in c.skip.new.self ≡ drop c.min-count.result (bytes_in c.args.self.now.frames) = ap bytes_in c.skip.ensures in
    let held = c.held.ensures ∙ rest in
    let shape : view (values.Bulk c.into_text.result) ≡ bulk c.into_text.result = ap view (sym (values.rolls-Bulk c.into_text.result)) ∙ fold-roll-Value Frame view_step _ in
    let end = ap end_at (sym held) ∙ (c.in-Ok-true.ensures.whole (ap Ok c.in-Ok-true.field-0-test)).1 ∙ ap (λ (t : List ℕ). Ok (drop 2 t)) held in
    given_whole c.args.bulk.size c.args.bulk.came c.args.bulk.kept.items (bytes_in c.args.self.now.frames)
    c.min-count.result c.take.new.self.size c.take.new.self.came c.take.new.self.kept.items taken view (values.Bulk c.into_text.result) c.args.self.now.long c.skip-in-Ok-true.new.self whole c.requires.none end
    (c.skip-in-Ok-true.ensures ∙ ap (λ (t : List ℕ). reading (drop 2 t)) rest) (shape ∙ ap bulk c.into_text.ensures)

pub returns-in-Ok-false-clause-answers : goal.returns-in-Ok-false-clause-answers
returns-in-Ok-false-clause-answers c =
    let taken = is_taken c.args.bulk.size c.args.bulk.came c.args.bulk.kept.items (bytes_in c.args.self.now.frames) c.held-held.result.now c.left.result
    c.min-count.result c.take.new.self.size c.take.new.self.came c.take.new.self.kept.items c.args.bulk.long c.args.bulk.first c.args.bulk.within c.held-held.ensures c.left.ensures (omega arith)
    c.in_ok-take.ensures.size c.in_ok-take.ensures.came c.in_ok-take.ensures.kept in
    let whole : c.take.new.self.size ≤ c.take.new.self.came = omega (arith, c.if-left-gt0.false, c.left-2.ensures) in
    let held = c.held.ensures ∙ ap bytes_in c.skip.ensures in
    let end = ap end_at (sym held) ∙ (c.in-Ok-false.ensures.waits (ap Ok c.in-Ok-false.field-0-test)).1 in
    waits_behind_it c.args.bulk.size c.args.bulk.came c.args.bulk.kept.items (bytes_in c.args.self.now.frames)
    c.min-count.result c.take.new.self.size c.take.new.self.came c.take.new.self.kept.items taken view c.skip.new.self whole c.skip.ensures end

pub returns-in-Err-clause-answers : goal.returns-in-Err-clause-answers
returns-in-Err-clause-answers c =
    let taken = is_taken c.args.bulk.size c.args.bulk.came c.args.bulk.kept.items (bytes_in c.args.self.now.frames) c.held-held.result.now c.left.result
    c.min-count.result c.take.new.self.size c.take.new.self.came c.take.new.self.kept.items c.args.bulk.long c.args.bulk.first c.args.bulk.within c.held-held.ensures c.left.ensures (omega arith)
    c.in_ok-take.ensures.size c.in_ok-take.ensures.came c.in_ok-take.ensures.kept in
    let whole : c.take.new.self.size ≤ c.take.new.self.came = omega (arith, c.if-left-gt0.false, c.left-2.ensures) in
    let held = c.held.ensures ∙ ap bytes_in c.skip.ensures in
    let end = ap end_at (sym held) ∙ c.in-Err.ensures.fault.1 in
    fault_behind_it c.args.bulk.size c.args.bulk.came c.args.bulk.kept.items (bytes_in c.args.self.now.frames)
    c.min-count.result c.take.new.self.size c.take.new.self.came c.take.new.self.kept.items taken view c.in-Err.fault _ whole c.in-Err.ensures.fault.0 end
