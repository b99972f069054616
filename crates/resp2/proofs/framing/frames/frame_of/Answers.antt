use Rattle.resp2.proofs.FramingLemmas.Steps.{fails_at}
use Rattle.resp2.proofs.FramingLemmas.Window.{frame_ok, rest_within, frame_needs, frame_faulty, frame_too_long}
use Rattle.resp2.proofs.framing.frames.frame_of.Goals as goal

pub returns-in-Ok-clause-gives : goal.returns-in-Ok-clause-gives
returns-in-Ok-clause-gives c = frame_ok c.args.bytes.now c.window_of-window.result.now _ c.in-Ok.rest.now c.window_of-window.ensures.value c.in-Ok.ensures

pub overflow_sub-result : goal.overflow_sub-result
overflow_sub-result c = rest_within c.args.bytes.now c.window_of-window.result.now _ c.in-Ok.rest.now c.window_of-window.ensures.value c.in-Ok.ensures

pub returns-in-Err-At-Faulty-clause-gives : goal.returns-in-Err-At-Faulty-clause-gives
returns-in-Err-At-Faulty-clause-gives c =
    let read = fails_at _ _ _ _ c.in-Err-At-Faulty.ensures c.in-Err-At-Faulty.field-0-is (rw c.in-Err-At-Faulty.field-0-is at c.in-Err-At-Faulty.field-0-0-is) in
    rw (c.fault.ensures, c.in-Err-At-Faulty.fault-is) (frame_faulty c.args.bytes.now c.window_of-window.result.now c.in-Err-At-Faulty.fault c.window_of-window.ensures.value read)

pub returns-then-bytes-gt-LONGEST-clause-gives : goal.returns-then-bytes-gt-LONGEST-clause-gives
returns-then-bytes-gt-LONGEST-clause-gives c =
    let read = fails_at _ _ _ _ c.in-Err-At-NeedsMore.ensures c.in-Err-At-NeedsMore.field-0-is (rw c.in-Err-At-NeedsMore.field-0-is at c.in-Err-At-NeedsMore.field-0-0-is) in
    rw c.fault-then-bytes-gt-LONGEST.ensures (frame_too_long c.args.bytes.now c.window_of-window.result.now c.window_of-window.ensures.value read c.if-bytes-gt-LONGEST.true)

pub returns-else-bytes-gt-LONGEST-clause-gives : goal.returns-else-bytes-gt-LONGEST-clause-gives
returns-else-bytes-gt-LONGEST-clause-gives c =
    let read = fails_at _ _ _ _ c.in-Err-At-NeedsMore.ensures c.in-Err-At-NeedsMore.field-0-is (rw c.in-Err-At-NeedsMore.field-0-is at c.in-Err-At-NeedsMore.field-0-0-is) in
    frame_needs c.args.bytes.now c.window_of-window.result.now c.window_of-window.ensures.value read c.if-bytes-gt-LONGEST.false
