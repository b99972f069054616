use Rattle.std.proofs.Common.{◌∙◌, ◌<◌, ap, arith}
use Rattle.std.proofs.lemmas.Result.{err_from_is_err_and}
use Rattle.resp2.specs.Framing.Stream.{held_size}
use Rattle.sentinel_core.proofs.ServingLemmas.Steps.{value_answered, breaks_answer, breaks_frame}
use Rattle.sentinel_core.proofs.serving.connection.Connection.answer_whole.Goals as goal

pub loop-asked-preserved : goal.loop-asked-preserved
loop-asked-preserved g c =
    let plan = g.N.PortSentinel.plan c.args.sentinel.now in
    let clock = c.args.self.now.clock in
    let self = c.loop-asked.self in
    let core = g.N.PortSentinel.core c.loop-asked.sentinel in
    let so_far = c.loop-asked.invariant in
    let given = rw c.in-Ok-Some.field-0-is at c.in-Ok-Some.ensures.exact in
    let fewer : held_size c.next_command.new.frames < held_size self.frames = rw c.in-Ok-Some.field-0-is at c.in-Ok-Some.ensures.fewer in
    let done = c.in_ok-answer-in-Ok-Some.ensures in
    let taken = rw (so_far.3, so_far.2) at done.taken in
    let answered = rw (so_far.3, so_far.2) at done.answered in
    let stored = rw so_far.3 at done.stored in (
      omega (arith, so_far.0, done.answers, ap held_size done.frames, fewer),
      λ first before input written a.
          let here = so_far.1 first before input written a in
          rw (done.frames, taken, answered, done.answers)
          (value_answered plan clock first before input written self.frames core self.text self.answers _ c.in-Ok-Some.asked c.next_command.new.frames here given _
          (rw taken at (stored first.kept before here.stored_is))),
      done.clock ∙ so_far.2,
      done.plan ∙ so_far.3,
      done.phase,
      done.as_many ∙ so_far.5,
    )

pub returns-in_err-answer-in-Ok-Some-clause-answered : goal.returns-in_err-answer-in-Ok-Some-clause-answered
returns-in_err-answer-in-Ok-Some-clause-answered g c = λ first before input written a.
    let plan = g.N.PortSentinel.plan c.args.sentinel.now in
    let clock = c.args.self.now.clock in
    let self = c.loop-asked.self in
    let core = g.N.PortSentinel.core c.loop-asked.sentinel in
    let so_far = c.loop-asked.invariant in
    let here = so_far.1 first before input written a in
    let given = rw c.in-Ok-Some.field-0-is at c.in-Ok-Some.ensures.exact in
    let done = c.in_err-answer-in-Ok-Some.ensures in
    let cores = rw (so_far.3, so_far.2) at done.core in
    let refused = rw so_far.3 at done.refused in
    let p = err_from_is_err_and c.from_residual.result c.from_residual.ensures.1 in
    rw (p.1, p.2)
    (breaks_answer plan clock first before input written self.frames core self.text self.answers _ c.in-Ok-Some.asked c.next_command.new.frames _ _ _
    c.in_err-answer-in-Ok-Some.field-0.0 done.fault here given done.text cores
    (refused first.kept before here.stored_is))

pub returns-in-Err-clause-answered : goal.returns-in-Err-clause-answered
returns-in-Err-clause-answered g c = λ first before input written a.
    let plan = g.N.PortSentinel.plan c.args.sentinel.now in
    let clock = c.args.self.now.clock in
    let self = c.loop-asked.self in
    let core = g.N.PortSentinel.core c.loop-asked.sentinel in
    rw c.of_frame.ensures
    (breaks_frame plan clock first before input written self.frames core self.text self.answers _ c.in-Err.fault c.next_command.new.frames
    (c.loop-asked.invariant.1 first before input written a) (rw c.in-Err.fault-is at c.in-Err.ensures.exact))
