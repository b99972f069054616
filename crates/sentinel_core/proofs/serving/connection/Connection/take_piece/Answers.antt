use Rattle.std.proofs.Common.{◌++◌, sym, ◌∙◌}
use Rattle.sentinel_core.proofs.ServingLemmas.Steps.{fed_by, unfed, wrote_by}
use Rattle.sentinel_core.proofs.serving.connection.Connection.take_piece.Goals as goal

pub returns-then-is_err-clause-took : goal.returns-then-is_err-clause-took
returns-then-is_err-clause-took g c = λ first before input written idle.
    unfed (g.N.PortSentinel.plan c.args.sentinel.now) c.args.self.now.clock first before input c.args.piece.now written _ _ _ _ _ _ idle.answered

pub returns-in-Ok-clause-took : goal.returns-in-Ok-clause-took
returns-in-Ok-clause-took g c = λ first before input written idle.
    let plan = g.N.PortSentinel.plan c.args.sentinel.now in
    let clock = c.args.self.now.clock in
    let piece = c.args.piece.now in
    let fed = fed_by plan clock first before c.feed.result input piece written _ _ _ _ _ c.feed.new.self idle.answered (sym c.is_err.ensures.value ∙ c.if-is_err.false)
    c.feed.ensures in
    let done = c.in-Ok.ensures.answered first before (input ++ piece) written fed in
    let out = c.write_answers.ensures in
    wrote_by plan clock first before c.write_answers.result (input ++ piece) written _ _ _ _ _ _ _ _ _ _
    done.0 done.1 out.frames out.answers out.text out.whole out.part out.write

pub returns-in-Err-clause-took : goal.returns-in-Err-clause-took
returns-in-Err-clause-took g c = λ first before input written idle.
    let plan = g.N.PortSentinel.plan c.args.sentinel.now in
    let clock = c.args.self.now.clock in
    let piece = c.args.piece.now in
    let fed = fed_by plan clock first before c.feed.result input piece written _ _ _ _ _ c.feed.new.self idle.answered (sym c.is_err.ensures.value ∙ c.if-is_err.false)
    c.feed.ensures in
    c.end.ensures.ended plan clock first before (input ++ piece) written _ _ (c.in-Err.ensures.answered first before (input ++ piece) written fed)
