use Rattle.std.proofs.Common.{◌∙◌, ap, Ok}
use Rattle.port_sessions.proofs.GoingOn.{went_on, stopped}
use Rattle.port_sessions.specs.Talks.{party}
use Rattle.port_sessions.proofs.exchange.Exchange.go_on_whole.Goals as goal

pub loop-progress-preserved : goal.loop-progress-preserved
loop-progress-preserved g c =
    let so_far = c.loop-progress.invariant in (
      c.go_on_next.ensures.own ∙ so_far.0,
      c.go_on_next.ensures.mark (c.in-Ok-None.is ∙ ap Ok c.in-Ok-None.field-0-is),
      c.go_on_next.ensures.told ∙ so_far.2,
      λ most stream before bytes p is a.
          let on = so_far.3 most stream before bytes p is a in
          let next = c.in-Ok-None.ensures.answered most stream before on.0 p on.1 on.2 in (
            next.0,
            next.1,
            went_on c.args.cell.now.start c.args.now most stream p c.in-Ok-None.field-0 c.go_on_next.new.limit.most c.go_on_next.new.self.frames next.0
                (party c.go_on_next.new.seat.view c.go_on_next.new.self.responder.hears.listens) c.in-Ok-None.field-0-is next.2,
          ),
    )

pub returns-in-Ok-Some-clause-answered : goal.returns-in-Ok-Some-clause-answered
returns-in-Ok-Some-clause-answered g c = λ most stream before bytes p is a.
    let on = c.loop-progress.invariant.3 most stream before bytes p is a in
    let next = c.in-Ok-Some.ensures.answered most stream before on.0 p on.1 on.2 in (
      next.0,
      next.1,
      stopped c.args.cell.now.start c.args.now most stream p c.in-Ok-Some.field-0 c.in-Ok-Some.progress c.go_on_next.new.limit.most c.go_on_next.new.self.frames next.0
          (party c.go_on_next.new.seat.view c.go_on_next.new.self.responder.hears.listens) c.in-Ok-Some.field-0-is next.2,
    )

pub returns-in-Err-clause-answered : goal.returns-in-Err-clause-answered
returns-in-Err-clause-answered g c = λ most stream before bytes p is a.
    let on = c.loop-progress.invariant.3 most stream before bytes p is a in
    c.in-Err.ensures.answered most stream before on.0 p on.1 on.2
