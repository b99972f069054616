use Rattle.std.proofs.Common.{◌∙◌, ap, Ok}
use Rattle.courteous_sessions.specs.OnTheWay.{guest_of}
use Rattle.courteous_sessions.proofs.GoingOn.{went_on, stopped, full_within, adds_in_time, stops_in_time, full_next}
use Rattle.courteous_sessions.proofs.exchange.Exchange.go_on_whole.Goals as goal

pub loop-now-preserved : goal.loop-now-preserved
loop-now-preserved g c =
    let so_far = c.loop-now.invariant in
    let after = c.go_on_next.new in (
      c.go_on_next.ensures.own ∙ so_far.0,
      c.in-Ok-None.ensures.ready,
      c.go_on_next.ensures.mark (c.in-Ok-None.is ∙ ap Ok c.in-Ok-None.field-0-is),
      λ most stream before bytes visitor is a.
          let on = so_far.3 most stream before bytes visitor is a in
          let next = c.in-Ok-None.ensures.answered most stream before on.0 visitor on.1 on.2 in (
            next.0,
            next.1,
            went_on c.args.cell.now.start c.args.now most stream visitor c.in-Ok-None.field-0 after.limit.most after.self.attendant.held next.0
                (guest_of after.self.attendant after.self.subscriptions after.self.responder.hears after.seat.view) c.in-Ok-None.field-0-is next.2,
          ),
      adds_in_time c.args.cell.now.start c.args.now c.in-Ok-None.field-0 c.args.self.now.responder.unsent.items c.loop-now.self.responder.unsent.items
          after.self.responder.unsent.items c.in-Ok-None.field-0-is (c.is_full.ensures.room c.if-is_full.false) c.in-Ok-None.ensures.one,
    )

pub returns-in-Ok-Some-clause-answered : goal.returns-in-Ok-Some-clause-answered
returns-in-Ok-Some-clause-answered g c = λ most stream before bytes visitor is a.
    let after = c.go_on_next.new in
    let on = c.loop-now.invariant.3 most stream before bytes visitor is a in
    let next = c.in-Ok-Some.ensures.answered most stream before on.0 visitor on.1 on.2 in (
      next.0,
      next.1,
      stopped c.args.cell.now.start c.args.now most stream visitor c.in-Ok-Some.field-0 c.in-Ok-Some.progress after.limit.most after.self.attendant.held next.0
          (guest_of after.self.attendant after.self.subscriptions after.self.responder.hears after.seat.view) c.in-Ok-Some.field-0-is next.2,
    )

pub returns-in-Err-clause-answered : goal.returns-in-Err-clause-answered
returns-in-Err-clause-answered g c = λ most stream before bytes visitor is a.
    let on = c.loop-now.invariant.3 most stream before bytes visitor is a in
    c.in-Err.ensures.answered most stream before on.0 visitor on.1 on.2

pub returns-then-is_full-clause-answered : goal.returns-then-is_full-clause-answered
returns-then-is_full-clause-answered g c = λ most stream before bytes visitor is a.
    let so_far = c.loop-now.self in
    let on = c.loop-now.invariant.3 most stream before bytes visitor is a in (
      on.0,
      on.1,
      full_within c.args.cell.now.start c.args.now most stream visitor c.loop-now.limit.most so_far.attendant.held on.0
          (guest_of so_far.attendant so_far.subscriptions so_far.responder.hears c.loop-now.seat.view) on.2,
    )

pub returns-in-Ok-Some-clause-in_time : goal.returns-in-Ok-Some-clause-in_time
returns-in-Ok-Some-clause-in_time g c =
    stops_in_time c.args.cell.now.start c.args.now c.in-Ok-Some.field-0 c.in-Ok-Some.progress c.args.self.now.responder.unsent.items c.loop-now.self.responder.unsent.items
    c.go_on_next.new.self.responder.unsent.items c.in-Ok-Some.field-0-is c.in-Ok-Some.ensures.one c.loop-now.invariant.4

pub returns-in-Ok-Some-clause-full : goal.returns-in-Ok-Some-clause-full
returns-in-Ok-Some-clause-full g c =
    full_next c.args.cell.now.start c.args.now c.in-Ok-Some.field-0 c.in-Ok-Some.progress c.loop-now.self.responder.unsent.items c.go_on_next.new.self.responder.unsent.items
    c.in-Ok-Some.field-0-is c.in-Ok-Some.ensures.one
