use Rattle.std.proofs.Common.{◌∙◌, ◌++◌, [], ap, append-nil, inl, refl, sym}
use Rattle.resp2.specs.Framing.Stream.{reading, bytes_in}
use Rattle.courteous_sessions.specs.OnTheWay.{guest_of}
use Rattle.courteous_sessions.proofs.GoingOn.{first_within}
use Rattle.courteous_sessions.proofs.InPlace.{begins_in_place, front_went_on, front_stopped, front_in_time, front_ends_in_time, full_stopped}
use Rattle.courteous_sessions.proofs.exchange.Exchange.answer_in_place.Goals as goal

pub returns-then-not-self-clause-answered : goal.returns-then-not-self-clause-answered
returns-then-not-self-clause-answered g c = λ most.
    let before = c.args.self.now in
    let stream = bytes_in before.attendant.held ++ c.args.piece.now in (
      [],
      sym (append-nil _),
      first_within c.args.cell.now.start c.args.now most stream (reading stream)
          (guest_of before.attendant before.subscriptions before.responder.hears c.args.seat.now.view) refl,
    )

pub loop-rest-init : goal.loop-rest-init
loop-rest-init g c =
    let before = c.args.self.now in (
      refl,
      c.requires.ready,
      refl,
      refl,
      refl,
      λ most. (
        [],
        sym (append-nil _),
        begins_in_place c.args.cell.now.start c.args.now most before.attendant.held c.args.piece.now
            (guest_of before.attendant before.subscriptions before.responder.hears c.args.seat.now.view) (c.requires.direct c.if-not-self.false).none_held,
      ),
      inl refl,
    )

pub loop-rest-preserved : goal.loop-rest-preserved
loop-rest-preserved g c =
    let before = c.args.self.now in
    let after = c.answer_front.new.self in
    let stream = bytes_in before.attendant.held ++ c.args.piece.now in
    let visitor = guest_of before.attendant before.subscriptions before.responder.hears c.args.seat.now.view in
    let so_far = c.loop-rest.invariant in
    let kept = c.answer_front.ensures.kept in (
      c.answer_front.ensures.own ∙ so_far.0,
      c.in-Ok-Some.ensures.ready,
      kept.0 ∙ so_far.2,
      kept.1 ∙ so_far.3,
      kept.2 ∙ so_far.4,
      λ most.
          let on = so_far.5 most in
          let next = c.in-Ok-Some.ensures.answered most stream before.responder.unsent.items on.0 visitor on.1 on.2 in (
            next.0,
            next.1,
            front_went_on c.args.cell.now.start c.args.now most stream visitor c.in-Ok-Some.field-0 c.in-Ok-Some.more c.loop-rest.rest.now next.0
                (guest_of after.attendant after.subscriptions after.responder.hears c.answer_front.new.seat.view) c.in-Ok-Some.field-0-is next.2,
          ),
      front_in_time c.args.cell.now.start c.args.now c.in-Ok-Some.field-0 c.in-Ok-Some.more before.responder.unsent.items c.loop-rest.self.responder.unsent.items
          after.responder.unsent.items c.in-Ok-Some.field-0-is (c.is_full.ensures.room c.if-is_full.false) c.in-Ok-Some.ensures.one,
    )

pub returns-in-Ok-None-clause-kept : goal.returns-in-Ok-None-clause-kept
returns-in-Ok-None-clause-kept g c =
    let so_far = c.loop-rest.invariant in
    let kept = c.answer_front.ensures.kept in
    (kept.0 ∙ so_far.2, kept.1 ∙ so_far.3, kept.2 ∙ so_far.4)

pub returns-in-Ok-None-clause-answered : goal.returns-in-Ok-None-clause-answered
returns-in-Ok-None-clause-answered g c = λ most.
    let before = c.args.self.now in
    let after = c.answer_front.new.self in
    let stream = bytes_in before.attendant.held ++ c.args.piece.now in
    let visitor = guest_of before.attendant before.subscriptions before.responder.hears c.args.seat.now.view in
    let on = c.loop-rest.invariant.5 most in
    let next = c.in-Ok-None.ensures.answered most stream before.responder.unsent.items on.0 visitor on.1 on.2 in (
      next.0,
      next.1,
      front_stopped c.args.cell.now.start c.args.now most stream visitor c.in-Ok-None.field-0 (bytes_in before.attendant.held) c.loop-rest.rest.now next.0
          (guest_of after.attendant after.subscriptions after.responder.hears c.answer_front.new.seat.view) c.in-Ok-None.field-0-is
          (ap bytes_in (c.requires.direct c.if-not-self.false).none_held) next.2,
    )

pub returns-in-Err-clause-kept : goal.returns-in-Err-clause-kept
returns-in-Err-clause-kept g c =
    let so_far = c.loop-rest.invariant in
    let kept = c.answer_front.ensures.kept in
    (kept.0 ∙ so_far.2, kept.1 ∙ so_far.3, kept.2 ∙ so_far.4)

pub returns-in-Err-clause-answered : goal.returns-in-Err-clause-answered
returns-in-Err-clause-answered g c = λ most.
    let before = c.args.self.now in
    let on = c.loop-rest.invariant.5 most in
    c.in-Err.ensures.answered most (bytes_in before.attendant.held ++ c.args.piece.now) before.responder.unsent.items on.0
    (guest_of before.attendant before.subscriptions before.responder.hears c.args.seat.now.view) on.1 on.2

pub returns-in-Ok-None-clause-in_time : goal.returns-in-Ok-None-clause-in_time
returns-in-Ok-None-clause-in_time g c =
    front_ends_in_time c.args.cell.now.start c.args.now c.in-Ok-None.field-0 c.args.self.now.responder.unsent.items c.loop-rest.self.responder.unsent.items
    c.answer_front.new.self.responder.unsent.items c.in-Ok-None.field-0-is c.in-Ok-None.ensures.one c.loop-rest.invariant.6

pub returns-then-is_full-clause-answered : goal.returns-then-is_full-clause-answered
returns-then-is_full-clause-answered g c = λ most.
    let before = c.args.self.now in
    let so_far = c.loop-rest.self in
    let on = c.loop-rest.invariant.5 most in (
      on.0,
      on.1,
      full_stopped c.args.cell.now.start c.args.now most (bytes_in before.attendant.held ++ c.args.piece.now)
          (guest_of before.attendant before.subscriptions before.responder.hears c.args.seat.now.view) (bytes_in before.attendant.held) c.loop-rest.rest.now on.0
          (guest_of so_far.attendant so_far.subscriptions so_far.responder.hears c.loop-rest.seat.view) (ap bytes_in (c.requires.direct c.if-not-self.false).none_held) on.2,
    )
