use Rattle.std.proofs.Common.{◌∙◌, ◌++◌, ap, sym, subst}
use Rattle.client_commands.specs.Attendants.{Attendance}
use Rattle.resp2.specs.Framing.Stream.{reading, bytes_in}
use Rattle.courteous_sessions.specs.GoingOn.{IsWithin}
use Rattle.courteous_sessions.specs.OnTheWay.{guest_of}
use Rattle.courteous_sessions.proofs.GoingOn.{was_taken, rest_in_time}
use Rattle.courteous_sessions.proofs.InPlace.{no_rest, done_in_place}
use Rattle.courteous_sessions.proofs.exchange.Exchange.take_some.Goals as goal

pub returns-then-is_empty-clause-received : goal.returns-then-is_empty-clause-received
returns-then-is_empty-clause-received g c =
    let before = c.args.self.now in
    let after = c.answer_in_place.new.self in
    let kept = c.answer_in_place.ensures.kept in
    let got = c.in-Ok.ensures.answered c.args.most in (
      got.0,
      got.1,
      done_in_place c.args.cell.now.start c.args.now c.args.most (bytes_in before.attendant.held ++ c.args.piece.now)
          (guest_of before.attendant before.subscriptions before.responder.hears c.args.seat.now.view) before.attendant.held after.attendant.held c.in-Ok.rest.now got.0
          (guest_of after.attendant after.subscriptions after.responder.hears c.answer_in_place.new.seat.view) (c.requires.direct (sym kept.2 ∙ c.if-self.true)).none_held
          (no_rest c.in-Ok.rest.now (sym c.is_empty.ensures ∙ c.if-is_empty.true)) (ap (λ (x : Attendance). x.held) kept.0) got.2,
    )

pub returns-else-self-clause-received : goal.returns-else-self-clause-received
returns-else-self-clause-received g c =
    let before = c.args.self.now in
    let mid = c.answer_in_place.new.self in
    let after = c.take_some_rest.new.self in
    let stream = bytes_in before.attendant.held ++ c.args.piece.now in
    let visitor = guest_of before.attendant before.subscriptions before.responder.hears c.args.seat.now.view in
    let got = c.in-Ok.ensures.answered c.args.most in
    let there = subst (λ (x : Attendance). IsWithin c.args.cell.now.start c.args.now c.args.most stream visitor c.args.most (reading (bytes_in x.held ++ c.in-Ok.rest.now)) got.0
    (guest_of mid.attendant mid.subscriptions mid.responder.hears c.answer_in_place.new.seat.view)) (sym c.answer_in_place.ensures.kept.0) got.2
    in
    let done = c.take_some_rest.ensures.answered stream before.responder.unsent.items got.0 visitor got.1 there in (
      done.0,
      done.1,
      was_taken c.args.cell.now.start c.args.now c.args.most stream visitor c.take_some_rest.result after.attendant.held done.0
          (guest_of after.attendant after.subscriptions after.responder.hears c.take_some_rest.new.seat.view) done.2,
    )

pub returns-in-Err-clause-received : goal.returns-in-Err-clause-received
returns-in-Err-clause-received g c = c.in-Err.ensures.answered c.args.most

pub returns-else-self-clause-in_time : goal.returns-else-self-clause-in_time
returns-else-self-clause-in_time g c =
    rest_in_time c.args.cell.now.start c.args.now c.take_some_rest.result c.args.self.now.responder.unsent.items c.answer_in_place.new.self.responder.unsent.items
    c.take_some_rest.new.self.responder.unsent.items c.in-Ok.ensures.in_time c.take_some_rest.ensures.in_time
