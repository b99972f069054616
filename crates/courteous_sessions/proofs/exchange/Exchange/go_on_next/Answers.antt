use Rattle.std.proofs.Common.{◌∙◌, ap, sym, subst}
use Rattle.client_commands.specs.Attendants.{Attendance}
use Rattle.port_sessions.specs.declared.limit.Reach.TheVariants.{Done}
use Rattle.port_sessions.specs.declared.hearing.NotesHeard.{NotesHeard}
use Rattle.resp2.specs.Framing.Frame.{view}
use Rattle.courteous_sessions.specs.GoingOn.{IsCommonAhead, Stops}
use Rattle.courteous_sessions.specs.OnTheWay.{guest_of}
use Rattle.courteous_sessions.specs.Visits.{Guest}
use Rattle.courteous_sessions.proofs.GoingOn.{common_within, common_adds, value_within, value_adds, cut_within, finished, refused_within, guest_same}
use Rattle.client_commands.specs.Lines.{value_at}
use Rattle.resp2.specs.Framing.Stream.{bytes_in}
use Rattle.resp2.proofs.Switches.{known_too}
use Rattle.courteous_sessions.specs.Epochs.{heard_as}
use Rattle.courteous_sessions.proofs.Serving.{was_read}
use Rattle.courteous_sessions.proofs.Stepping.{read_frame}
use Rattle.courteous_sessions.proofs.Values.{by_own}
use Rattle.courteous_sessions.proofs.exchange.Exchange.go_on_next.Goals as goal

pub returns-in-Ok-clause-answered : goal.returns-in-Ok-clause-answered
returns-in-Ok-clause-answered g c = λ most stream first bytes visitor is a.
    let before = c.args.self.now in
    let mid = c.next_within.new.self in
    let limit = c.next_within.new.limit in
    let after = c.tell_common.new.self in
    let kept = c.tell_common.ensures.kept.0 in
    let command = c.in-Ok-Common.command in
    let ahead = rw c.in-Ok-Common.field-0-is at c.in-Ok-Common.ensures.ahead in
    let there = subst (λ (x : Attendance). IsCommonAhead before.attendant.asker before.subscriptions c.args.limit.now.most before.attendant.held command limit.most limit.mark x.held)
    (sym kept) ahead
    in
    common_within c.args.cell.now.start c.args.now most stream visitor command first bytes before.attendant after.attendant before.subscriptions after.subscriptions
    before.responder.unsent.items after.responder.unsent.items before.responder.hears after.responder.hears c.args.seat.now.view c.tell_common.new.seat.view c.args.limit.now.most limit.most limit.mark is a
    c.requires.ready there (ap (λ (x : Attendance). x.asker) kept ∙ c.next_within.ensures.asker) (c.tell_common.ensures.kept.1 ∙ c.next_within.ensures.kept)
    (c.tell_common.ensures.told ∙ ap (λ (t : NotesHeard). t.told) c.next_within.ensures.hears)
    (rw (c.next_within.ensures.hears, c.next_within.ensures.unsent, c.next_within.ensures.asker) at c.in-Ok.ensures.answered)

pub returns-in-Ok-Common-clause-answered : goal.returns-in-Ok-Common-clause-answered
returns-in-Ok-Common-clause-answered g c = λ most stream first bytes visitor is a.
    let before = c.args.self.now in
    let taken = (rw c.in-Ok-Common.field-0-is at c.in-Ok-Common.ensures.ahead).taken in
    let current = c.next_within.new.self.attendant.asker.current in
    let ended = c.in-Err-tell_common.ensures.fault in
    let asked = ap (heard_as current) (sym (known_too taken.value c.in-Ok-Common.command taken.asked)) in
    cut_within c.args.cell.now.start c.args.now most stream visitor c.args.limit.now.most before.attendant.held bytes
    (guest_of before.attendant before.subscriptions before.responder.hears c.args.seat.now.view) taken.value taken.rest c.in-Err-tell_common.fault c.tell_common.new.seat.view first
    before.responder.unsent.items c.tell_common.new.self.responder.unsent.items is a (ap value_at (ap bytes_in taken.held_is) ∙ taken.found) ended.0
    (by_own c.args.cell.now.start c.args.now taken.value current _ c.args.seat.now.view c.tell_common.new.seat.view c.in-Err-tell_common.fault asked ended.1)
    (c.in-Err-tell_common.ensures.err ∙ c.next_within.ensures.unsent)

pub tell_value-requires-clause-frame : goal.tell_value-requires-clause-frame
tell_value-requires-clause-frame g c =
    let ahead = rw c.in-Ok-Any.field-0-is at c.in-Ok-Any.ensures.ahead in
    (read_frame view c.in-Ok-Any.value c.args.self.now.attendant.held c.next_within.new.self.attendant.held c.requires.ready.reads ahead.given, ahead.lines)

pub returns-in-Ok-tell_value-clause-answered : goal.returns-in-Ok-tell_value-clause-answered
returns-in-Ok-tell_value-clause-answered g c = λ most stream first bytes visitor is a.
    let before = c.args.self.now in
    let mid = c.next_within.new.self in
    let limit = c.next_within.new.limit in
    let after = c.tell_value.new.self in
    value_within c.args.cell.now.start c.args.now most stream visitor c.in-Ok-Any.value first bytes before.attendant mid.attendant after.attendant before.subscriptions
    after.subscriptions before.responder.unsent.items after.responder.unsent.items before.responder.hears after.responder.hears c.args.seat.now.view c.tell_value.new.seat.view c.args.limit.now.most limit.most limit.mark
    is a c.requires.ready (rw c.in-Ok-Any.field-0-is at c.in-Ok-Any.ensures.ahead) c.next_within.ensures.asker c.in-Ok-tell_value.ensures.held
    (rw (c.next_within.ensures.hears, c.next_within.ensures.unsent, c.next_within.ensures.kept) at c.in-Ok-tell_value.ensures.served)

pub returns-in-Ok-Any-clause-answered : goal.returns-in-Ok-Any-clause-answered
returns-in-Ok-Any-clause-answered g c = λ most stream first bytes visitor is a.
    let before = c.args.self.now in
    let ahead = rw c.in-Ok-Any.field-0-is at c.in-Ok-Any.ensures.ahead in
    let at = was_read view before.attendant.held c.in-Ok-Any.value c.next_within.new.self.attendant.held c.requires.ready.reads ahead.given in
    let ended = c.in-Err-tell_value.ensures.fault in
    cut_within c.args.cell.now.start c.args.now most stream visitor c.args.limit.now.most before.attendant.held bytes
    (guest_of before.attendant before.subscriptions before.responder.hears c.args.seat.now.view) (view c.in-Ok-Any.value) at.0 c.in-Err-tell_value.fault c.tell_value.new.seat.view first
    before.responder.unsent.items c.tell_value.new.self.responder.unsent.items is a at.1 ended.0 ended.2 (ended.1 ∙ c.next_within.ensures.unsent)

pub returns-in-Ok-Short-clause-answered : goal.returns-in-Ok-Short-clause-answered
returns-in-Ok-Short-clause-answered g c = λ most stream first bytes visitor is a.
    let before = c.args.self.now in
    let mid = c.next_within.new.self in (
      bytes,
      c.next_within.ensures.unsent ∙ is,
      subst (λ (h : Guest). Stops c.args.cell.now.start c.args.now most stream visitor Done mid.attendant.held bytes h)
          (guest_same before.attendant mid.attendant before.subscriptions mid.subscriptions before.responder.hears mid.responder.hears c.args.seat.now.view c.next_within.ensures.asker
          c.next_within.ensures.kept c.next_within.ensures.hears)
          (finished c.args.cell.now.start c.args.now most stream visitor c.args.limit.now.most before.attendant.held mid.attendant.held bytes
          (guest_of before.attendant before.subscriptions before.responder.hears c.args.seat.now.view) a (rw c.in-Ok-Short.field-0-is at c.in-Ok-Short.ensures.ahead)),
    )

pub returns-clause-answered : goal.returns-clause-answered
returns-clause-answered g c = λ most stream first bytes visitor is a.
    let before = c.args.self.now in
    refused_within c.args.cell.now.start c.args.now most stream visitor c.args.limit.now.most before.attendant.held c.next_within.new.self.attendant.held bytes
    (guest_of before.attendant before.subscriptions before.responder.hears c.args.seat.now.view) c.in-Err.fault first before.responder.unsent.items c.refuse.new.self.unsent.items c.refuse.result is a
    c.requires.ready.reads c.in-Err.ensures.ahead (rw c.next_within.ensures.unsent at c.refuse.ensures.refused)

pub returns-in-Ok-clause-one : goal.returns-in-Ok-clause-one
returns-in-Ok-clause-one g c =
    let before = c.args.self.now in
    let limit = c.next_within.new.limit in
    let after = c.tell_common.new.self in
    let kept = c.tell_common.ensures.kept.0 in
    let command = c.in-Ok-Common.command in
    let ahead = rw c.in-Ok-Common.field-0-is at c.in-Ok-Common.ensures.ahead in
    let there = subst (λ (x : Attendance). IsCommonAhead before.attendant.asker before.subscriptions c.args.limit.now.most before.attendant.held command limit.most limit.mark x.held)
    (sym kept) ahead
    in
    common_adds c.args.cell.now.start c.args.now command before.attendant after.attendant before.subscriptions before.responder.unsent.items after.responder.unsent.items
    before.responder.hears after.responder.hears c.args.seat.now.view c.tell_common.new.seat.view c.args.limit.now.most limit.most limit.mark c.requires.ready there
    (ap (λ (x : Attendance). x.asker) kept ∙ c.next_within.ensures.asker) (c.tell_common.ensures.told ∙ ap (λ (t : NotesHeard). t.told) c.next_within.ensures.hears)
    (rw (c.next_within.ensures.hears, c.next_within.ensures.unsent, c.next_within.ensures.asker) at c.in-Ok.ensures.answered)

pub returns-in-Ok-tell_value-clause-one : goal.returns-in-Ok-tell_value-clause-one
returns-in-Ok-tell_value-clause-one g c =
    let mid = c.next_within.new.self in
    let after = c.tell_value.new.self in
    value_adds c.args.cell.now.start c.args.now (guest_of mid.attendant mid.subscriptions mid.responder.hears c.args.seat.now.view)
    (guest_of after.attendant after.subscriptions after.responder.hears c.tell_value.new.seat.view) (view c.in-Ok-Any.value) c.args.self.now.responder.unsent.items
    mid.responder.unsent.items after.responder.unsent.items c.next_within.ensures.unsent c.in-Ok-tell_value.ensures.served
