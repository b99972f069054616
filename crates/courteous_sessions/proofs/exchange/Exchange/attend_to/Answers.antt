use Rattle.std.proofs.Common.{◌∙◌, ap}
use Rattle.ballot_law.specs.Rosters.{Roster}
use Rattle.client_commands.specs.Courtesies.{courtesy, asker_after, kind_of, text_of}
use Rattle.resp2.specs.Framing.Frame.{view}
use Rattle.sentinel_rules.specs.Plans.{roster_of}
use Rattle.courteous_sessions.proofs.Serving.{noted, answered_by_others, asked_before}
use Rattle.std.proofs.Common.{refl}
use Rattle.courteous_sessions.proofs.Losing.{not_begun}
use Rattle.courteous_sessions.proofs.exchange.Exchange.attend_to.Goals as goal

pub returns-in_ok-answer-in-Ok-clause-served : goal.returns-in_ok-answer-in-Ok-clause-served
returns-in_ok-answer-in-Ok-clause-served g c =
    let before = c.args.self.now in
    let mid = c.answer.new.self in
    let after = c.note_listening.new.self in
    let value = view c.args.value.now in
    let l = before.subscriptions in
    let becomes = courtesy (roster_of c.args.cell.now.start.plan) before.attendant.asker value in
    let kind = c.in-Ok.ensures.kind ∙ ap (λ (r : Roster). kind_of (courtesy r before.attendant.asker value)) c.roster.ensures in
    let text = c.in-Ok.ensures.text ∙ ap (λ (r : Roster). text_of (courtesy r before.attendant.asker value)) c.roster.ensures in
    let known = noted mid.attendant after.attendant l mid.subscriptions (asker_after before.attendant.asker value) c.note_listening.ensures.attendant c.answer.ensures.kept
    (c.answer.ensures.same.asker ∙ c.in-Ok.ensures.asker)
    in
    rw (c.note_listening.ensures.hears, c.note_listening.ensures.unsent, c.note_listening.ensures.kept)
    (answered_by_others c.args.cell.now.start c.args.now before.attendant after.attendant l mid.subscriptions before.responder.hears mid.responder.hears
    c.args.seat.now.view c.answer.new.seat.view value before.responder.unsent.items mid.responder.unsent.items c.requires.ready c.requires.other.1 c.requires.other.0 known.0 known.1
    (known.2 ∙ c.answer.ensures.same.held ∙ c.attend_to.ensures.held) c.answer.ensures.told c.answer.ensures.kept
    (asked_before c.args.cell.now.start c.args.now before.attendant.asker c.attend_to.new.self.asker value becomes before.responder.unsent.items
    mid.responder.unsent.items c.args.seat.now.view before.responder.hears mid.responder.hears c.answer.new.seat.view c.in-Ok.ensures.asker
    (c.in_ok-answer-in-Ok.ensures.answered becomes kind text)))

pub returns-in-Err-clause-fault : goal.returns-in-Err-clause-fault
returns-in-Err-clause-fault g c = not_begun c.args.cell.now.start c.args.now _ (view c.args.value.now) c.args.seat.now.view refl refl
