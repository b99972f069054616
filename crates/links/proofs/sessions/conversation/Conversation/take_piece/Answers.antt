use Rattle.std.proofs.Common.{◌∙◌, sym}
use Rattle.links.specs.Sessions.Links.{events_in}
use Rattle.links.proofs.SessionsLemmas.Stepping.{piece_drained, was_received}
use Rattle.links.proofs.sessions.conversation.Conversation.take_piece.Goals as goal

pub returns-clause-received : goal.returns-clause-received
returns-clause-received c =
    let before = c.args.self.now in
    let after = c.hear_whole.new.self in
    let done = piece_drained before.node before.listens before.asked.items after.asked.items c.feed.result c.hear_whole.result before.frames.held c.feed.new.self.held after.frames.held
    c.args.piece.now
    (events_in c.args.heard.now.items) (events_in c.hear_whole.new.heard.items) (sym c.is_err.ensures.value ∙ c.if-is_err.false) c.feed.ensures.held c.hear_whole.ensures.heard in
    (done.0, done.1, was_received before.node before.listens before.asked.items c.hear_whole.result _ after.frames.held done.0 after.asked.items done.2)
