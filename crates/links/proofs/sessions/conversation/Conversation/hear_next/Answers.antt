use Rattle.links.specs.Sessions.Links.{events_in}
use Rattle.links.proofs.SessionsLemmas.Stepping.{value_added, value_broke, less_is_held}
use Rattle.links.proofs.sessions.conversation.Conversation.hear_next.Goals as goal

pub returns-in-Ok-clause-heard : goal.returns-in-Ok-clause-heard
returns-in-Ok-clause-heard c = λ stream asked before so_far is a.
    rw c.hear_value.ensures.frames (value_added c.args.self.now.node c.args.self.now.listens asked stream c.args.self.now.frames.held c.next.new.self.held so_far before
    (events_in c.args.heard.now.items) (events_in c.hear_value.new.heard.items)
    c.args.self.now.asked.items c.hear_value.new.self.asked.items c.in-Ok-Some.value is a (rw c.in-Ok-Some.field-0-is at c.in-Ok-Some.ensures.answers) c.in-Ok.ensures.told)

pub returns-in-Err-hear_value-clause-heard : goal.returns-in-Err-hear_value-clause-heard
returns-in-Err-hear_value-clause-heard c = λ stream asked before so_far is a.
    value_broke c.args.self.now.node c.args.self.now.listens asked stream c.args.self.now.frames.held c.next.new.self.held so_far before (events_in c.args.heard.now.items)
    (events_in c.hear_value.new.heard.items)
    c.args.self.now.asked.items c.in-Ok-Some.value c.in-Err-hear_value.fault is c.in-Err-hear_value.ensures.untold a (rw c.in-Ok-Some.field-0-is at c.in-Ok-Some.ensures.answers)
    c.in-Err-hear_value.ensures.why

pub returns-in-Ok-clause-smaller : goal.returns-in-Ok-clause-smaller
returns-in-Ok-clause-smaller c = λ more.
    rw c.hear_value.ensures.frames (less_is_held c.args.self.now.frames.held c.next.new.self.held c.in-Ok-Some.value c.requires.open
    (rw c.in-Ok-Some.field-0-is at c.in-Ok-Some.ensures.answers))
