use Rattle.std.proofs.Common.{◌≡◌, ◌++◌, ℕ, List}
use Rattle.ballot_law.specs.declared.events.Event.{Event}
use Rattle.resp2.specs.Framing.Stream.{reading, bytes_in, held_size}
use Rattle.links.specs.declared.sessions.questions.Question.{Question}
use Rattle.links.specs.Sessions.Links.{events_in, Grows}
use Rattle.links.specs.Sessions.OnTheWay.{IsOnTheWay}
use Rattle.links.proofs.sessions.conversation.Conversation.hear_whole.Given as goal

-- what was on the way is so still, with more events
abbrev pub invariant-loop-fault : goal.invariant-loop-fault
invariant-loop-fault l = record {
  node : l.self.node ≡ l.initial.self.node;
  listens : l.self.listens ≡ l.initial.self.listens;
  unsent : l.self.unsent.items ≡ l.initial.self.unsent.items;
  is_open : l.self.frames.held ≡ reading (bytes_in l.self.frames.held);
  grows : Grows l.initial.heard.items l.heard.items;
  heard : (stream : List ℕ) (asked : List Question) (before so_far : List Event) → events_in l.initial.heard.items ≡ before ++ so_far
      → IsOnTheWay l.initial.self.node l.initial.self.listens asked stream l.initial.self.frames.held so_far l.initial.self.asked.items
      → (more : List Event) × (events_in l.heard.items ≡ before ++ more)
      × IsOnTheWay l.initial.self.node l.initial.self.listens asked stream l.self.frames.held more l.self.asked.items;
}

abbrev pub decreases-loop-fault : goal.decreases-loop-fault
decreases-loop-fault l = held_size l.self.frames.held
