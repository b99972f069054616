use Rattle.std.proofs.Common.{◌∙◌, ◌++◌, ◌+◌, ap, sym, List, ℕ}
use Rattle.resp2.specs.Framing.Stream.{reading}
use Rattle.port_sessions.specs.Stores.{may_store, one_if}
use Rattle.port_sessions.proofs.GoingOn.{front_of}
use Rattle.port_sessions.proofs.ahead.next_within.Goals as goal

pub returns-then-allows : goal.returns-then-allows
returns-then-allows c =
    let asks = rw c.in-Ok-Some.field-0-is at c.in-Ok-Some.ensures.exact in
    let front = front_of c.args.frames.now c.next_command.new.frames c.in-Ok-Some.asked asks in
    let stood = c.allows.ensures.mark ∙ c.requires ∙ front.1 ∙ ap (λ (t : List ℕ). reading (front.0 ++ t)) (sym c.held.ensures) in
    record {
      asks = asks;
      counts = c.allows.ensures.yes c.if-allows.true ∙ ap (λ (n : ℕ). one_if (may_store c.in-Ok-Some.asked) + n) (sym c.follow.ensures.most);
      marks = c.follow.ensures.mark front.0 stood ∙ ap reading c.held.ensures ∙ sym front.2;
      within = rw c.in-Ok-Some.field-0-is at c.in-Ok-Some.ensures.within;
      smaller = rw c.in-Ok-Some.field-0-is at c.in-Ok-Some.ensures.fewer;
    }
