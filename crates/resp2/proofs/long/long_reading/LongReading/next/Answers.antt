use Rattle.std.proofs.Common.{sym}
use Rattle.resp2.specs.Long.LongHeld.{held_in}
use Rattle.resp2.proofs.LongLemmas.Going.{next_short, short_bounded}
use Rattle.resp2.proofs.long.long_reading.LongReading.next.Goals as goal

pub returns-in-None-clause-answers : goal.returns-in-None-clause-answers
returns-in-None-clause-answers c =
    next_short c.begin.new.self.long c.take.new.self (held_in c.args.self.now) c.begin.new.self.frames c.next.new.self c.next.result (sym c.in-None.ensures.value)
    c.in-None.ensures.after c.in_ok-begin.ensures.open c.in_ok-begin.ensures.held c.in_ok-begin.ensures.short c.next.ensures.exact

pub returns-in-None-clause-bounded : goal.returns-in-None-clause-bounded
returns-in-None-clause-bounded c =
    short_bounded c.take.new.self c.begin.new.self.frames c.next.new.self c.next.result c.in-None.ensures.after c.in_ok-begin.ensures.open c.next.ensures.exact
