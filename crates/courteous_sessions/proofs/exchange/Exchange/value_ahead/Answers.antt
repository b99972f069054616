use Rattle.std.proofs.Common.{ap}
use Rattle.client_commands.specs.Attendants.{Attendance}
use Rattle.courteous_sessions.proofs.GoingOn.{value_is_ahead}
use Rattle.courteous_sessions.proofs.exchange.Exchange.value_ahead.Goals as goal

pub returns-then-allows-clause-ahead : goal.returns-then-allows-clause-ahead
returns-then-allows-clause-ahead c =
    let allowed = c.allows.ensures.yes c.if-allows.true in
    value_is_ahead c.in-Ok-Some.value c.args.limit.now.most c.allows.new.limit.most c.args.self.now.attendant.held c.args.limit.now.mark c.allows.new.limit.mark c.next.new.self.held
    c.allows.new.self.attendant.held c.redis_command_of.result c.requires.reads c.requires.mark (rw c.in-Ok-Some.field-0-is at c.in-Ok-Some.ensures.exact)
    (rw c.in-Ok-Some.field-0-is at c.in-Ok-Some.ensures.lines) (rw c.in-Ok-Some.field-0-is at c.in-Ok-Some.ensures.fewer) c.redis_command_of.ensures.command allowed.0
    (ap (λ (a : Attendance). a.held) allowed.1) (c.allows.ensures.mark c.if-allows.true)
