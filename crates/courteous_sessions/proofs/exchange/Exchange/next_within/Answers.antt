use Rattle.std.proofs.Common.{◌∙◌, ◌+◌, ap, Result}
use Rattle.ballot_law.specs.declared.commands.Command.{Command}
use Rattle.client_commands.specs.Attendants.{Attendance}
use Rattle.port_sessions.specs.Stores.{may_store, one_if}
use Rattle.resp2.specs.declared.command.CommandFault.{CommandFault}
use Rattle.courteous_sessions.proofs.GoingOn.{common_is_ahead}
use Rattle.courteous_sessions.proofs.exchange.Exchange.next_within.Goals as goal

pub returns-then-allows-clause-ahead : goal.returns-then-allows-clause-ahead
returns-then-allows-clause-ahead c =
    let before = c.args.self.now in
    let allowed = c.allows.ensures.yes c.if-allows.true in
    common_is_ahead before.attendant.asker before.subscriptions c.in-Some.command c.args.limit.now.most c.allows.new.limit.most before.attendant.held c.args.limit.now.mark
    c.allows.new.limit.mark c.next_common.new.self.attendant.held c.allows.new.self.attendant.held c.requires.reads c.requires.mark c.in-Some.ensures.taken
    c.in-Some.ensures.common c.in-Some.ensures.plain c.in-Some.ensures.fewer
    (allowed.0 ∙ ap (λ (k : Result Command CommandFault). one_if (may_store k) + c.allows.new.limit.most) c.asked_by.ensures)
    (ap (λ (a : Attendance). a.held) allowed.1) (c.allows.ensures.mark c.if-allows.true)
