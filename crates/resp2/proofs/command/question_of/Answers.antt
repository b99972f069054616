use Rattle.std.proofs.Common.{rules}
use Rattle.resp2.proofs.command.question_of.Goals as goal

pub returns-in_err-addr-clause-command : goal.returns-in_err-addr-clause-command
returns-in_err-addr-clause-command c = search rules
