use Rattle.std.proofs.Common.{rules}
use Rattle.links.proofs.sessions.conversation.Conversation.sent.Goals as goal

pub returns-clause-unsent : goal.returns-clause-unsent
returns-clause-unsent c = search rules
