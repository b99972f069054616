use Rattle.std.proofs.Common.{rules}
use Rattle.links.proofs.sessions.conversation.Conversation.ask.Goals as goal

pub returns-clause-ok : goal.returns-clause-ok
returns-clause-ok c = search rules
