use Rattle.std.proofs.Common.{rules}
use Rattle.links.proofs.sessions.conversation.Conversation.hear_value.Goals as goal

pub returns-in-Ok-clause-told : goal.returns-in-Ok-clause-told
returns-in-Ok-clause-told c = search rules
