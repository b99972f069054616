use Rattle.std.proofs.Common.{rules}
use Rattle.links.proofs.sessions.conversation.Conversation.next_question.Goals as goal

pub returns-in-Some-clause-next : goal.returns-in-Some-clause-next
returns-in-Some-clause-next c = search rules

pub returns-then-self-clause-next : goal.returns-then-self-clause-next
returns-then-self-clause-next c = search rules
