use Rattle.std.proofs.Common.{rules}
use Rattle.node_texts.proofs.messages.copies.copy_of_reply.Goals as goal

pub returns : goal.returns
returns c = search rules
