use Rattle.std.proofs.Common.{rules}
use Rattle.node_texts.proofs.messages.events.heard.Goals as goal

pub returns : goal.returns
returns c = search rules
