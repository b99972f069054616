use Rattle.node_texts.proofs.MessagesLemmas.Adding.{front_text}
use Rattle.node_texts.proofs.messages.replies.answer_front.Goals as goal

pub returns : goal.returns
returns c = front_text c.args.down c.from-digit.result c.from-digit.ensures
