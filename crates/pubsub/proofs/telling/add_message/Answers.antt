use Rattle.pubsub.proofs.Bytes.{grown_by, message_bytes}
use Rattle.pubsub.proofs.telling.add_message.Goals as goal

pub returns : goal.returns
returns c = grown_by c.add_two.result c.add_two.new.out _ _ _ (message_bytes c.args.channel.now c.args.text.now) c.add_two.ensures
