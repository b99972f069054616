use Rattle.pubsub.proofs.Bytes.{grown_by, pattern_bytes}
use Rattle.pubsub.proofs.telling.add_pattern_message.Goals as goal

pub returns : goal.returns
returns c = grown_by c.add_three.result c.add_three.new.out _ _ _ (pattern_bytes c.args.pattern.now c.args.channel.now c.args.text.now) c.add_three.ensures
