use Rattle.pubsub.proofs.Bytes.{set_to, pong_bytes}
use Rattle.pubsub.proofs.answers.say_pong.Goals as goal

pub returns : goal.returns
returns c = set_to c.say_after.result c.say_after.new.out _ _ (pong_bytes c.args.text.now) c.say_after.ensures
