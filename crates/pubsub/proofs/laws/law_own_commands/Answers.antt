use Rattle.pubsub.proofs.OwnCommands.{own_is_other, own_is_said, subscribe_is_said}
use Rattle.pubsub.proofs.laws.law_own_commands.Goals as goal

pub returns : goal.returns
returns c = record { left = own_is_other; listens = own_is_said; subscribes = subscribe_is_said }
