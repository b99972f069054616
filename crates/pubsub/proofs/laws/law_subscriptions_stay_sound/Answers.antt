use Rattle.pubsub.proofs.Sounding.{answer_sound, nothing_sound}
use Rattle.pubsub.proofs.laws.law_subscriptions_stay_sound.Goals as goal

pub returns : goal.returns
returns c = record { begins = nothing_sound; stays = answer_sound }
