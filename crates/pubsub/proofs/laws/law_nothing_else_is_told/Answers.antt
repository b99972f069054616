use Rattle.pubsub.proofs.Sounding.{untold}
use Rattle.pubsub.proofs.laws.law_nothing_else_is_told.Goals as goal

pub returns : goal.returns
returns c = untold
