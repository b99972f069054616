use Rattle.process_laws.proofs.OwnActions.{own_actions_are_actions}
use Rattle.process_laws.proofs.laws.law_own_actions_are_actions.Goals as goal

pub returns : goal.returns
returns c = own_actions_are_actions
