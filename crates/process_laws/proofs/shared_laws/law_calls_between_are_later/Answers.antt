use Rattle.process_laws.proofs.Meanwhile.{calls_between_are_later}
use Rattle.process_laws.proofs.shared_laws.law_calls_between_are_later.Goals as goal

pub returns : goal.returns
returns c = calls_between_are_later
