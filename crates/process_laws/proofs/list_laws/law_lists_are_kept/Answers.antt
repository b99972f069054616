use Rattle.process_laws.proofs.ListsOfAProcess.{lists_are_kept}
use Rattle.process_laws.proofs.list_laws.law_lists_are_kept.Goals as goal

pub returns : goal.returns
returns c = lists_are_kept
