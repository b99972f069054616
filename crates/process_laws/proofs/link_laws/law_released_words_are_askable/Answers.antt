use Rattle.process_laws.proofs.Asking.{released_words_are_askable}
use Rattle.process_laws.proofs.link_laws.law_released_words_are_askable.Goals as goal

pub returns : goal.returns
returns c = released_words_are_askable
