use Rattle.sentinel_rules.proofs.Changing.{inputs_change_at, inputs_change_one}
use Rattle.sentinel_rules.proofs.Rising.{inputs_raise_cards, opened_is_ahead}
use Rattle.sentinel_rules.proofs.laws.law_inputs_change_one_card.Goals as goal

pub returns-clause-at : goal.returns-clause-at
returns-clause-at c = inputs_change_at

pub returns-clause-one : goal.returns-clause-one
returns-clause-one c = inputs_change_one

pub returns-clause-greater : goal.returns-clause-greater
returns-clause-greater c = inputs_raise_cards

pub returns-clause-opened : goal.returns-clause-opened
returns-clause-opened c = opened_is_ahead
