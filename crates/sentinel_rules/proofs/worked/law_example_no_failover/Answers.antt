use Rattle.sentinel_rules.proofs.WorkedRows.{votes_of_another_epoch, no_epoch_is_left, adoption_ends_a_failover, only_newer_is_adopted}
use Rattle.sentinel_rules.proofs.worked.law_example_no_failover.Goals as goal

pub returns-clause-votes_of_another_epoch : goal.returns-clause-votes_of_another_epoch
returns-clause-votes_of_another_epoch c = votes_of_another_epoch

pub returns-clause-no_epoch_is_left : goal.returns-clause-no_epoch_is_left
returns-clause-no_epoch_is_left c = no_epoch_is_left

pub returns-clause-adoption_ends_a_failover : goal.returns-clause-adoption_ends_a_failover
returns-clause-adoption_ends_a_failover c = adoption_ends_a_failover

pub returns-clause-only_newer_is_adopted : goal.returns-clause-only_newer_is_adopted
returns-clause-only_newer_is_adopted c = only_newer_is_adopted
