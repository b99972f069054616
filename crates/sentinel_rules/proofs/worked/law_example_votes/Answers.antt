use Rattle.sentinel_rules.proofs.WorkedRows.{one_vote_an_epoch, questions_raise_nothing, vote_after_a_restart, vote_that_was_not_stored, a_vote_delays_the_own_campaign}
use Rattle.sentinel_rules.proofs.worked.law_example_votes.Goals as goal

pub returns-clause-one_vote_an_epoch : goal.returns-clause-one_vote_an_epoch
returns-clause-one_vote_an_epoch c = one_vote_an_epoch

pub returns-clause-questions_raise_nothing : goal.returns-clause-questions_raise_nothing
returns-clause-questions_raise_nothing c = questions_raise_nothing

pub returns-clause-vote_after_a_restart : goal.returns-clause-vote_after_a_restart
returns-clause-vote_after_a_restart c = vote_after_a_restart

pub returns-clause-vote_that_was_not_stored : goal.returns-clause-vote_that_was_not_stored
returns-clause-vote_that_was_not_stored c = vote_that_was_not_stored

pub returns-clause-a_vote_delays_the_own_campaign : goal.returns-clause-a_vote_delays_the_own_campaign
returns-clause-a_vote_delays_the_own_campaign c = a_vote_delays_the_own_campaign
