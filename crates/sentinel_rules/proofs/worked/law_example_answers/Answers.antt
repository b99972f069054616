use Rattle.sentinel_rules.proofs.WorkedRows.{nothing_of_nobody, short_answers, info_in_bytes, shown_in_a_failover}
use Rattle.sentinel_rules.proofs.worked.law_example_answers.Goals as goal

pub returns-clause-nothing_of_nobody : goal.returns-clause-nothing_of_nobody
returns-clause-nothing_of_nobody c = nothing_of_nobody

pub returns-clause-short_answers : goal.returns-clause-short_answers
returns-clause-short_answers c = short_answers

pub returns-clause-info_in_bytes : goal.returns-clause-info_in_bytes
returns-clause-info_in_bytes c = info_in_bytes

pub returns-clause-shown_in_a_failover : goal.returns-clause-shown_in_a_failover
returns-clause-shown_in_a_failover c = shown_in_a_failover
