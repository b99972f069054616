use Rattle.sentinel_rules.proofs.WorkedRows.{a_failover, failover_goes_on, a_tick_in_full, hello_in_bytes}
use Rattle.sentinel_rules.proofs.worked.law_example_failover.Goals as goal

pub returns-clause-a_failover : goal.returns-clause-a_failover
returns-clause-a_failover c = a_failover

pub returns-clause-failover_goes_on : goal.returns-clause-failover_goes_on
returns-clause-failover_goes_on c = failover_goes_on

pub returns-clause-a_tick_in_full : goal.returns-clause-a_tick_in_full
returns-clause-a_tick_in_full c = a_tick_in_full

pub returns-clause-hello_in_bytes : goal.returns-clause-hello_in_bytes
returns-clause-hello_in_bytes c = hello_in_bytes
