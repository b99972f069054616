use Rattle.sentinel_rules.proofs.WorkedRows.{replicas_one_by_one, a_former_master_follows, a_replica_of_another_follows}
use Rattle.sentinel_rules.proofs.worked.law_example_replicas.Goals as goal

pub returns-clause-replicas_one_by_one : goal.returns-clause-replicas_one_by_one
returns-clause-replicas_one_by_one c = replicas_one_by_one

pub returns-clause-a_former_master_follows : goal.returns-clause-a_former_master_follows
returns-clause-a_former_master_follows c = a_former_master_follows

pub returns-clause-a_replica_of_another_follows : goal.returns-clause-a_replica_of_another_follows
returns-clause-a_replica_of_another_follows c = a_replica_of_another_follows
