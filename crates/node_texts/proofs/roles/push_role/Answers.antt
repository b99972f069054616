use Rattle.node_texts.proofs.RoleAgain.{master_whole, replica_whole}
use Rattle.node_texts.proofs.roles.push_role.Goals as goal

pub returns-in-Master-clause-whole : goal.returns-in-Master-clause-whole
returns-in-Master-clause-whole c = master_whole c.args.role.now _ c.in-Master.is c.requires

pub returns-in-Replica-clause-whole : goal.returns-in-Replica-clause-whole
returns-in-Replica-clause-whole c = replica_whole c.args.role.now _ _ c.in-Replica.is c.requires c.push_replica.ensures.host
