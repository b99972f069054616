use Rattle.ballot_law.proofs.RosterLemmas.{named_in}
use Rattle.fault_world.proofs.names.master_named.Goals as goal

pub returns-clause-value : goal.returns-clause-value
returns-clause-value c = named_in c.args.roster.now c.args.name.now c.master_named.result c.requires c.master_named.ensures.some c.master_named.ensures.none
