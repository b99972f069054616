use Rattle.process_laws.proofs.Openings.{new_connections_deliver}
use Rattle.process_laws.proofs.shared_laws.law_new_connections_deliver.Goals as goal

pub returns : goal.returns
returns c = new_connections_deliver
