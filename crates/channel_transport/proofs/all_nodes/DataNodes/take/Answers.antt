use Rattle.channel_transport.proofs.Naming.{says_all}
use Rattle.channel_transport.proofs.all_nodes.DataNodes.take.Goals as goal

-- src/all_nodes.rt:138:13
pub send_all-requires-clause-said : goal.send_all-requires-clause-said
send_all-requires-clause-said g c = says_all _
