use Rattle.node_texts.proofs.LabelLemmas.{stripped}
use Rattle.tcp_transport.proofs.Replicas.{behind_by}
use Rattle.tcp_transport.proofs.replica_notes.behind.Goals as goal

pub returns : goal.returns
returns c = behind_by c.args.label.now c.args.bytes.now c.strip_prefix.result (stripped c.args.label.now c.args.bytes.now c.strip_prefix.result c.strip_prefix.ensures.cases)
