use Rattle.boxed_nodes.proofs.SentinelsLemmas.SentinelMoves.{stops_old}
use Rattle.boxed_nodes.proofs.sentinels.sentinel_node.SentinelNode.stop_old.Goals as goal

pub returns-clause-stops : goal.returns-clause-stops
returns-clause-stops c = stops_old c.args.self.now.sentinel c.stop.new.self c.args.self.now.file.text c.stop.ensures c.is_whole.ensures
