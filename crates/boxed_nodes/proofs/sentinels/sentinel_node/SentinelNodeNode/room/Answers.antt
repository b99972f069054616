use Rattle.std.proofs.Common.{rules}
use Rattle.boxed_nodes.proofs.sentinels.sentinel_node.SentinelNodeNode.room.Goals as goal

pub returns : goal.returns
returns c = search rules
