use Rattle.std.proofs.Common.{rules}
use Rattle.boxed_nodes.proofs.sentinels.sentinel_node.SentinelNodeNode.card.Goals as goal

pub returns-then-is_stopped : goal.returns-then-is_stopped
returns-then-is_stopped c = search rules
