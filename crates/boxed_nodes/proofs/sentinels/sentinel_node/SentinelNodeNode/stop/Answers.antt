use Rattle.std.proofs.Common.{rules}
use Rattle.boxed_nodes.proofs.sentinels.sentinel_node.SentinelNodeNode.stop.Goals as goal

pub returns-in-New-clause-stops : goal.returns-in-New-clause-stops
returns-in-New-clause-stops c = search rules
