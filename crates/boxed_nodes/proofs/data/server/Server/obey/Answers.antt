use Rattle.std.proofs.Common.{rules}
use Rattle.boxed_nodes.proofs.data.server.Server.obey.Goals as goal

pub returns-then-can_follow : goal.returns-then-can_follow
returns-then-can_follow c = search rules
