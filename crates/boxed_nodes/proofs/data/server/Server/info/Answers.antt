use Rattle.std.proofs.Common.{rules}
use Rattle.boxed_nodes.proofs.data.server.Server.info.Goals as goal

pub returns : goal.returns
returns c = search rules
