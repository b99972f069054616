use Rattle.std.proofs.Common.{rules}
use Rattle.boxed_nodes.proofs.clients.search.Search.hear_role.Goals as goal

pub returns-then-role_was : goal.returns-then-role_was
returns-then-role_was c = search rules
