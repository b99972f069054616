use Rattle.std.proofs.Common.{rules}
use Rattle.client_queries.proofs.quests.ask_after.Goals as goal

pub returns-else-place-sentinels : goal.returns-else-place-sentinels
returns-else-place-sentinels c = search rules
