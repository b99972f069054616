use Rattle.std.proofs.Common.{refl}
use Rattle.client_queries.proofs.quests.Quest.connected.Goals as goal

pub returns-clause-query : goal.returns-clause-query
returns-clause-query c = rw (← c.self.view_is, c.in-Connect.is) refl
