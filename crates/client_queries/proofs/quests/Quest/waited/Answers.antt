use Rattle.std.proofs.Common.{refl}
use Rattle.client_queries.proofs.quests.Quest.waited.Goals as goal
use Rattle.client_queries.proofs.quests.Quest.waited.Goals.{in-Wait, in-NoSentinel}

pub returns-clause-query : goal.returns-clause-query
returns-clause-query c =
    elim c.match-self.branch [ in-Wait w ↦ rw (← c.self.view_is, w.in-Wait.is) refl | in-NoSentinel w ↦ rw (← c.self.view_is, w.in-NoSentinel.is) refl ]
