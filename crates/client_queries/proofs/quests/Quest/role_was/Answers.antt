use Rattle.std.proofs.Common.{refl}
use Rattle.client_queries.proofs.quests.Quest.role_was.Goals as goal
use Rattle.client_queries.proofs.quests.Quest.role_was.Goals.{then-is_master, else-is_master}

pub returns-clause-query : goal.returns-clause-query
returns-clause-query c = elim c.if-is_master.branch [
  | then-is_master w ↦ rw (← c.self.view_is, c.in-CheckRole.is, w.self-is, w.if-is_master.true) refl
  | else-is_master w ↦ rw (← c.self.view_is, c.in-CheckRole.is, w.self-is, w.if-is_master.false) refl
]
