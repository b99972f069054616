use Rattle.std.proofs.Common.{ap}
use Rattle.client_queries.specs.declared.moves.Move.TheVariants.{Ask}
use Rattle.client_queries.specs.Queries.{query}
use Rattle.client_queries.proofs.quests.Quest.new.Goals as goal

pub returns-clause-first : goal.returns-clause-first
returns-clause-first c = ap (λ sentinels. query sentinels (Ask 0)) c.in_ok-from_slice.ensures.items
