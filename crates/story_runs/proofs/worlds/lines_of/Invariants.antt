use Rattle.std.proofs.Common.{All}
use Rattle.boxed_nodes.specs.Moves.{IsFresh}
use Rattle.story_runs.specs.contracts.worlds.add.{dyn-1-ghosts}
use Rattle.story_runs.proofs.worlds.lines_of.OwnLists.{own-1, lawful-own-1}
use Rattle.story_runs.proofs.worlds.lines_of.Given as goal

abbrev pub invariant-loop-number : goal.invariant-loop-number
invariant-loop-number l = All (λ b. IsFresh (((dyn-1-ghosts (own-1, lawful-own-1)).0.entry b.vtable).1.is_known b.value)
    (((dyn-1-ghosts (own-1, lawful-own-1)).0.entry b.vtable).1.shows b.value)) l.nodes.items
