use Rattle.std.proofs.Common.{◌≡◌, ◌≤◌, All, length, map, take}
use Rattle.boxed_nodes.specs.Moves.{IsFresh}
use Rattle.scenario_replay.specs.Files.{AreFirst}
use Rattle.scenario_replay.specs.contracts.story.add.{dyn-1-ghosts}
use Rattle.scenario_replay.proofs.story.Story.play.OwnLists.{own-1, lawful-own-1}
use Rattle.scenario_replay.proofs.story.Story.play.Given as goal

abbrev pub invariant-loop-number : goal.invariant-loop-number
invariant-loop-number l =
    record {
      fresh : All (λ b. IsFresh (((dyn-1-ghosts (own-1, lawful-own-1)).0.entry b.vtable).1.is_known b.value)
          (((dyn-1-ghosts (own-1, lawful-own-1)).0.entry b.vtable).1.shows b.value)) l.nodes.items;
      count : l.number ≤ length l.self.files.items → length l.nodes.items ≡ l.number;
      files : AreFirst (λ b. ((dyn-1-ghosts (own-1, lawful-own-1)).0.entry b.vtable).1.name b.value)
          (λ b. ((dyn-1-ghosts (own-1, lawful-own-1)).0.entry b.vtable).1.shows b.value)
          (map (λ f. f.items) (take l.number l.self.files.items)) l.nodes.items;
    }
