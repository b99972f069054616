use Rattle.scenario_replay.proofs.Files.{files_are_held}
use Rattle.scenario_replay.proofs.Groups.{begun_in, begun_shows}
use Rattle.scenario_replay.proofs.story.world_of.Goals as goal

pub returns-in-Ok-clause-begun : goal.returns-in-Ok-clause-begun
returns-in-Ok-clause-begun g c =
    begun_in c.args.roster c.in-Ok.world.roster c.in-Ok.world.members.items c.in-Ok.world.messages.items c.in-Ok.ensures.roster _ _ c.in-Ok.ensures.since

pub returns-in-Ok-clause-held : goal.returns-in-Ok-clause-held
returns-in-Ok-clause-held g c = λ files first.
    let begun = begun_in c.args.roster c.in-Ok.world.roster c.in-Ok.world.members.items c.in-Ok.world.messages.items c.in-Ok.ensures.roster _ _ c.in-Ok.ensures.since in
    record {
      begun = begun;
      held =
          files_are_held (λ m. m.node) (λ m. m.name) (λ b. (goal.Node-dyn g (b.vtable, b.value)).name b.value) (λ b. (goal.Node-dyn g (b.vtable, b.value)).shows b.value)
          (λ m. m.outbox.held) (λ m. m.stopped) c.in-Ok.world.roster files c.args.nodes.items c.in-Ok.world.members.items c.in-Ok.world.messages.items c.in-Ok.ensures.nodes first
          begun.0 (begun_shows _ _ begun);
    }
