use Rattle.story_runs.proofs.Groups.{stands_in}
use Rattle.story_runs.proofs.worlds.lines_of_nodes.Goals as goal

pub lines_in-requires-clause-stands : goal.lines_in-requires-clause-stands
lines_in-requires-clause-stands g c =
    stands_in c.args.roster c.in-Ok.world.roster c.in-Ok.world.members.items c.in-Ok.world.messages.items c.in-Ok.ensures.roster _ _ c.in-Ok.ensures.stands
