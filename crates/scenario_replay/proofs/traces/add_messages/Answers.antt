use Rattle.std.proofs.Common.{rules}
use Rattle.scenario_replay.proofs.Messages.{writable_at}
use Rattle.scenario_replay.proofs.traces.add_messages.Goals as goal

pub add_message-requires : goal.add_message-requires
add_message-requires g c = writable_at c.args.world.now.messages.items c.loop-number.number c.in-Some.message.now c.requires.shows.sendable (search rules)
