use Rattle.std.proofs.Common.{arith}
use Rattle.std.proofs.lemmas.Grind.{common_steps}
use Rattle.sentinel_state.proofs.nodes.peers.Peer.is_ping_due.Goals as goal

pub returns-then-place : goal.returns-then-place
returns-then-place c = grind (arith, common_steps)
