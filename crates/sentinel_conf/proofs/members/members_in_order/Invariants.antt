use Rattle.std.proofs.Common.{◌≡◌, take}
use Rattle.sentinel_conf.proofs.members.members_in_order.Given as goal

abbrev pub invariant-loop-seat : goal.invariant-loop-seat
invariant-loop-seat l = l.members.items ≡ take l.seat-index l.seat-items
