use Rattle.std.proofs.Common.{◌≡◌}
use Rattle.pubsub.proofs.names.NameList.find_out.Given as goal

abbrev pub invariant-loop-name : goal.invariant-loop-name
invariant-loop-name l = l.name-items ≡ l.fn.self
