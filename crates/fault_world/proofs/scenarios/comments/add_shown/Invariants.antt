use Rattle.std.proofs.Common.{◌≡◌, ◌++◌, map, take}
use Rattle.fault_world.specs.Scenarios.Lines.{shown}
use Rattle.fault_world.proofs.scenarios.comments.add_shown.Given as goal

abbrev pub invariant-loop-byte : goal.invariant-loop-byte
invariant-loop-byte l = l.text ≡ l.fn.text ++ map shown (take l.byte-index l.fn.bytes)
