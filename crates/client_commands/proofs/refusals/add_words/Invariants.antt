use Rattle.std.proofs.Common.{◌≡◌, ◌≤◌, ◌++◌, length}
use Rattle.client_commands.specs.Refusals.{shown_words}
use Rattle.client_commands.proofs.refusals.add_words.Given as goal

abbrev pub invariant-loop-rest : goal.invariant-loop-rest
invariant-loop-rest l = record {
  shown : l.fn.out ++ shown_words 0 l.words ≡ l.out ++ shown_words l.count l.rest;
  few : l.count ≤ 131;
}

abbrev pub decreases-loop-rest : goal.decreases-loop-rest
decreases-loop-rest l = length l.rest
