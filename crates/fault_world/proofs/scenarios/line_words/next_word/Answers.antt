use Rattle.std.proofs.Common.{rules}
use Rattle.fault_world.proofs.scenarios.line_words.next_word.Goals as goal

pub returns-in-Some : goal.returns-in-Some
returns-in-Some c = search rules
