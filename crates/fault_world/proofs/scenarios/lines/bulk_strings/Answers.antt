use Rattle.fault_world.specs.Scenarios.Read.{words_left}
use Rattle.fault_world.proofs.ScenariosLemmas.Bulks.{all_bulk}
use Rattle.fault_world.proofs.scenarios.lines.bulk_strings.Goals as goal

pub returns : goal.returns
returns c = all_bulk c.loop-word.values.items (words_left c.args.words) (rw c.in_default.ensures at c.loop-word.invariant)
