use Rattle.std.proofs.Common.{◌≡◌, map, length}
use Rattle.node_texts.specs.Infos.{fields_of, newest_fields}
use Rattle.ballot_law.specs.Cuts.{lines}
use Rattle.node_texts.specs.Lines.{without_return}
use Rattle.node_texts.proofs.info_fields.Fields.of.Given as goal

abbrev pub invariant-loop-rest : goal.invariant-loop-rest
invariant-loop-rest l = newest_fields l.fields (fields_of (map without_return (lines l.rest))) ≡ fields_of (map without_return (lines l.fn.text))

abbrev pub decreases-loop-rest : goal.decreases-loop-rest
decreases-loop-rest l = length l.rest
