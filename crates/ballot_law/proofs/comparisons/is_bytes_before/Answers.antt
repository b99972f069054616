use Rattle.std.proofs.Common.{◌∙◌, ap}
use Rattle.std.specs.Ordering.{is_lt}
use Rattle.ballot_law.proofs.Rising.{slice_before}
use Rattle.ballot_law.proofs.comparisons.is_bytes_before.Goals as goal

pub returns : goal.returns
returns c = c.is_lt.ensures ∙ ap is_lt c.cmp.ensures ∙ slice_before c.args.first.now c.args.second.now
