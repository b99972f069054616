use Rattle.std.proofs.Common.{rules}
use Rattle.ballot_law.proofs.texts.ShortText.from_slice.Goals as goal

pub returns-then-bytes-gt-SHORT_TEXT_MAX-clause-fits : goal.returns-then-bytes-gt-SHORT_TEXT_MAX-clause-fits
returns-then-bytes-gt-SHORT_TEXT_MAX-clause-fits c = search rules
