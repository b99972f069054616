use Rattle.std.proofs.Common.{rules}
use Rattle.tokens.proofs.digits.has_leading_zero.Goals as goal

pub returns-then-bytes-gt1 : goal.returns-then-bytes-gt1
returns-then-bytes-gt1 c = search rules
