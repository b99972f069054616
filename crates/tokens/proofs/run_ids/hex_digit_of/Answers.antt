use Rattle.std.proofs.Common.{refl}
use Rattle.tokens.specs.declared.run_ids.TheConstants.{WEIGHTS}
use Rattle.tokens.proofs.HexTables.{digit_told, none_told}
use Rattle.tokens.proofs.run_ids.hex_digit_of.Goals as goal

pub returns-then-weight-lt16-clause-value : goal.returns-then-weight-lt16-clause-value
returns-then-weight-lt16-clause-value c = digit_told WEIGHTS 256 c.args.byte 0 refl refl c.ranges.byte.fits c.if-weight-lt16.true

pub returns-else-weight-lt16-clause-value : goal.returns-else-weight-lt16-clause-value
returns-else-weight-lt16-clause-value c = none_told WEIGHTS 256 c.args.byte 0 refl refl c.ranges.byte.fits c.if-weight-lt16.false
