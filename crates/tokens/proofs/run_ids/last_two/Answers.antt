use Rattle.std.proofs.Common.{◌%◌, ◌*◌, refl, arith}
use Rattle.tokens.specs.declared.run_ids.TheConstants.{PAIRS}
use Rattle.tokens.proofs.HexTables.{two_told}
use Rattle.tokens.proofs.run_ids.last_two.Goals as goal

pub returns-clause-first : goal.returns-clause-first
returns-clause-first c = (two_told PAIRS 512 c.args.number (c.args.number % 256 * 2) 0 refl refl refl (omega arith)).0

pub returns-clause-second : goal.returns-clause-second
returns-clause-second c = (two_told PAIRS 512 c.args.number (c.args.number % 256 * 2) 0 refl refl refl (omega arith)).1
