use Rattle.std.proofs.Common.{arith}
use Rattle.resp2.proofs.Switches.{few_words}
use Rattle.resp2.proofs.command.switch_words.Goals as goal

pub returns-in_default : goal.returns-in_default
returns-in_default c = few_words c.args.words.now (omega (arith, c.in_default.len_below))
