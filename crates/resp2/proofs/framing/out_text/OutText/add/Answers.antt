use Rattle.std.proofs.Common.{rules}
use Rattle.resp2.proofs.framing.out_text.OutText.add.Goals as goal

pub returns-clause-ok : goal.returns-clause-ok
returns-clause-ok c = search rules
