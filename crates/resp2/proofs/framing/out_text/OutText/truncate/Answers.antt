use Rattle.std.proofs.Common.{rules}
use Rattle.resp2.proofs.framing.out_text.OutText.truncate.Goals as goal

pub returns : goal.returns
returns c = search rules
