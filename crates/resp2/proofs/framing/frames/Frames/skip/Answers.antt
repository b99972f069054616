use Rattle.std.proofs.Common.{rules}
use Rattle.resp2.proofs.framing.frames.Frames.skip.Goals as goal

pub returns : goal.returns
returns c = search rules
