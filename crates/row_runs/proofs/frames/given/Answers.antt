use Rattle.resp2.proofs.FramingLemmas.HaveLines.{given_lines}
use Rattle.row_runs.proofs.frames.given.Goals as goal

pub returns : goal.returns
returns c = given_lines _ _ c.next.result c.next.ensures.found
