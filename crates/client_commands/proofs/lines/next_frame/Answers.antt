use Rattle.resp2.proofs.FramingLemmas.HaveLines.{given_lines}
use Rattle.client_commands.proofs.Held.{fewer_held}
use Rattle.client_commands.proofs.lines.next_frame.Goals as goal

pub returns-clause-lines : goal.returns-clause-lines
returns-clause-lines c = given_lines _ _ c.next.result c.next.ensures.found

pub returns-clause-fewer : goal.returns-clause-fewer
returns-clause-fewer c = fewer_held _ _ c.next.result c.next.ensures.exact
