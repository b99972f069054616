use Rattle.client_commands.proofs.LineStreams.{value_stays}
use Rattle.client_commands.proofs.laws.law_lines_stay.Goals as goal

pub returns : goal.returns
returns c = value_stays
