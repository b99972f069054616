use Rattle.client_commands.proofs.LineStreams.{spelled_or_line, spelled_is_value, value_waits}
use Rattle.client_commands.proofs.laws.law_values_are_spelled_or_lines.Goals as goal

pub returns : goal.returns
returns c = record { read = λ bytes rest value h. spelled_or_line bytes value rest h; spelled = spelled_is_value; waits = value_waits }
