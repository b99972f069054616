use Rattle.std.proofs.Common.{rules}
use Rattle.port_answers.proofs.line_answers.fault_text.Goals as goal

pub returns-in-BadEpoch : goal.returns-in-BadEpoch
returns-in-BadEpoch c = search rules
