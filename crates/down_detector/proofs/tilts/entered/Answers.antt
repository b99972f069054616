use Rattle.std.proofs.Common.{rules}
use Rattle.down_detector.proofs.tilts.entered.Goals as goal

pub returns-in-Some : goal.returns-in-Some
returns-in-Some c = search rules
