use Rattle.std.proofs.Common.{rules}
use Rattle.sentinel_cell.proofs.shared.Seat.share.Goals as goal

pub returns : goal.returns
returns c = search rules
