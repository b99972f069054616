use Rattle.std.proofs.Common.{refl}
use Rattle.sentinel_cell.proofs.shared.law_seats.Goals as goal

pub returns : goal.returns
returns c = refl
