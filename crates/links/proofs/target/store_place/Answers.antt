use Rattle.std.proofs.Common.{rules}
use Rattle.links.proofs.target.store_place.Goals as goal

pub returns : goal.returns
returns c = search rules
