use Rattle.std.proofs.Common.{rules}
use Rattle.tokens.proofs.addresses.port_of.Goals as goal

pub returns : goal.returns
returns c = search rules
