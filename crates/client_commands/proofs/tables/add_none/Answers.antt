use Rattle.std.proofs.Common.{◌++◌, ℕ, List, ap}
use Rattle.client_commands.proofs.Bytes.{set_to, none_bytes}
use Rattle.client_commands.proofs.tables.add_none.Goals as goal

pub returns : goal.returns
returns c = set_to c.add.result c.add.new.self _ _ (ap (λ (t : List ℕ). c.args.out.now ++ t) none_bytes) c.add.ensures.ok
