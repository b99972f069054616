use Rattle.std.proofs.Common.{◌++◌, ℕ, List, sym, ap}
use Rattle.client_commands.proofs.Bytes.{set_to}
use Rattle.client_commands.proofs.TableBytes.{family_is}
use Rattle.client_commands.proofs.tables.add_family_description.Goals as goal

pub returns : goal.returns
returns c =
    set_to c.add_family_bytes.result c.add_family_bytes.new.out _ _ (ap (λ (t : List ℕ). c.args.out.now ++ t) (sym (family_is c.args.command c.args.subs.now))) c.add_family_bytes.ensures
