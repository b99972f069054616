use Rattle.std.proofs.Common.{◌++◌, ℕ, List, sym, ap}
use Rattle.client_commands.proofs.Bytes.{set_to}
use Rattle.client_commands.proofs.TableBytes.{subs_are}
use Rattle.client_commands.proofs.tables.add_subs.Goals as goal

pub returns : goal.returns
returns c =
    set_to c.add_sub_bytes.result c.add_sub_bytes.new.out _ _ (ap (λ (t : List ℕ). c.args.out.now ++ t) (sym (subs_are c.args.subs.now))) c.add_sub_bytes.ensures
