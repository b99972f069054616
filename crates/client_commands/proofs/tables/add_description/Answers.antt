use Rattle.std.proofs.Common.{◌++◌, ℕ, List, sym, ap}
use Rattle.client_commands.proofs.Bytes.{set_to}
use Rattle.client_commands.proofs.TableBytes.{fields_are}
use Rattle.client_commands.proofs.tables.add_description.Goals as goal

pub returns : goal.returns
returns c =
    set_to c.add_fields.result c.add_fields.new.out _ _ (ap (λ (t : List ℕ). c.args.out.now ++ t) (sym (fields_are c.args.command))) c.add_fields.ensures
