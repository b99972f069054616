use Rattle.std.proofs.Common.{◌++◌, ℕ, List, length, sym, ap}
use Rattle.client_commands.specs.Pieces.{all_in}
use Rattle.client_commands.specs.Rows.{flags}
use Rattle.client_commands.proofs.Bytes.{set_to}
use Rattle.client_commands.proofs.TableBytes.{marks_are}
use Rattle.client_commands.proofs.tables.add_flags.Goals as goal

pub returns : goal.returns
returns c =
    let told = c.flags.result.now in
    let same = marks_are (length told) (all_in told) (flags c.args.class) c.flags.ensures.size c.flags.ensures.parts in
    set_to c.add_array.result c.add_array.new.out _ _ (ap (λ (t : List ℕ). c.args.out.now ++ t) (sym same)) c.add_array.ensures
