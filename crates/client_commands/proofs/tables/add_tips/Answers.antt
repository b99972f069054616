use Rattle.std.proofs.Common.{◌++◌, ℕ, List, length, sym, ap}
use Rattle.client_commands.specs.Pieces.{all_in}
use Rattle.client_commands.specs.Rows.{tips}
use Rattle.client_commands.proofs.Bytes.{set_to}
use Rattle.client_commands.proofs.TableBytes.{texts_are}
use Rattle.client_commands.proofs.tables.add_tips.Goals as goal

pub returns : goal.returns
returns c =
    let told = c.tips.result.now in
    let same = texts_are (length told) (all_in told) (tips c.args.class) c.tips.ensures.size c.tips.ensures.parts in
    set_to c.add_array.result c.add_array.new.out _ _ (ap (λ (t : List ℕ). c.args.out.now ++ t) (sym same)) c.add_array.ensures
