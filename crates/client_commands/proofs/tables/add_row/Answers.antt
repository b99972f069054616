use Rattle.std.proofs.Common.{◌∙◌, ◌++◌, ℕ, List, sym, ap}
use Rattle.resp2.specs.Framing.Frame.{items, spelling}
use Rattle.client_commands.specs.declared.classes.Class.{Class}
use Rattle.client_commands.specs.declared.rows.KnownCommand.{KnownCommand}
use Rattle.client_commands.specs.Rows.{class_of}
use Rattle.client_commands.specs.Tables.{row_with, sub_rows}
use Rattle.client_commands.proofs.Bytes.{set_to}
use Rattle.client_commands.proofs.Parts.{three_parts}
use Rattle.client_commands.proofs.TableBytes.{class_bytes, name_bytes, row_is}
use Rattle.client_commands.proofs.tables.add_row.Goals as goal

pub returns : goal.returns
returns c =
    let command = c.args.command in
    let subs = c.subs.result.now in
    let class = c.in_ok-add_class.ensures ∙ ap (λ (k : Class). c.add_name.new.out ++ class_bytes k) c.class.ensures in
    let told = three_parts c.add_subs.result (name_bytes command) (class_bytes (class_of command)) (spelling (items (sub_rows subs))) c.args.out.now c.add_name.new.out
    c.add_class.new.out c.add_subs.new.out c.in_ok-add_name.ensures class c.add_subs.ensures in
    let same = row_is command (sub_rows subs) ∙ ap (λ (s : List KnownCommand). spelling (row_with command (sub_rows s))) c.subs.ensures in
    set_to c.add_subs.result c.add_subs.new.out _ _ (ap (λ (t : List ℕ). c.args.out.now ++ t) (sym same)) told
