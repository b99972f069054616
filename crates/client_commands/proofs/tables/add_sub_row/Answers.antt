use Rattle.std.proofs.Common.{◌∙◌, ◌++◌, ℕ, List, sym, ap}
use Rattle.resp2.specs.Framing.Frame.{items, no_frames, spelling}
use Rattle.client_commands.specs.declared.classes.Class.{Class}
use Rattle.client_commands.specs.Rows.{class_of}
use Rattle.client_commands.proofs.Bytes.{set_to}
use Rattle.client_commands.proofs.Parts.{three_parts}
use Rattle.client_commands.proofs.TableBytes.{class_bytes, name_bytes, row_is}
use Rattle.client_commands.proofs.tables.add_sub_row.Goals as goal

pub returns : goal.returns
returns c =
    let sub = c.args.sub in
    let class = c.in_ok-add_class.ensures ∙ ap (λ (k : Class). c.add_name.new.out ++ class_bytes k) c.class.ensures in
    let told = three_parts c.add_none.result (name_bytes sub) (class_bytes (class_of sub)) (spelling (items no_frames)) c.args.out.now c.add_name.new.out
    c.add_class.new.out c.add_none.new.out c.in_ok-add_name.ensures class c.add_none.ensures in
    set_to c.add_none.result c.add_none.new.out _ _ (ap (λ (t : List ℕ). c.args.out.now ++ t) (sym (row_is sub no_frames))) told
