use Rattle.std.proofs.Common.{◌∙◌, ℕ, List, false, ap, sym, Some}
use Rattle.std.specs.Prelude.{codes}
use Rattle.resp2.specs.Framing.Frame.{bulk, spelling}
use Rattle.client_commands.specs.Choosing.{Wanted, anyone}
use Rattle.client_commands.specs.Courtesies.{lines_of}
use Rattle.client_commands.proofs.Bytes.{set_to}
use Rattle.client_commands.proofs.listing.own_line.Goals as goal

pub returns : goal.returns
returns c =
    let text : Wanted → List ℕ = λ wanted. spelling (bulk (lines_of c.args.asker.now (codes "client|info") wanted)) in
    let own : Wanted = record (anyone false) { id = Some c.args.asker.now.id } in
    let same = c.with_number.ensures ∙ ap (λ (n : ℕ). let w : Wanted = record (anyone false) { id = Some n } in w) c.id.ensures in
    set_to c.say_lines-2.result c.say_lines-2.new.out (text c.with_number.result) (text own) (ap text (sym same)) c.say_lines-2.ensures
