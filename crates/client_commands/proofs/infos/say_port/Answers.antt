use Rattle.std.proofs.Common.{◌∙◌, ℕ, List, ap, sym}
use Rattle.resp2.specs.Framing.Frame.{bulk, spelling}
use Rattle.client_commands.specs.Sections.{port_sections}
use Rattle.client_commands.proofs.Bytes.{set_to}
use Rattle.client_commands.proofs.infos.say_port.Goals as goal

pub returns : goal.returns
returns c =
    let wanted = port_sections c.args.words.now c.args.figures.now in
    let is = c.as_slice.ensures ∙ c.in_ok-add_port_sections.ensures in
    set_to c.say_bulk.result c.say_bulk.new.out (spelling (bulk c.as_slice.result.now)) (spelling (bulk wanted))
    (sym (ap (λ (t : List ℕ). spelling (bulk t)) is)) c.say_bulk.ensures
