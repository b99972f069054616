use Rattle.std.proofs.Common.{◌∙◌, ℕ, List, ap, sym}
use Rattle.client_commands.specs.declared.infos.Section.TheVariants.{Server, Clients, Stats, Cpu}
use Rattle.client_commands.specs.Sections.{with_asked, port_sections}
use Rattle.client_commands.proofs.Bytes.{set_to}
use Rattle.client_commands.proofs.infos.add_port_sections.Goals as goal

pub returns : goal.returns
returns c =
    let words = c.args.words.now in
    let figures = c.args.figures.now in
    let one = c.in_ok-add_section.ensures ∙ ap (λ (t : List ℕ). with_asked t Server words figures) c.requires in
    let two = c.in_ok-add_section-2.ensures ∙ ap (λ (t : List ℕ). with_asked t Clients words figures) one in
    let three = c.in_ok-add_section-3.ensures ∙ ap (λ (t : List ℕ). with_asked t Stats words figures) two in
    set_to c.add_section-4.result c.add_section-4.new.out (with_asked c.add_section-3.new.out Cpu words figures) (port_sections words figures)
    (sym (ap (λ (t : List ℕ). with_asked t Cpu words figures) three)) c.add_section-4.ensures
