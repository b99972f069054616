use Rattle.std.proofs.Common.{◌≡◌, ◌≤◌, ◌-◌, min, ◌++◌, length, ap, subst, ◌∙◌, arith}
use Rattle.port_answers.specs.declared.info_lines.TheConstants.{SECTION_MAX}
use Rattle.port_answers.specs.Room.{within_section}
use Rattle.port_answers.proofs.Filling.{extended}
use Rattle.port_answers.proofs.info_lines.InfoSection.add.Goals as goal

pub returns : goal.returns
returns c =
    let held = c.self.inside.bytes.items in
    let piece = c.args.piece.now in
    let short : length held ≤ SECTION_MAX = omega (arith, c.len.ensures) in
    subst (λ t. c.try_extend_from_slice.new.self.items ≡ within_section (t ++ piece)) c.self.view_is
    (extended SECTION_MAX held piece c.split_at.result.0.now c.try_extend_from_slice.new.self.items c.min-count.result c.try_extend_from_slice.result short
    (c.min-count.ensures ∙ ap (λ n. min (length piece) (SECTION_MAX - n)) c.len.ensures.value) c.split_at.ensures.front c.split_at.ensures.front_len
    c.try_extend_from_slice.ensures.variant c.try_extend_from_slice.ensures.ok)
