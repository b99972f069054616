use Rattle.std.proofs.Common.{◌++◌, ap, ◌∙◌}
use Rattle.conf_lines.specs.declared.lines.StateLine.TheVariants.{CurrentEpoch}
use Rattle.conf_lines.specs.Lines.{spelled}
use Rattle.conf_lines.specs.Words.{ended}
use Rattle.sentinel_conf.specs.Fixed.{all_with_fixed}
use Rattle.sentinel_conf.specs.Room.{bounded}
use Rattle.sentinel_conf.proofs.FixedLemmas.{file_with}
use Rattle.sentinel_conf.proofs.writing.add_file.Goals as goal

pub returns : goal.returns
returns c =
    let r = c.args.roster.now in
    let fixed = c.args.fixed.now in
    let ms = c.args.masters.now in
    let one = c.add.new.self in
    let three = c.add_state.new.out in
    file_with c.args.out.now c.args.kept_lines.now fixed.own (ended (spelled (CurrentEpoch c.args.current))) (all_with_fixed r.masters ms fixed.sentinels)
    one c.add-2.new.self three c.add_masters.new.out c.add.ensures
    (c.add-2.ensures ∙ ap (λ t. bounded (one ++ t)) c.own.ensures) c.add_state.ensures
    (c.add_masters.ensures
    ∙ ap (λ t. bounded (three ++ all_with_fixed t ms c.sentinels.result.now)) c.masters.ensures
    ∙ ap (λ t. bounded (three ++ all_with_fixed r.masters ms t)) c.sentinels.ensures)
