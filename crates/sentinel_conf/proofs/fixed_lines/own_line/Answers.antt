use Rattle.std.proofs.Common.{[], ◌++◌, ap, ◌∙◌}
use Rattle.conf_lines.specs.declared.lines.StateLine.TheVariants.{MyId}
use Rattle.conf_lines.specs.Lines.{spelled}
use Rattle.conf_lines.specs.Words.{ended}
use Rattle.sentinel_conf.specs.Room.{bounded}
use Rattle.sentinel_conf.proofs.RoomLemmas.{room_of}
use Rattle.sentinel_conf.proofs.fixed_lines.own_line.Goals as goal

pub returns : goal.returns
returns c =
    let line = ended (spelled (MyId c.args.id)) in
    ap bounded (c.from_vec.ensures ∙ c.in_ok-from_slice.ensures.items ∙ c.as_slice.ensures)
    ∙ room_of [] c.add_state.new.out line (c.add_state.ensures ∙ ap (λ t. bounded (t ++ line)) c.clear.ensures)
