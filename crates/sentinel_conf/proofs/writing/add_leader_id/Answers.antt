use Rattle.std.proofs.Common.{◌++◌, ap, sym, ◌∙◌, append-nil}
use Rattle.conf_lines.specs.declared.lines.StateLine.TheVariants.{LeaderId}
use Rattle.conf_lines.specs.Lines.{spelled}
use Rattle.conf_lines.specs.Words.{ended}
use Rattle.sentinel_conf.specs.Rewritten.{text_of, candidate_states}
use Rattle.sentinel_conf.specs.Room.{bounded}
use Rattle.sentinel_conf.proofs.RoomLemmas.{room_of}
use Rattle.sentinel_conf.proofs.writing.add_leader_id.Goals as goal

pub returns-in-Some : goal.returns-in-Some
returns-in-Some c =
    let out = c.args.out.now in
    let line = ended (spelled (LeaderId c.args.name c.in-Some.id)) in
    room_of out c.add_state.new.out line c.add_state.ensures
    ∙ ap (λ t. bounded (out ++ t)) (sym (append-nil line))
    ∙ ap (λ o. bounded (out ++ text_of (candidate_states c.args.name o))) (sym c.in-Some.is)
