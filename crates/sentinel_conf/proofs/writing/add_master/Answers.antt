use Rattle.std.proofs.Common.{◌≡◌, ◌++◌, ap, ◌∙◌}
use Rattle.ballot_law.specs.Rosters.{MasterPlan}
use Rattle.conf_lines.specs.declared.lines.StateLine.TheVariants.{Monitor, ConfigEpoch, LeaderEpoch}
use Rattle.conf_lines.specs.Lines.{spelled}
use Rattle.conf_lines.specs.Words.{ended}
use Rattle.sentinel_conf.specs.Rewritten.{text_of, candidate_states, replica_states}
use Rattle.sentinel_conf.specs.Room.{bounded}
use Rattle.sentinel_conf.proofs.FixedLemmas.{three_and_text}
use Rattle.sentinel_conf.proofs.RoomLemmas.{room_of}
use Rattle.sentinel_conf.proofs.writing.add_master.Goals as goal

pub returns : goal.returns
returns c =
    let m = c.args.master.now in
    let i = c.master.inside in
    let at = c.args.kept.now.card.addr in
    let out = c.args.out.now in
    let one = c.add_state.new.out in
    let two = c.add_state-2.new.out in
    let three = c.add_state-3.new.out in
    let four = c.add_leader_id.new.out in
    let five = c.add_replicas.new.out in
    let candidate = c.args.kept.now.candidate in
    let fixed = c.args.sentinels.now in
    let name : i.name ≡ m.name = ap (λ (t : MasterPlan). t.name) c.master.view_is in
    let quorum : i.quorum ≡ m.quorum = ap (λ (t : MasterPlan). t.quorum) c.master.view_is in
    three_and_text (Monitor m.name at m.quorum) (ConfigEpoch m.name c.args.kept.now.card.epoch) (LeaderEpoch m.name c.args.kept.now.voted)
    (candidate_states m.name candidate) (replica_states m.name at m.nodes) fixed out one two three four five c.add.new.self
    (c.add_state.ensures
    ∙ ap (λ n. bounded (out ++ ended (spelled (Monitor n at i.quorum)))) name
    ∙ ap (λ q. bounded (out ++ ended (spelled (Monitor m.name at q)))) quorum)
    (c.add_state-2.ensures ∙ ap (λ n. bounded (one ++ ended (spelled (ConfigEpoch n c.args.kept.now.card.epoch)))) name)
    (c.add_state-3.ensures ∙ ap (λ n. bounded (two ++ ended (spelled (LeaderEpoch n c.args.kept.now.voted)))) name)
    (c.add_leader_id.ensures ∙ ap (λ n. bounded (three ++ text_of (candidate_states n candidate))) name)
    (c.add_replicas.ensures
    ∙ ap (λ n. bounded (four ++ text_of (replica_states n at c.nodes.result.now))) name
    ∙ ap (λ ns. bounded (four ++ text_of (replica_states m.name at ns))) c.nodes.ensures)
    (room_of five c.add.new.self fixed (c.add.ensures ∙ ap (λ t. bounded (five ++ t)) c.as_slice.ensures))
