use Rattle.std.proofs.Common.{ap, ◌∙◌, List}
use Rattle.failover_states.specs.Calls.{choice_of}
use Rattle.sentinel_rules.specs.declared.frames.Frame.{Frame}
use Rattle.sentinel_rules.specs.Parts.{frames_from}
use Rattle.sentinel_rules.specs.States.{failover_of}
use Rattle.sentinel_rules.specs.Ticks.{promote_frames, order_frames}
use Rattle.sentinel_state.specs.declared.states.State.{State}
use Rattle.sentinel_state.specs.Nodes.Room.{added}
use Rattle.sentinel_state.proofs.NodesLemmas.RoomLemmas.{added_both}
use Rattle.sentinel_core.proofs.inputs.failing_over.put_orders.Goals as goal

pub returns : goal.returns
returns c =
    let old = c.args.state.now in
    let m = c.args.m in
    let with_frames : List Frame → State = λ (frames : List Frame). record old { frames = frames } in
    let promotes = promote_frames old.plan old.core m c.args.switch.unrefused c.args.hands_over c.args.row (choice_of (failover_of old.core m).state) in
    let orders = frames_from (order_frames old.plan m) 0 (failover_of old.core m).replicas in
    ap (λ (s : State). let t : State = record s { frames = c.order_replicas.new.frames } in t) c.promote_choice.ensures
    ∙ ap with_frames
    (c.order_replicas.ensures
    ∙ ap (λ (s : State). added s.frames (frames_from (order_frames s.plan m) 0 (failover_of s.core m).replicas)) c.promote_choice.ensures
    ∙ added_both old.frames promotes orders)
