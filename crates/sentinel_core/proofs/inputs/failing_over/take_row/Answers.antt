use Rattle.std.proofs.Common.{◌∙◌}
use Rattle.ballot_law.specs.Clocks.{clock}
use Rattle.sentinel_core.proofs.InputsLemmas.PartSteps.{row_taken}
use Rattle.sentinel_core.proofs.inputs.failing_over.take_row.Goals as goal

pub returns : goal.returns
returns c =
    c.note_unfit.ensures
    ∙ row_taken c.args.state.now c.turn-act.new.state c.put_orders.new.state c.args.m (clock c.args.now) c.campaign_of-campaign.result.epoch
    c.campaign_of-campaign.result.awaited
    c.switch_of-switch.result.unrefused c.hands_over-hands_over.result c.turn-act.result.row c.turn-act.result.vote c.end_row.new.core
    c.turn-act.ensures.state c.turn-act.ensures.failover c.turn-act.ensures.row c.turn-act.ensures.vote c.campaign_of-campaign.ensures.epoch c.campaign_of-campaign.ensures.awaited
    c.switch_of-switch.ensures c.hands_over-hands_over.ensures c.put_orders.ensures c.end_row.ensures
