use Rattle.std.proofs.Common.{Bool, ap, sym, ◌∙◌}
use Rattle.ballot_law.specs.Clocks.{clock}
use Rattle.sentinel_rules.specs.Parts.{Part, part_if, then_part}
use Rattle.sentinel_rules.specs.Plans.{Plan}
use Rattle.sentinel_rules.specs.States.{Core, is_failing_over}
use Rattle.sentinel_rules.specs.Ticks.{start_part, row_part, ask_part, starts_now}
use Rattle.sentinel_state.specs.Parts.{with_part}
use Rattle.sentinel_core.proofs.InputsLemmas.PartSteps.{then_parts}
use Rattle.sentinel_core.proofs.InputsLemmas.Sights.{seen_after_row}
use Rattle.sentinel_core.proofs.inputs.ticks.fail_over.Goals as goal

pub ask_others-requires : goal.ask_others-requires
ask_others-requires c =
    c.requires.down
    ∙ sym (seen_after_row c.args.state.now c.start_failover-started.new.state c.advance_failover.new.state c.args.m (clock c.args.now) c.start_failover-started.ensures.state
    c.advance_failover.ensures)

pub returns : goal.returns
returns c =
    let old = c.args.state.now in
    let m = c.args.m in
    let now = clock c.args.now in
    let after_row = c.advance_failover.new.state in
    let started = starts_now old.plan old.core m now in
    let start : Part = start_part old.plan m now old.core in
    let row = λ (plan : Plan) (core : Core). part_if (is_failing_over core m) core (row_part plan m now) in
    then_parts old after_row c.ask_others.new.state (then_part start (row old.plan)) (λ (plan : Plan) (core : Core). ask_part plan m now started core)
    (then_parts old c.start_failover-started.new.state after_row start row c.start_failover-started.ensures.state c.advance_failover.ensures)
    (c.ask_others.ensures ∙ ap (λ (b : Bool). with_part after_row (ask_part after_row.plan m now b after_row.core)) c.start_failover-started.ensures.started)
