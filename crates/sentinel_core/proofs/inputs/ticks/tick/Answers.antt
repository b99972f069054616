use Rattle.std.proofs.Common.{ap, sym, ◌∙◌}
use Rattle.ballot_law.specs.Clocks.{clock}
use Rattle.sentinel_rules.specs.Parts.{Part}
use Rattle.sentinel_rules.specs.Plans.{master_count}
use Rattle.sentinel_rules.specs.States.{Core}
use Rattle.sentinel_rules.specs.Ticks.{master_part, with_reading}
use Rattle.sentinel_state.specs.declared.states.State.{State}
use Rattle.sentinel_state.specs.Parts.{with_part}
use Rattle.sentinel_core.proofs.InputsLemmas.PartSteps.{part_below}
use Rattle.sentinel_core.proofs.inputs.ticks.tick.Goals as goal

pub returns-then-m-master_count : goal.returns-then-m-master_count
returns-then-m-master_count c =
    let old = c.args.state.now in
    let m = c.args.m in
    let now = clock c.args.now in
    let read = with_reading now c.args.random old.core in
    c.note_rest.ensures
    ∙ c.tick_master.ensures
    ∙ ap (λ (core : Core). let x : State = record old { core = core } in with_part x (master_part old.plan m now core)) c.read_clock.ensures
    ∙ ap (λ (p : Part). with_part old p) (sym (part_below m c.master_count.result (master_count old.plan) read (master_part old.plan m now) c.if-m-master_count.true
    c.master_count.ensures.value))
