use Rattle.std.proofs.Common.{◌≡◌, ℕ, Bool, true, ap, sym, ◌∙◌}
use Rattle.std.specs.Prelude.{not}
use Rattle.ballot_law.specs.Clocks.{clock}
use Rattle.sentinel_rules.specs.Parts.{Part, part_if, then_part}
use Rattle.sentinel_rules.specs.Plans.{Plan}
use Rattle.sentinel_rules.specs.States.{Core, is_node_down, is_tilted}
use Rattle.sentinel_rules.specs.Ticks.{odown_part, failover_part, judging_part}
use Rattle.sentinel_state.specs.declared.states.State.{State}
use Rattle.sentinel_state.specs.Parts.{with_part}
use Rattle.sentinel_core.proofs.InputsLemmas.PartSteps.{then_parts, part_unless}
use Rattle.sentinel_core.proofs.InputsLemmas.Sights.{seen_after_odown}
use Rattle.sentinel_core.proofs.inputs.ticks.judge_master.Goals as goal

-- in TILT nothing is judged
unjudged : (old : State) (m now : ℕ) (tilted : Bool) → tilted ≡ true → tilted ≡ is_tilted old.core → old ≡ with_part old (judging_part old.plan m now old.core)
unjudged old m now tilted in_tilt told =
    ap (λ t. with_part old (part_if (not t) old.core (λ core. then_part (odown_part old.plan m now core) (failover_part old.plan m now)))) (sym in_tilt ∙ told)

pub returns-then-is_tilted : goal.returns-then-is_tilted
returns-then-is_tilted c = unjudged c.args.state.now c.args.m (clock c.args.now) c.is_tilted.result c.if-is_tilted.true c.is_tilted.ensures

pub fail_over-requires-clause-down : goal.fail_over-requires-clause-down
fail_over-requires-clause-down c =
    let old = c.args.state.now in
    let m = c.args.m in
    let now = clock c.args.now in
    c.is_node_down-down.ensures ∙ ap (λ k. is_node_down old.plan old.core m now k) c.requires.place
    ∙ sym (seen_after_odown old c.find_odown.new.state m now c.find_odown.ensures)

pub returns : goal.returns
returns c =
    let old = c.args.state.now in
    let m = c.args.m in
    let now = clock c.args.now in
    then_parts old c.find_odown.new.state c.fail_over.new.state (odown_part old.plan m now old.core) (λ (plan : Plan) (core : Core). failover_part plan m now core)
    c.find_odown.ensures c.fail_over.ensures
    ∙ ap (λ (p : Part). with_part old p)
    (sym (part_unless (is_tilted old.core) old.core (λ core. then_part (odown_part old.plan m now core) (failover_part old.plan m now))
    (sym c.is_tilted.ensures ∙ c.if-is_tilted.false)))
