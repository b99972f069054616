use Rattle.std.proofs.Common.{◌≡◌, ℕ, Bool, true, false, if◌then◌else◌, ap, sym, ◌∙◌}
use Rattle.std.specs.Prelude.{is_some, not, unwrap_or}
use Rattle.ballot_law.specs.Clocks.{clock}
use Rattle.failover_states.specs.Calls.{epoch_of}
use Rattle.failover_states.specs.Failovers.{Failover}
use Rattle.vote_book.specs.Elections.{next_epoch}
use Rattle.sentinel_rules.specs.Parts.{quiet}
use Rattle.sentinel_rules.specs.States.{Core, is_failing_over, with_current, with_failover}
use Rattle.sentinel_rules.specs.Ticks.{turn_of, is_start_due, start_turn, start_part, after_start, planned_start, with_plan}
use Rattle.sentinel_rules.specs.Votes.{book_of}
use Rattle.sentinel_state.specs.declared.states.State.{State}
use Rattle.sentinel_state.specs.Parts.{with_part}
use Rattle.sentinel_core.proofs.InputsLemmas.Openings.{start_opens}
use Rattle.sentinel_core.proofs.InputsLemmas.PartSteps.{part_unless}
use Rattle.sentinel_core.proofs.inputs.failing_over.start_failover.Goals as goal

abbrev with_core : State → Core → State
with_core state core = record state { core = core }

-- a failover that starts opens the epoch after the current one
opened : (old : State) (m now epoch : ℕ) → is_failing_over old.core m ≡ false → is_some (start_turn old.plan old.core m now).row ≡ true → epoch ≡ next_epoch (book_of old.core m)
    → with_core old (with_plan m now (with_current (with_failover old.core m (start_turn old.plan old.core m now).failover) epoch))
    ≡ with_part old (start_part old.plan m now old.core)
opened old m now epoch idle starts is =
    let after = with_failover old.core m (start_turn old.plan old.core m now).failover in
    let begun = after_start m (start_turn old.plan old.core m now) old.core in
    ap (λ e. with_core old (with_plan m now (with_current after e))) is
    ∙ ap (λ b. with_core old (with_plan m now (if b then with_current after (next_epoch (book_of old.core m)) else after))) (sym starts)
    ∙ ap (λ b. with_core old (if b then with_plan m now begun else begun)) (sym starts)
    ∙ ap (with_part old) (sym (part_unless (is_failing_over old.core m) old.core (λ core. quiet (planned_start m now (start_turn old.plan core m now) core)) idle))

pub returns-clause-state : goal.returns-clause-state
returns-clause-state c =
    let old = c.args.state.now in
    let m = c.args.m in
    let now = clock c.args.now in
    let epoch = c.campaign_epoch-epoch.result in
    let turn = λ (odown : Bool). turn_of old.plan old.core m now odown in
    let odown : c.is_start_due-odown.result ≡ is_start_due old.plan old.core m now = c.is_start_due-odown.ensures.value in
    let idle : is_failing_over old.core m ≡ false = sym c.is_failing_over.ensures ∙ c.if-is_failing_over.false in
    let starts : is_some (start_turn old.plan old.core m now).row ≡ true
    = ap is_some (sym (c.turn-act.ensures.row ∙ ap (λ b. (turn b).row) odown)) ∙ c.is_none.ensures ∙ ap not c.if-is_none.false in
    let next : epoch ≡ next_epoch (book_of old.core m)
    = c.campaign_epoch-epoch.ensures
    ∙ ap (λ (f : Failover). unwrap_or (epoch_of f.state) 0) (c.turn-act.ensures.failover ∙ ap (λ b. (turn b).failover) odown)
    ∙ start_opens old.plan old.core m now idle starts in
    ap (with_core c.turn-act.new.state) c.plan_switch.ensures
    ∙ ap (λ (core : Core). with_core c.turn-act.new.state (with_plan m now core)) c.set_current.ensures
    ∙ ap (λ (state : State). with_core state (with_plan m now (with_current state.core epoch)))
    (c.turn-act.ensures.state ∙ ap (λ b. with_core old (with_failover old.core m (turn b).failover)) odown)
    ∙ opened old m now epoch idle starts next
