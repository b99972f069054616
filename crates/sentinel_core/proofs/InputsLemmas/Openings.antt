-- A failover that starts keeps the epoch that its campaign opens: the one after the current epoch.
use Rattle.std.proofs.Common.{◌≡◌, ℕ, Bool, true, false, Option, None, refl, sym, ap, subst}
use Rattle.std.specs.Prelude.{is_some, not, unwrap_or}
use Rattle.failover_states.specs.declared.states.FailoverState.{FailoverState}
use Rattle.failover_states.specs.declared.states.FailoverState.TheVariants.{Idle}
use Rattle.failover_states.specs.declared.states.Row.{Row}
use Rattle.failover_states.specs.Calls.{epoch_of}
use Rattle.failover_states.specs.Failovers.{Failover}
use Rattle.failover_states.specs.Known.{Known}
use Rattle.failover_states.specs.Table.{turned, table, quieted}
use Rattle.vote_book.specs.Elections.{next_epoch}
use Rattle.sentinel_rules.specs.Plans.{Plan}
use Rattle.sentinel_rules.specs.States.{Core, failover_of, is_failing_over}
use Rattle.sentinel_rules.specs.Votes.{book_of}
use Rattle.sentinel_rules.specs.Ticks.{known_of, is_start_due, start_turn}
use Rattle.sentinel_rules.proofs.SoundTicks.{idle_is}
use Rattle.sentinel_rules.proofs.Turns.{turn_by}

idle_not : (b : Bool) → b ≡ false → not b ≡ true
idle_not b h = ap not h

pub start_opens : (plan : Plan) (core : Core) (m now : ℕ) → is_failing_over core m ≡ false → is_some (start_turn plan core m now).row ≡ true
    → unwrap_or (epoch_of (start_turn plan core m now).failover.state) 0 ≡ next_epoch (book_of core m)
start_opens plan core m now idle = from (failover_of core m) (idle_is (failover_of core m).state (idle_not (is_failing_over core m) idle))
  where
    k : Known
    k = known_of plan core m now (is_start_due plan core m now)

    Q : Option Row → Failover → Type 0
    Q row f = is_some row ≡ true → unwrap_or (epoch_of f.state) 0 ≡ next_epoch (book_of core m)

    from_idle : (f : Failover) → Q (turned (record f { state = Idle }) k).row (turned (record f { state = Idle }) k).failover
    from_idle f =
        let g : Failover = record f { state = Idle } in
        turn_by Q (quieted g) None (table Idle (quieted g) k)
        (λ none. absurd (cc))
        ((λ fits _. refl), tt)

    from : (f : Failover) → f.state ≡ Idle → Q (turned f k).row (turned f k).failover
    from f e =
        let same : f ≡ record f { state = Idle } = ap (λ (state : FailoverState). let x : Failover = record f { state = state } in x) e in
        subst (λ (g : Failover). Q (turned g k).row (turned g k).failover) (sym same) (from_idle f)
