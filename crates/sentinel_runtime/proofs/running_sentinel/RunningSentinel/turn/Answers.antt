use Rattle.sentinel_runtime.proofs.HeardWell.{turned_heard}
use Rattle.sentinel_runtime.proofs.Saying.{added_shown, faulted_shown, shown_noted, shown_said, shown_sendable}
use Rattle.sentinel_runtime.proofs.running_sentinel.RunningSentinel.turn.Goals as goal

pub returns-in-Ok-clause-sendable : goal.returns-in-Ok-clause-sendable
returns-in-Ok-clause-sendable g c = shown_sendable c.law_outputs_are_within.ensures.outputs c.law_outputs_are_within.ensures.epochs _
    c.args.seat.now.seat.view c.act_observed.new.seat.view
    _ _ _ c.clear.ensures.shown c.in-Ok.ensures.acted c.requires.within

pub returns-in-Ok-clause-said : goal.returns-in-Ok-clause-said
returns-in-Ok-clause-said g c =
    shown_said g.J.Which.said _ c.args.seat.now.seat.view c.act_observed.new.seat.view _ _ _ c.args.self.now.says c.clear.ensures.shown c.in-Ok.ensures.acted

pub returns-in-Ok-clause-noted : goal.returns-in-Ok-clause-noted
returns-in-Ok-clause-noted g c =
    shown_noted g.J.Which.noted _ c.args.seat.now.seat.view c.act_observed.new.seat.view _ _ _ _ c.args.self.now.notes c.clear.ensures.shown c.in-Ok.ensures.acted
    c.in-Ok.ensures.entry

pub returns-in-Ok-clause-added : goal.returns-in-Ok-clause-added
returns-in-Ok-clause-added g c = (added_shown _ c.args.seat.now.seat.view c.act_observed.new.seat.view _ _ _ c.clear.ensures.shown c.in-Ok.ensures.acted, c.in-Ok.ensures.entry)

pub returns-in-Err-clause-fault : goal.returns-in-Err-clause-fault
returns-in-Err-clause-fault g c = faulted_shown _ c.args.seat.now.seat.view c.act_observed.new.seat.view _ _ _ _ c.clear.ensures.shown c.in-Err.ensures.acted

pub invariant_of-seat-clause-heard : goal.invariant_of-seat-clause-heard
invariant_of-seat-clause-heard g c =
    turned_heard g.J.Which.told _ c.args.seat.now.seat.view c.act_observed.new.seat.view _ _ _ c.requires.told c.act_observed.ensures.acted c.args.seat.now.heard
