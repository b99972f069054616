use Rattle.sentinel_runtime.proofs.Cutting.{shares_cut, shares_made, weights_cut, weights_made}
use Rattle.sentinel_runtime.proofs.running_sentinel.RunningSentinel.seats.Goals as goal
use Rattle.sentinel_runtime.proofs.running_sentinel.RunningSentinel.seats.Goals.{in-Ok+in_ok-push-in-Ok+in_ok-push-in-Ok-2, in-Err+in_ok-push-in-Err}

pub loop-seat-smaller : goal.loop-seat-smaller
loop-seat-smaller g c =
    elim c.match-split.branch [
      | in-Ok+in_ok-push-in-Ok+in_ok-push-in-Ok-2 w ↦
          rw w.left-is
          (weights_cut (λ t. t.seat.view.share) _ _ _ _ _ _ _ c.in-Some.ensures.items w.in_ok-push-in-Ok.ensures.items w.in_ok-push-in-Ok-2.ensures.items
          (rw w.with_outbox.ensures w.in-Ok.ensures.first.3) (rw w.with_outbox-in-Ok.ensures w.in-Ok.ensures.second.2) w.in-Ok.ensures.left)
      | in-Err+in_ok-push-in-Err w ↦ rw w.left-is (weights_made (λ t. t.seat.view.share) _ _ _ c.in-Some.ensures.items w.in-Err.ensures.err.2)
    ]

pub loop-seat-preserved : goal.loop-seat-preserved
loop-seat-preserved g c =
    elim c.match-split.branch [
      | in-Ok+in_ok-push-in-Ok+in_ok-push-in-Ok-2 w ↦
          rw (w.left-is, w.seats-is)
          (shares_cut (λ t. t.seat.view.share) _ _ _ _ _ _ _ _ _ c.in-Some.ensures.items w.in_ok-push-in-Ok.ensures.items w.in_ok-push-in-Ok-2.ensures.items
          (rw w.with_outbox.ensures w.in-Ok.ensures.first.3) (rw w.with_outbox-in-Ok.ensures w.in-Ok.ensures.second.2) c.loop-seat.invariant)
      | in-Err+in_ok-push-in-Err w ↦
          rw (w.left-is, w.seats-is)
          (shares_made (λ t. t.seat.view.share) _ _ _ _ _ _ _ c.in-Some.ensures.items w.in_ok-push-in-Err.ensures.items w.in-Err.ensures.err.2 c.loop-seat.invariant)
    ]

pub with_outbox-requires-in-Err-clause-heard : goal.with_outbox-requires-in-Err-clause-heard
with_outbox-requires-in-Err-clause-heard g c = rw c.in-Err.ensures.err.0 c.in-Some.seat.heard
