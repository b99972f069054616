use Rattle.std.proofs.Common.{rules, ◌≡◌, ◌-◌, ◌≤◌, length, take, drop, subst}
use Rattle.std.specs.Io.KnownBytes.{Appends, Keeps, WriteAppends}
use Rattle.sentinel_core.proofs.ServingLemmas.KnownBytes.{appends_more, appends_then_keeps, rest_whole}
use Rattle.sentinel_core.proofs.serving.streams.write_whole.Goals as goal
use Rattle.sentinel_core.proofs.serving.streams.write_whole.Goals.{in-Ok, in-Err+else-ne}

pub loop-preserved : goal.loop-preserved
loop-preserved g c =
    let old = g.W.Write.contents c.loop.writer in
    let new = g.W.Write.contents c.write.new.self in
    let bytes = c.args.bytes.now in
    let done = c.loop.done in
    let rest : take (length bytes - done) (drop done bytes) ≡ drop done bytes = rest_whole bytes done in
    let said : WriteAppends old new c.write.result (drop done bytes) = subst (λ t. WriteAppends old new c.write.result t) rest c.write.ensures.bytes in
    elim c.match-write.branch [
      | in-Ok w ↦
          let piece : Appends old new (take w.in-Ok.count (drop done bytes)) = subst (λ r. WriteAppends old new r (drop done bytes)) w.in-Ok.is said in
          let fits : c.match-write.done ≤ length bytes = search rules in
          (fits, rw w.done-is (appends_more _ _ _ _ _ _ c.loop.invariant.0 c.loop.invariant.1 piece))
      | in-Err+else-ne w ↦
          let kept : Keeps old new = subst (λ r. WriteAppends old new r (drop done bytes)) w.in-Err.is said in
          let fits : c.match-write.done ≤ length bytes = search rules in
          (fits, rw w.done-is (appends_then_keeps _ _ _ _ c.loop.invariant.1 kept))
    ]
