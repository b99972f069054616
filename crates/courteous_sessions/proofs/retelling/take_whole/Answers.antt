use Rattle.std.proofs.Common.{◌≡◌, ◌++◌, ◌∷◌, [], map}
use Rattle.std.proofs.lemmas.List.{map_push}
use Rattle.resp2.specs.Framing.Frame.{view}
use Rattle.resp2.proofs.FramingLemmas.Drains.{value_drains}
use Rattle.courteous_sessions.proofs.Retold.{end_so_far}
use Rattle.courteous_sessions.proofs.retelling.take_whole.Goals as goal

pub loop-value-preserved : goal.loop-value-preserved
loop-value-preserved c = λ stream so_far.
    let v = c.in-Some.value in
    let e : map view c.push.new.self.items ≡ map view c.loop-value.values.items ++ view v ∷ [] = rw c.in_ok-push.ensures.items (map_push view c.loop-value.values.items v) in
    let answer = rw c.in-Some.is at c.in_ok-value.ensures.exact in
    rw e (value_drains stream (map view c.loop-value.values.items) c.loop-value.frames v c.next.new.self (c.loop-value.invariant stream so_far) answer)

pub returns : goal.returns
returns c = λ stream so_far.
    let answer = rw c.in_default.is at c.in_ok-value.ensures.exact in
    end_so_far stream (map view c.loop-value.values.items) c.loop-value.frames c.next.new.self (c.loop-value.invariant stream so_far) answer
