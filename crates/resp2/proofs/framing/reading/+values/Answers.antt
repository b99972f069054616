use Rattle.std.proofs.Common.{rules, ◌≡◌, ◌++◌, ◌∷◌, [], map}
use Rattle.std.proofs.lemmas.Result.{err_from_is_err_and}
use Rattle.std.proofs.lemmas.List.{map_push}
use Rattle.resp2.specs.Framing.Frame.{view}
use Rattle.resp2.specs.Framing.Reading.{value_at, values_at}
use Rattle.resp2.proofs.FramingLemmas.Loop.{goes_on, ends, is_done}
use Rattle.resp2.specs.Framing.Reading.{value_at, kind_at, items_at}
use Rattle.resp2.proofs.framing.reading.+values.Goals as goal

pub values_of-returns-in_err-value : goal.values_of-returns-in_err-value
values_of-returns-in_err-value t c =
    let inner = value_at 1024 c.args.more c.args.depth in
    let p = err_from_is_err_and c.from_residual-in_err-value.result c.from_residual-in_err-value.ensures.1 in
    rw (p.1, p.2) (ends inner (map view c.loop.values.items) c.args.count c.loop.counter c.loop.rest.now c.in_err-value.field-0.0 (values_at inner c.args.count c.args.bytes.now)
    c.loop-test.true c.in_err-value.ensures c.loop.invariant)

pub values_of-loop-preserved : goal.values_of-loop-preserved
values_of-loop-preserved t c =
    let inner = value_at 1024 c.args.more c.args.depth in
    let v = c.in_ok-value.value in
    let e : map view c.push.new.self.items ≡ map view c.loop.values.items ++ view v ∷ [] = rw c.in_ok-push.ensures.items (map_push view c.loop.values.items v) in
    rw e (goes_on inner (map view c.loop.values.items) c.args.count c.loop.counter c.loop.rest.now (view v) c.in_ok-value.after.now (values_at inner c.args.count c.args.bytes.now)
    c.loop-test.true c.in_ok-value.ensures c.loop.invariant)

pub values_of-returns : goal.values_of-returns
values_of-returns t c =
    let inner = value_at 1024 c.args.more c.args.depth in
    is_done inner (map view c.loop.values.items) c.args.count c.loop.counter c.loop.rest.now (values_at inner c.args.count c.args.bytes.now) c.loop-test.false c.loop.invariant

pub value_of-returns-in_default-kind : goal.value_of-returns-in_default-kind
unfolding value_at kind_at
value_of-returns-in_default-kind t c = search rules

pub items_of-returns-then-count-gt-MOST_ITEMS : goal.items_of-returns-then-count-gt-MOST_ITEMS
unfolding items_at
items_of-returns-then-count-gt-MOST_ITEMS t c = search rules
