use Rattle.std.proofs.Common.{◌≡◌, suc, ◌-◌, ◌<◌, length, refl, sym, ◌∙◌, arith}
use Rattle.std.proofs.lemmas.Result.{err_from_is_err_and}
use Rattle.resp2.specs.declared.framing.fault.Unread.TheVariants.{NeedsMore}
use Rattle.resp2.specs.declared.framing.fault.Stopped.TheVariants.{At}
use Rattle.resp2.specs.Framing.Frame.{view}
use Rattle.resp2.proofs.FramingLemmas.Steps.{fails_at}
use Rattle.resp2.proofs.FramingLemmas.Passing.{stands_inside, stands_behind, stands_waits, stands_in_line, item_gets_on}
use Rattle.resp2.proofs.framing.place.Place.pass.Goals as goal

pub returns-in-Some-clause-stands : goal.returns-in-Some-clause-stands
returns-in-Some-clause-stands c =
    let place = c.args.self.now in
    let h = c.in-Some.ensures in
    let some : place.left ≡ suc (place.left - 1) = omega arith in
    let room : length place.outer.items < 8 = omega arith in
    rw c.push.ensures.items
    (stands_inside c.args.bytes.now h.0 c.in-Some.after.now place.outer.items place.left (place.left - 1) place.at c.in-Some.count some (sym c.split_at.ensures.back ∙ h.1) room
    h.3 c.requires.stands)

pub returns-in_err-after-clause-waits : goal.returns-in_err-after-clause-waits
returns-in_err-after-clause-waits c = λ waits.
    let place = c.args.self.now in
    let p = err_from_is_err_and c.from_residual.result c.from_residual.ensures.1 in
    let some : place.left ≡ suc (place.left - 1) = omega arith in
    let same : c.in_err-after.field-0.0 ≡ At NeedsMore = let q = p.1 in let s = p.2 in cc in
    let read = fails_at _ c.in_err-after.field-0.0 NeedsMore NeedsMore c.in_err-after.ensures same refl in
    stands_waits c.args.bytes.now place.outer.items place.left (place.left - 1) place.at c.args.more NeedsMore some (rw (c.len-2.ensures.value, c.split_at.ensures.back) at read)
    c.requires.stands

pub overflow_sub-self-3 : goal.overflow_sub-self-3
overflow_sub-self-3 c =
    let place = c.args.self.now in
    let read = rw c.split_at.ensures.back at c.in_ok-after.ensures in
    let shorter = item_gets_on c.args.bytes.now c.in_ok-after.after.now (8 - c.len-2.result) place.at c.args.more (view c.in_ok-after.field-0-0) c.requires.short read
    c.requires.stands.0 in
    omega (arith, shorter)

pub returns-clause-stands : goal.returns-clause-stands
returns-clause-stands c =
    let place = c.args.self.now in
    let some : place.left ≡ suc (place.left - 1) = omega arith in
    let read = rw (c.len-2.ensures.value, c.split_at.ensures.back) at c.in_ok-after.ensures in
    stands_behind c.args.bytes.now c.in_ok-after.after.now place.outer.items place.left (place.left - 1) place.at c.args.more (view c.in_ok-after.field-0-0) some c.requires.short
    read c.requires.stands

pub returns-clause-less : goal.returns-clause-less
returns-clause-less c = λ goes.
    let place = c.args.self.now in
    let read = rw c.split_at.ensures.back at c.in_ok-after.ensures in
    let shorter = item_gets_on c.args.bytes.now c.in_ok-after.after.now (8 - c.len-2.result) place.at c.args.more (view c.in_ok-after.field-0-0) c.requires.short read
    c.requires.stands.0 in
    omega (arith, shorter)

pub returns-then-is_open_line-clause-waits : goal.returns-then-is_open_line-clause-waits
returns-then-is_open_line-clause-waits c = λ waits.
    let place = c.args.self.now in
    let some : place.left ≡ suc (place.left - 1) = omega arith in
    let room : length place.outer.items < 8 = omega arith in
    let line = rw c.split_at.ensures.back at (c.is_open_line.ensures c.if-is_open_line.true) in
    stands_in_line c.args.bytes.now place.outer.items place.left (place.left - 1) place.at c.args.more some room line c.requires.stands
