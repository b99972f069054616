use Rattle.std.proofs.Common.{Some, Ok}
use Rattle.resp2.proofs.Found.{found_open, asks_found, asks_fewer}
use Rattle.resp2.proofs.command_stream.next_common.Goals as goal

pub skip-requires-clause-open : goal.skip-requires-clause-open
skip-requires-clause-open c = found_open c.args.frames.now _ _ (rw c.held.ensures at c.in-Some-Ok-default.ensures.found)

pub returns-in-Some-Ok-default-clause-taken : goal.returns-in-Some-Ok-default-clause-taken
returns-in-Some-Ok-default-clause-taken c =
    let found = rw (c.held.ensures, c.in-Some-Ok-default.field-0-0-is) at c.in-Some-Ok-default.ensures.found in
    asks_found c.args.frames.now c.skip.new.self (Ok c.in-Some-Ok-default.command) c.in-Some-Ok-default.count (found_open c.args.frames.now _ _ found) found c.skip.ensures

pub returns-in-Some-Ok-default-clause-fewer : goal.returns-in-Some-Ok-default-clause-fewer
returns-in-Some-Ok-default-clause-fewer c =
    let found = rw (c.held.ensures, c.in-Some-Ok-default.field-0-0-is) at c.in-Some-Ok-default.ensures.found in
    asks_fewer c.args.frames.now c.skip.new.self (Ok (Some (Ok c.in-Some-Ok-default.command)))
    (asks_found c.args.frames.now c.skip.new.self (Ok c.in-Some-Ok-default.command) c.in-Some-Ok-default.count (found_open c.args.frames.now _ _ found) found c.skip.ensures)
