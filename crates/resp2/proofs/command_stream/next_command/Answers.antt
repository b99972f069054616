use Rattle.std.proofs.Common.{Some, Ok}
use Rattle.resp2.proofs.Found.{found_open, asks_found, asks_none, asks_fault, asks_fewer}
use Rattle.resp2.proofs.command_stream.next_command.Goals as goal

pub skip-requires-clause-open : goal.skip-requires-clause-open
skip-requires-clause-open c = found_open c.args.frames.now _ _ (rw c.held.ensures at c.in-Some.ensures.found)

pub returns-in-Some-clause-exact : goal.returns-in-Some-clause-exact
returns-in-Some-clause-exact c =
    let found = rw c.held.ensures at c.in-Some.ensures.found in
    asks_found c.args.frames.now c.skip.new.self c.in-Some.asked c.in-Some.count (found_open c.args.frames.now _ _ found) found c.skip.ensures

pub returns-in-Some-clause-fewer : goal.returns-in-Some-clause-fewer
returns-in-Some-clause-fewer c =
    let found = rw c.held.ensures at c.in-Some.ensures.found in
    asks_fewer c.args.frames.now c.skip.new.self (Ok (Some c.in-Some.asked))
    (asks_found c.args.frames.now c.skip.new.self c.in-Some.asked c.in-Some.count (found_open c.args.frames.now _ _ found) found c.skip.ensures)

pub returns-in-Ok-None-clause-exact : goal.returns-in-Ok-None-clause-exact
returns-in-Ok-None-clause-exact c = asks_none _ _ (rw c.in-Ok-None.field-0-is at c.in-Ok-None.ensures.exact)

pub returns-in-Err-clause-exact : goal.returns-in-Err-clause-exact
returns-in-Err-clause-exact c = asks_fault _ _ c.in-Err.fault c.in-Err.ensures.exact
