use Rattle.std.proofs.Common.{refl, sym, ap}
use Rattle.sentinel_state.proofs.NodesLemmas.MasterNames.{found_named}
use Rattle.sentinel_rules.specs.Answers.{named}
use Rattle.port_sessions.proofs.responder.master_named.Goals as goal

pub returns-in-Some-clause-value : goal.returns-in-Some-clause-value
returns-in-Some-clause-value g c =
    let plan = c.args.cell.now.start.plan in
    rw c.in-Some.is (rw c.roster-roster.ensures at (found_named _ c.roster-roster.result.now c.in-Some.name c.master_named.result refl c.is_made.ensures.names
    c.master_named.ensures.some c.master_named.ensures.none))

-- a question with no name names no master
pub returns-in-None-clause-value : goal.returns-in-None-clause-value
returns-in-None-clause-value g c = ap (named c.args.cell.now.start.plan) (sym c.in-None.is)
