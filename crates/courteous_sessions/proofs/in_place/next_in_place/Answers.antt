use Rattle.client_commands.proofs.LineReader.{common_found}
use Rattle.courteous_sessions.proofs.in_place.next_in_place.Goals as goal

pub returns-else-may_store-clause-taken : goal.returns-else-may_store-clause-taken
returns-else-may_store-clause-taken c = common_found c.args.bytes.now c.in-Some.rest.now c.in-Some.command c.in-Some.ensures.found
