use Rattle.client_commands.proofs.LineLemmas.{place_is_size}
use Rattle.client_commands.proofs.lines.line_size.Goals as goal

pub returns-clause-size : goal.returns-clause-size
returns-clause-size c = place_is_size c.args.bytes.now c.lf_place.result c.lf_place.ensures
