use Rattle.std.proofs.Common.{◌∙◌, sym, arith}
use Rattle.links.proofs.SessionsLemmas.Counts.{not_two}
use Rattle.links.proofs.sessions.replies.number_in.Goals as goal

pub returns : goal.returns
returns c = not_two c.args.name.now c.loop-rest.rest.now (omega (arith, c.in_default.len_below)) ∙ sym c.loop-rest.invariant
