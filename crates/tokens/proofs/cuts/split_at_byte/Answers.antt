use Rattle.ballot_law.proofs.CutLemmas.{cut_here, cut_nowhere}
use Rattle.tokens.proofs.cuts.split_at_byte.Goals as goal

pub split_at-requires : goal.split_at-requires
split_at-requires c = c.place_of.ensures.within

pub returns-in_err-behind : goal.returns-in_err-behind
returns-in_err-behind c = rw c.from_residual.ensures (cut_nowhere c.args.byte c.args.bytes.now c.split_at.result.1.now c.place_of.result c.place_of.ensures c.split_at.ensures.back
    c.in_err-behind.ensures.cases)

pub returns : goal.returns
returns c =
    cut_here c.args.byte c.args.bytes.now c.split_at.result.0.now c.split_at.result.1.now c.in_ok-behind.behind.now c.place_of.result c.in_ok-behind.field-0-0.now
    c.place_of.ensures c.split_at.ensures.front c.split_at.ensures.back c.in_ok-behind.ensures.cases.0
