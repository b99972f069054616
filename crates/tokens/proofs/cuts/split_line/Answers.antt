use Rattle.ballot_law.proofs.CutLemmas.{line_here, line_last}
use Rattle.tokens.proofs.cuts.split_line.Goals as goal

pub returns-in-None-clause-lines : goal.returns-in-None-clause-lines
returns-in-None-clause-lines c =
    line_last c.args.bytes.now c.split_at.result.0.now c.split_at.result.1.now c.place_of.result c.requires
    c.place_of.ensures c.split_at.ensures.front c.split_at.ensures.back c.in-None.ensures.cases

pub returns-in-Some-clause-lines : goal.returns-in-Some-clause-lines
returns-in-Some-clause-lines c =
    line_here c.args.bytes.now c.split_at.result.0.now c.split_at.result.1.now c.in-Some.behind.now c.place_of.result c.in-Some.field-0-0.now c.requires
    c.place_of.ensures c.split_at.ensures.front c.split_at.ensures.back c.in-Some.ensures.cases.0
