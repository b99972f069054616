use Rattle.ballot_law.proofs.clocks.clock_of.Goals as goal

pub returns : goal.returns
returns c = c.min.ensures
