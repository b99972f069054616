use Rattle.ballot_law.proofs.ElectedWins.{elected_may_win}
use Rattle.ballot_law.proofs.laws.law_elected_may_win.Goals as goal

pub returns : goal.returns
returns c = elected_may_win
