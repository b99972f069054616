use Rattle.std.proofs.Common.{refl}
use Rattle.vote_book.proofs.own_vote.VoteBook.raise.Goals as goal

pub returns : goal.returns
returns c = rw (← c.self.view_is, c.max-self-inside.ensures) refl
