use Rattle.std.proofs.Common.{◌≡◌, ◌<◌, true, refl, arith}
use Rattle.std.specs.Prelude.{nat_lt}
use Rattle.std.proofs.lemmas.Bool.Decides.{nat_tests}
use Rattle.vote_book.proofs.own_vote.VoteBook.grants.Goals as goal

pub returns-then-self-epoch : goal.returns-then-self-epoch
returns-then-self-epoch c =
    let h : c.self.inside.voted < c.args.epoch = c.if-self-epoch.true in
    let newer : nat_lt c.self.inside.voted c.args.epoch ≡ true = grind (arith, nat_tests) in
    rw (← c.self.view_is, newer) refl
