use Rattle.std.proofs.Common.{◌≡◌, ℕ, Option, length, ap, sym, subst}
use mathlib.Core.Path.{fun_ext}
use Rattle.ballot_law.specs.declared.addresses.RunId.{RunId}
use Rattle.ballot_law.specs.declared.hearings.HeardVote.{HeardVote}
use Rattle.ballot_law.specs.VotesHeard.{latest, pick_in, kept_at, IsPick}
use Rattle.vote_book.proofs.Picks.{pick_most}
use Rattle.vote_book.proofs.votes_heard.Heard.pick.Goals as goal

pub returns-clause-pick : goal.returns-clause-pick
returns-clause-pick c heard stands =
    let kept = c.args.self.now in
    let same : kept_at kept ≡ latest heard = fun_ext stands in
    let picked = ap (λ (votes : ℕ → Option HeardVote). pick_in votes (length kept) c.args.epoch c.args.me) same in
    cc picked

pub returns-clause-most : goal.returns-clause-most
returns-clause-most c =
    let votes = kept_at c.args.self.now in
    let n = length c.args.self.now in
    let picked : c.pick_among.result ≡ pick_in votes n c.args.epoch c.args.me = cc in
    subst (λ (pick : RunId). IsPick votes n c.args.epoch c.args.me pick) (sym picked) (pick_most votes n c.args.epoch c.args.me)
