-- Whoever counts itself elected meets the model's condition of a win.
use Rattle.std.proofs.Common.{sym, ◌∙◌, inl, inr, refl}
use Rattle.ballot_law.specs.Ballots.{HasVoted}
use Rattle.ballot_law.specs.Rosters.{size, need, id_of}
use Rattle.ballot_law.specs.VotesHeard.{hearing_of}
use Rattle.ballot_law.specs.Wins.{ElectedMayWin}
use Rattle.ballot_law.proofs.CountedVotes.{AtLeast-elected}

pub elected_may_win : ElectedMayWin
elected_may_win roster i m epoch parts heard book lt are_heard none book_of elected =
    AtLeast-elected
    (HasVoted roster i parts m epoch)
    heard
    book
    (size roster)
    i
    epoch
    (id_of roster i)
    (need roster m)
    lt
    none
    (λ voter heard_so. inl (are_heard (hearing_of voter epoch (id_of roster i)) heard_so))
    (λ voted leader. inr (refl, sym book_of.voted ∙ voted, sym book_of.leader ∙ leader))
    elected
