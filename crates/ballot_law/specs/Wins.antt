-- How the count of the votes heard meets the model's condition of a win.
use Rattle.std.specs.Prelude.{◌≡◌, ℕ, ◌<◌, List, Contains}
use Rattle.ballot_law.specs.Ballots.{Parts, HasVoted, open_of, voted_of, candidate_of, vote}
use Rattle.ballot_law.specs.OwnVotes.{Book}
use Rattle.ballot_law.specs.Rosters.{Roster, AtLeast, size, need, id_of}
use Rattle.ballot_law.specs.VotesHeard.{Hearing, HearsNone, IsElectedIn, latest}

-- each vote in the list is one that the model's Sentinel heard for the master
abbrev pub AreHeard : Parts → (m : ℕ) → List Hearing → Type 0
AreHeard parts m heard =
    (hearing : Hearing) → Contains heard hearing → Contains (open_of parts m).heard (vote hearing.voter m hearing.vote.epoch hearing.vote.candidate)

-- the book holds the own vote for the master
pub record IsBookOf (parts : Parts) (m : ℕ) (book : Book) : Type 0 where
  pub voted : book.voted ≡ voted_of parts.kept m
  pub leader : book.leader ≡ candidate_of parts m

-- a Sentinel that counts itself elected may win: so many different Sentinels voted for it in the epoch
abbrev pub ElectedMayWin : Type 0
ElectedMayWin =
    (roster : Roster) (i m epoch : ℕ) (parts : Parts) (heard : List Hearing) (book : Book) →
    i < size roster →
    AreHeard parts m heard →
    HearsNone heard i →
    IsBookOf parts m book →
    IsElectedIn (latest heard) book (size roster) epoch (id_of roster i) (need roster m) →
    AtLeast (HasVoted roster i parts m epoch) (size roster) (need roster m)
