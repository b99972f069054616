-- What a vote does to a Sentinel.
use Rattle.std.specs.Prelude.{ℕ, slice_set, if◌then◌else◌}
use Rattle.ballot_law.specs.declared.addresses.RunId.{RunId}
use Rattle.ballot_law.specs.Ballots.{kept_of, voted_of}
use Rattle.ballot_law.specs.Orders.{same_id}
use Rattle.ballot_law.specs.OwnVotes.{Book, grants, asked}
use Rattle.sentinel_rules.specs.Plans.{Plan, me}
use Rattle.sentinel_rules.specs.States.{Core, failover_of, with_failover}
use Rattle.sentinel_rules.specs.Profiles.{marked_at, marked}

-- the own vote for a master, which the file is to hold
abbrev pub book_of : Core → (m : ℕ) → Book
book_of core m = record { current = core.kept.current; voted = voted_of core.kept m; leader = (kept_of core.kept m).candidate }

abbrev pub with_book : Core → (m : ℕ) → Book → Core
with_book core m book =
    record core {
      kept =
          record {
            current = book.current;
            masters = slice_set core.kept.masters m (record (kept_of core.kept m) { voted = book.voted; candidate = book.leader });
          };
    }

-- a vote for another candidate counts as a start, so that the own campaign waits
abbrev pub mark_for : Plan → (m now : ℕ) → RunId → Core → Core
mark_for plan m now candidate core =
    if same_id candidate (me plan) then core else with_failover core m (marked (marked_at plan core m now) (failover_of core m))

-- a request for a vote: the vote is given, or the current epoch raised at most
abbrev pub requested : Plan → (m now epoch : ℕ) → RunId → Core → Core
requested plan m now epoch candidate core =
    let asked_core = with_book core m (asked (book_of core m) epoch candidate) in
    if grants (book_of core m) epoch then mark_for plan m now candidate asked_core else asked_core
