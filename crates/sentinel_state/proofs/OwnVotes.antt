-- A request for a vote that isn't granted raises the current epoch at most.
use Rattle.std.proofs.Common.{◌≡◌, ℕ, List, Bool, true, false, Some, true≢false, ap, sym}
use Rattle.std.specs.Prelude.{max, if◌then◌else◌}
use Rattle.std.proofs.lemmas.List.{set-get_or}
use Rattle.ballot_law.specs.declared.addresses.RunId.{RunId}
use Rattle.ballot_law.specs.declared.cards.KeptMaster.{KeptMaster}
use Rattle.ballot_law.specs.Ballots.{no_kept}
use Rattle.ballot_law.specs.OwnVotes.{Book, grants, raised, asked}
use Rattle.sentinel_rules.specs.Plans.{Plan}
use Rattle.sentinel_rules.specs.States.{Core, with_current}
use Rattle.sentinel_rules.specs.Votes.{book_of, with_book, mark_for, requested}

-- the vote that is kept, kept once more
kept_again : (core : Core) (m current : ℕ) → with_current core current ≡ with_book core m (record (book_of core m) { current = current })
kept_again core m current =
    ap (λ (masters : List KeptMaster). record core { kept = record { current = current; masters = masters } }) (sym (set-get_or core.kept.masters m no_kept))

pub refused : (plan : Plan) (m now epoch : ℕ) (candidate : RunId) (core : Core) → grants (book_of core m) epoch ≡ false
    → with_current core (asked (book_of core m) epoch candidate).current ≡ requested plan m now epoch candidate core
refused plan m now epoch candidate core held = at (grants (book_of core m) epoch) held where
  book_at : Bool → Book
  book_at g = if g then record { current = epoch; voted = epoch; leader = Some candidate } else raised (book_of core m) epoch

  at : (g : Bool) → g ≡ false
      → with_current core (book_at g).current ≡ (if g then mark_for plan m now candidate (with_book core m (book_at g)) else with_book core m (book_at g))
  at true is = absurd (true≢false is)
  at false is = kept_again core m (max core.kept.current epoch)
