-- The directives that a Redis knows.
use Rattle.std.specs.Prelude.{ℕ, Bool, List}
use Rattle.std.specs.List.{list_any}
use Rattle.ballot_law.specs.Cuts.{lines}
use Rattle.ballot_law.specs.Orders.{same_bytes}
use Rattle.ballot_law.specs.Words.{lower}
use Rattle.sentinel_conf.specs.declared.watch.known_directives.TheConstants.{SENTINEL}

-- those behind `sentinel`, in lower case
abbrev pub sentinel_names : List (List ℕ)
sentinel_names = lines SENTINEL.now

abbrev pub is_sentinel_directive : List ℕ → Bool
is_sentinel_directive word = list_any (same_bytes (lower word)) sentinel_names
