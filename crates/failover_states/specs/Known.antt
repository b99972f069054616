-- What a turn of a failover looks at.
use Rattle.std.specs.Prelude.{ℕ, Bool, false, Option, List, slice_index_or}
use Rattle.ballot_law.specs.declared.addresses.Addr.{Addr}
use Rattle.ballot_law.specs.declared.addresses.RunId.{RunId}
use Rattle.ballot_law.specs.Clocks.{clock}
use Rattle.failover_states.specs.declared.turns.Facts.{Facts}

pub record Known : Type 0 where
  pub now : ℕ
  pub random : ℕ
  pub odown : Bool
  pub current : ℕ
  pub voted : ℕ
  pub own : Option RunId
  pub me : RunId
  pub need : ℕ
  pub pick : RunId
  pub count : ℕ
  pub best : Option (ℕ × Addr)
  pub card_place : ℕ
  pub down : List Bool
  pub timeout : ℕ
  pub parallel_syncs : ℕ

-- the facts, with the reading as it counts
abbrev pub known : Facts → Known
known facts =
    record {
      now = clock facts.now;
      random = facts.random;
      odown = facts.odown;
      current = facts.current;
      voted = facts.voted;
      own = facts.own;
      me = facts.me;
      need = facts.need;
      pick = facts.pick;
      count = facts.count;
      best = facts.best;
      card_place = facts.card_place;
      down = facts.down.now;
      timeout = facts.timeout;
      parallel_syncs = facts.parallel_syncs;
    }

-- the node at this place is subjectively down
abbrev pub is_down : Known → (place : ℕ) → Bool
is_down k place = slice_index_or k.down place false
