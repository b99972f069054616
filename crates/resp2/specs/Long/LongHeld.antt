-- What a reader of long values holds.
use Rattle.std.specs.Prelude.{ℕ, ◌+◌, ◌-◌, List, [], ◌++◌, length, replicate, Option, Some, None}
use Rattle.resp2.specs.Framing.Stream.{Held, reading, ended, held_size}
use Rattle.resp2.specs.declared.long.long_bulk.LongBulk.{LongBulk}
use Rattle.resp2.specs.declared.long.long_reading.LongReading.{LongReading}
use Rattle.resp2.specs.Long.LongValues.{header}

-- the bytes that came and were not given yet, and how many of them are in memory
pub record LongStream : Type 0 where
  pub held : Held
  pub memory : ℕ

-- the first bytes of a text of which so many came, and zeros for those that were passed over
abbrev pub first_of : ℕ → List ℕ → List ℕ
first_of came kept = kept ++ replicate (came - length kept) 0

-- the bytes that came of a long bulk string
abbrev pub front_of : Option LongBulk → List ℕ
front_of None = []
front_of (Some bulk) = header bulk.size ++ first_of bulk.came bulk.kept.items

abbrev pub behind : List ℕ → Held → Held
behind front (reading bytes) = reading (front ++ bytes)
behind front (ended fault) = ended fault

-- the bytes that came and were not given yet, where what was passed over stands as zeros
abbrev pub held_in : LongReading → Held
held_in frames = behind (front_of frames.long) frames.frames

-- how many of them are in memory
abbrev pub kept_in : Option LongBulk → ℕ
kept_in None = 0
kept_in (Some bulk) = length bulk.kept.items

abbrev pub memory_in : LongReading → ℕ
memory_in frames = kept_in frames.long + held_size frames.frames
