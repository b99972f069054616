-- The change of the input in flight: what it overwrote of what the file holds.
use Rattle.std.specs.Prelude.{ℕ, Option, Some, None, List, length, nat_lt, slice_set, if◌then◌else◌}
use Rattle.ballot_law.specs.declared.cards.Kept.{Kept}
use Rattle.ballot_law.specs.declared.cards.KeptMaster.{KeptMaster}
use Rattle.ballot_law.specs.Ballots.{kept_of}
use Rattle.sentinel_core.specs.declared.undo.Undo.{Undo}
use Rattle.sentinel_core.specs.declared.undo.FormerEntry.{FormerEntry}

-- what is kept of a master, where there is such a master
abbrev pub entry_of : Kept → Option ℕ → Option FormerEntry
entry_of kept None = None
entry_of kept (Some m) = if nat_lt m (length kept.masters) then Some (record { master = m; entry = kept_of kept m }) else None

-- what an input may overwrite that concerns this master
abbrev pub former_of : Kept → Option ℕ → Undo
former_of kept master = record { current = kept.current; entry = entry_of kept master }

abbrev pub masters_before : List KeptMaster → Option FormerEntry → List KeptMaster
masters_before masters None = masters
masters_before masters (Some former) = slice_set masters former.master former.entry

-- what is kept, with the former epoch and the former entry put back
abbrev pub put_back : Kept → Undo → Kept
put_back kept former = record { current = former.current; masters = masters_before kept.masters former.entry }
