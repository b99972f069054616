-- The room of a rewritten file: as many bytes as a file may have, and one more, so that a text that is too long shows.
use Rattle.std.specs.Prelude.{ℕ, List}
use Rattle.bounded_list.specs.BoundedLists as lists
use Rattle.sentinel_conf.specs.declared.conf_text.TheConstants.{ROOM}

-- what the room holds of the text
abbrev pub bounded : List ℕ → List ℕ
bounded text = lists.bounded ROOM text
