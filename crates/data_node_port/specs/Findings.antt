-- What is found at the front of the bytes, within one call.
use Rattle.std.specs.Prelude.{ℕ, ◌+◌, List, [], take, drop}
use Rattle.resp2.specs.Framing.Reading.{frame_at}
use Rattle.data_node_port.specs.declared.finding.Found.{Found}
use Rattle.data_node_port.specs.declared.finding.Found.TheVariants.{Words, Waits, Broken}
use Rattle.data_node_port.specs.declared.finding.Front.{Front}
use Rattle.data_node_port.specs.declared.finding.Front.TheVariants as fronts
use Rattle.data_node_port.specs.declared.finding.Line.{Line}
use Rattle.data_node_port.specs.declared.finding.Line.TheVariants as ends
use Rattle.data_node_port.specs.Readings.{Turn, asks, waits, broken, turn_of_frame, inline_words, inline_at}

-- what was found, with the bytes that are left after it
abbrev pub found_turn : Found → (rest : List ℕ) → Turn
found_turn (Words words) rest = asks words.items rest
found_turn Waits rest = waits
found_turn Broken rest = broken

abbrev pub array_at : List ℕ → Turn
array_at bytes = turn_of_frame (frame_at bytes)

-- what stands at the front, where a line begins there that goes on so
abbrev pub line_turn : Line → List ℕ → Turn
line_turn (ends.Ends n) bytes = asks (inline_words [] (take n bytes)) (drop (n + 1) bytes)
line_turn ends.Waits bytes = waits
line_turn ends.TooLong bytes = broken

-- the same by what the first byte tells
abbrev pub front_turn : Front → List ℕ → Turn
front_turn fronts.Nothing bytes = waits
front_turn fronts.Array bytes = array_at bytes
front_turn fronts.Line bytes = inline_at bytes
