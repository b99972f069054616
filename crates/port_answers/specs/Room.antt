-- The room of an answer's text: as many bytes as a value of the port may have; and that of a section of INFO.
use Rattle.std.specs.Prelude.{ℕ, List}
use Rattle.ballot_law.specs.declared.messages.TheConstants.{ANSWER_MAX}
use Rattle.bounded_list.specs.BoundedLists as lists
use Rattle.port_answers.specs.declared.info_lines.TheConstants.{SECTION_MAX}

-- what the room holds of the text
abbrev pub bounded : List ℕ → List ℕ
bounded text = lists.bounded ANSWER_MAX text

abbrev pub within_section : List ℕ → List ℕ
within_section text = lists.bounded SECTION_MAX text
