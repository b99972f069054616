-- What INFO says: the sections of its port, and behind them that of the Sentinel.
use Rattle.std.specs.Prelude.{List, ℕ, codes}
use Rattle.resp2.specs.Commands.{word}
use Rattle.resp2.specs.Framing.Frame.{Frame, bulk}
use Rattle.client_commands.specs.declared.port_facts.Figures.{Figures}
use Rattle.client_commands.specs.Courtesies.{words_of, after_first}
use Rattle.client_commands.specs.Sections.{is_told, port_sections, with_section}

-- the sections that these words ask for, where this is the Sentinel's
unfoldable pub info_text : List (List ℕ) → Figures → (section : List ℕ) → List ℕ
info_text words figures section = with_section (port_sections words figures) (is_told (codes "sentinel") words) section

-- The answer to INFO, where its port counts so and the Sentinel has this section: a bulk string, and else of no bytes
abbrev pub info : Figures → (value section : Frame) → Frame
info figures value section = bulk (info_text (after_first (words_of value)) figures (word section))
