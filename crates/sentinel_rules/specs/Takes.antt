-- One input: what a Sentinel keeps after it, and what it puts out.
use Rattle.std.specs.Prelude.{ℕ, None, List, [], ◌∷◌, map}
use Rattle.ballot_law.specs.declared.events.Event.{Event}
use Rattle.ballot_law.specs.declared.events.Event.TheVariants.{Tick, Command as Commanded, Answered as AnswerCame, Pinged, InfoRead, HelloRead, Disconnected, Refused, Become, Handed}
use Rattle.ballot_law.specs.declared.messages.NodeName.{NodeName}
use Rattle.ballot_law.specs.declared.messages.Output.{Output}
use Rattle.ballot_law.specs.Clocks.{clock}
use Rattle.node_texts.specs.Hellos.{hello_of}
use Rattle.node_texts.specs.Infos.{info_of}
use Rattle.node_texts.specs.Announced.{is_announced}
use Rattle.sentinel_rules.specs.Plans.{Plan}
use Rattle.sentinel_rules.specs.States.{Core}
use Rattle.sentinel_rules.specs.Parts.{Part, quiet, output_of, send}
use Rattle.sentinel_rules.specs.Ticks.{tick}
use Rattle.sentinel_rules.specs.News.{answered, pinged, disconnected, refusal_heard, info_read, hello_read}
use Rattle.sentinel_rules.specs.Answers.{Answered, commanded}

-- the part of each event but a command; what is meant for data nodes and clients changes nothing
abbrev pub part_of : Plan → (now : ℕ) → Event → Core → Part
part_of plan now (Tick m random) core = tick plan m random now core
part_of plan now (Commanded sender command) core = quiet core
part_of plan now (AnswerCame voter m addr down leader epoch) core = quiet (answered plan voter m now addr down leader epoch core)
part_of plan now (Pinged node reply) core = quiet (pinged plan node now reply core)
part_of plan now (InfoRead node text) core = info_read plan node now (info_of text) (is_announced text) core
part_of plan now (HelloRead text) core = hello_read plan now (hello_of text) core
part_of plan now (Disconnected node) core = quiet (disconnected plan node core)
part_of plan now (Refused node) core = quiet (refusal_heard plan node core)
part_of plan now (Become priority offset link_down) core = quiet core
part_of plan now (Handed message) core = quiet core

-- the core after the input, and the outputs in their order
pub record Next : Type 0 where
  pub core : Core
  pub outputs : List Output

-- the outputs show what is kept at the end
abbrev pub shown_after : Plan → Part → Next
shown_after plan part = record { core = part.core; outputs = map (output_of plan part.core) part.frames }

-- a command has one answer, to its sender
abbrev pub answer_to : Plan → (sender : NodeName) → Answered → Next
answer_to plan sender done = record { core = done.core; outputs = send plan sender done.body ∷ [] }

-- the election of the input before is over
abbrev pub cleared : Core → Core
cleared core = record core { won = None }

abbrev pub next_at : Plan → (now : ℕ) → Event → Core → Next
next_at plan now (Commanded sender command) core = answer_to plan sender (commanded plan now command core)
next_at plan now event core = shown_after plan (part_of plan now event core)

-- one input, at a reading of the clock
abbrev pub next : Plan → Core → (now : ℕ) → Event → Next
next plan core now event = next_at plan (clock now) event (cleared core)
