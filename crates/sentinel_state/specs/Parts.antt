-- A part of an input, done by a Sentinel at work.
use Rattle.sentinel_rules.specs.Parts.{Part}
use Rattle.sentinel_state.specs.declared.states.State.{State}
use Rattle.sentinel_state.specs.Nodes.Room.{added}

-- what is kept after the part, and what it puts out behind what was put out before
abbrev pub with_part : State → Part → State
with_part state part = record state { core = part.core; frames = added state.frames part.frames }
