-- How much one input puts out at most.
use Rattle.std.specs.Prelude.{ℕ, ◌≤◌, length}
use Rattle.ballot_law.specs.declared.events.Event.{Event}
use Rattle.ballot_law.specs.Clocks.{clock}
use Rattle.sentinel_rules.specs.declared.frames.TheConstants.{FRAMES_MAX}
use Rattle.sentinel_rules.specs.Plans.{Plan}
use Rattle.sentinel_rules.specs.States.{Core}
use Rattle.sentinel_rules.specs.Takes.{next, part_of, cleared}
use Rattle.sentinel_rules.specs.Facts.{IsSoundPlan, IsSound}
use Rattle.ballot_law.specs.Limits.{IsWithinEvent}

-- a sound core stays sound, and what is put out fits the room
abbrev pub InputsKeepFew : Type 0
InputsKeepFew =
    (plan : Plan) (core : Core) (now : ℕ) (event : Event) →
    IsSoundPlan plan →
    IsSound plan core →
    IsWithinEvent event →
    IsSound plan (next plan core now event).core × (length (part_of plan (clock now) event (cleared core)).frames ≤ FRAMES_MAX)
