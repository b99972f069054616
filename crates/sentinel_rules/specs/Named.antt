-- The hellos and the notes that an input puts out are of masters of the roster.
use Rattle.std.specs.Prelude.{ℕ, ◌<◌}
use Rattle.std.specs.List.{AllByRecursion}
use Rattle.ballot_law.specs.declared.events.Event.{Event}
use Rattle.sentinel_rules.specs.declared.frames.Frame.{Frame}
use Rattle.sentinel_rules.specs.declared.frames.Frame.TheVariants.{PingTo, InfoTo, HelloTo, AskTo, PromoteTo, HandOverTo, FollowTo, NoteOf}
use Rattle.sentinel_rules.specs.Plans.{Plan, master_count}
use Rattle.sentinel_rules.specs.States.{Core}
use Rattle.sentinel_rules.specs.Takes.{part_of}

-- a hello names a master of the roster, and so does a note
abbrev pub IsNamed : Plan → Frame → Type 0
IsNamed plan (HelloTo target m) = m < master_count plan
IsNamed plan (PingTo target) = Unit {0}
IsNamed plan (InfoTo target) = Unit {0}
IsNamed plan (AskTo place m candidate) = Unit {0}
IsNamed plan (PromoteTo target) = Unit {0}
IsNamed plan (HandOverTo target heir) = Unit {0}
IsNamed plan (FollowTo target m) = Unit {0}
IsNamed plan (NoteOf m old) = m < master_count plan

abbrev pub HellosNameMasters : Type 0
HellosNameMasters = (plan : Plan) (now : ℕ) (event : Event) (core : Core) → AllByRecursion (IsNamed plan) (part_of plan now event core).frames
