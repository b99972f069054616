-- What an input puts out is gathered frame by frame, as far as there is room.
use Rattle.std.specs.Prelude.{List, [], ◌∷◌, ◌++◌}
use Rattle.bounded_list.specs.BoundedLists.{bounded}
use Rattle.sentinel_rules.specs.declared.frames.Frame.{Frame}
use Rattle.sentinel_rules.specs.declared.frames.TheConstants.{FRAMES_MAX}

-- one frame more, where there is room for it
abbrev pub pushed : List Frame → Frame → List Frame
pushed frames frame = bounded FRAMES_MAX (frames ++ frame ∷ [])

-- one after another
abbrev pub added : List Frame → List Frame → List Frame
added frames [] = frames
added frames (frame ∷ more) = added (pushed frames frame) more
