-- What is read of a value that may be long.
use Rattle.std.specs.Prelude.{◌≡◌, ◌↔◌, ℕ, List, ◌++◌, Ok}
use Rattle.resp2.specs.Framing.Frame.{Frame, spelling}
use Rattle.resp2.specs.Long.LongValues.{told_value, IsLongFrame, long_frame_at, as_held}

-- what is read of the front of a stream is what its first value tells, and such a value is read, whatever follows it
abbrev pub ReadsWhatIsSpelled : Type 0
ReadsWhatIsSpelled =
    (bytes : List ℕ) (told : Frame) (rest : List ℕ)
    → (long_frame_at bytes ≡ Ok (told, rest)) ↔ ((value : Frame) × (bytes ≡ spelling value ++ rest) × IsLongFrame value × (told ≡ told_value value))

-- what was passed over changes nothing of what is read with the next piece
abbrev pub PassesOver : Type 0
PassesOver = (bytes piece : List ℕ) → long_frame_at (as_held bytes ++ piece) ≡ long_frame_at (bytes ++ piece)
