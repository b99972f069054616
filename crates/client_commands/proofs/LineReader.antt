-- What a reader of a stream with lines answers.
use Rattle.std.proofs.Common.{◌≡◌, ◌∙◌, ℕ, Bool, true, false, List, drop, Option, Some, None, Result, Ok, Err, refl, sym, true≢false}
use Rattle.std.specs.Prelude.{IfSome}
use Rattle.ballot_law.specs.declared.commands.Command.{Command}
use Rattle.resp2.specs.Asked.{Asks, Found}
use Rattle.resp2.specs.declared.framing.fault.FrameFault.{FrameFault}
use Rattle.resp2.specs.declared.framing.fault.FrameFault.TheVariants.{BadKind, BadLength, BadNumber, MissingEnd, TooLong, TooDeep, TooMany, NoMemory}
use Rattle.resp2.specs.declared.framing.value.Value.{Value}
use Rattle.resp2.specs.Framing.Frame.{view, HasLines}
use Rattle.resp2.specs.Framing.Reading.{frame_at}
use Rattle.resp2.specs.Framing.Stream as streams
use Rattle.resp2.specs.Framing.Stream.{Held, reading, ended, bytes_in}
use Rattle.resp2.proofs.FramingLemmas.HaveLines.{plain_lines}
use Rattle.client_commands.specs.declared.lines.Line.TheVariants.{Whole, Open, Broken}
use Rattle.client_commands.specs.Attendants.{TakesCommon}
use Rattle.client_commands.specs.Lines.{begins_line, value_at, IsFound, Answers}
use Rattle.client_commands.proofs.LineStreams.{as_line, as_frame, line_is_faulty, value_is_frame}

-- where no line begins, a stream is read as in RESP2
answers_same : (before after : Held) (answer : Result (Option Value) FrameFault) → value_at (bytes_in before) ≡ frame_at (bytes_in before)
    → streams.Answers view before answer after → Answers view before answer after
answers_same (reading bytes) after (Ok (Some v)) same h = (h.0, same ∙ h.1, h.2)
answers_same (reading bytes) after (Ok None) same h = (same ∙ h.0, h.1)
answers_same (reading bytes) after (Err NoMemory) same h = h
answers_same (reading bytes) after (Err BadKind) same h = (same ∙ h.0, h.1)
answers_same (reading bytes) after (Err BadLength) same h = (same ∙ h.0, h.1)
answers_same (reading bytes) after (Err BadNumber) same h = (same ∙ h.0, h.1)
answers_same (reading bytes) after (Err MissingEnd) same h = (same ∙ h.0, h.1)
answers_same (reading bytes) after (Err TooLong) same h = (same ∙ h.0, h.1)
answers_same (reading bytes) after (Err TooDeep) same h = (same ∙ h.0, h.1)
answers_same (reading bytes) after (Err TooMany) same h = (same ∙ h.0, h.1)
answers_same (ended fault) after answer same h = h

pub frame_answered : (before after : Held) (answer : Result (Option Value) FrameFault) → begins_line (bytes_in before) ≡ false → streams.Answers view before answer after
    → Answers view before answer after
frame_answered before after answer begins h = answers_same before after answer (as_frame (bytes_in before) begins) h

-- a command that is read where it stands is the first value, where no line begins
common_taken : (before after : Held) (command : Command) → begins_line (bytes_in before) ≡ false → Asks before (Ok (Some (Ok command))) after
    → TakesCommon before after command
common_taken (reading bytes) after command begins h =
    record { bytes = bytes; value = h.0; rest = h.1.0; held_is = refl; found = as_frame bytes begins ∙ h.1.1; left = h.1.2; asked = sym h.2 }
common_taken (ended fault) after command begins h = absurd (let no = h.1.0 in cc)

pub maybe_common_taken : (before after : Held) (given : Option Command) → begins_line (bytes_in before) ≡ false
    → IfSome given (λ command. Asks before (Ok (Some (Ok command))) after) → IfSome given (TakesCommon before after)
maybe_common_taken before after (Some command) begins h = common_taken before after command begins h
maybe_common_taken before after None begins h = tt

-- so is one that stands at the front of bytes that aren't held: no line is read as one
found_taken : (bytes rest : List ℕ) (command : Command) (test : Bool) → begins_line bytes ≡ test → Found bytes (Ok command) rest
    → TakesCommon (reading bytes) (reading rest) command
found_taken bytes rest command true begins h = absurd (let no = sym h.1 ∙ line_is_faulty bytes begins in cc)
found_taken bytes rest command false begins h =
    record { bytes = bytes; value = h.0; rest = rest; held_is = refl; found = as_frame bytes begins ∙ h.1; left = refl; asked = sym h.2 }

pub common_found : (bytes rest : List ℕ) (command : Command) → Found bytes (Ok command) rest → TakesCommon (reading bytes) (reading rest) command
common_found bytes rest command h = found_taken bytes rest command (begins_line bytes) refl h

-- a line that is none is at fault in RESP2
pub broken_answered : (before after : Held) (answer : Result (Option Value) FrameFault) → begins_line (bytes_in before) ≡ true → IsFound Broken (bytes_in before)
    → streams.Answers view before answer after → Answers view before answer after
broken_answered before after answer begins found h =
    answers_same before after answer (as_line (bytes_in before) begins ∙ found ∙ sym (line_is_faulty (bytes_in before) begins)) h

pub whole_answered : (before after : Held) (value : Value) (size : ℕ) → begins_line (bytes_in before) ≡ true → IsFound (Whole value size) (bytes_in before)
    → after ≡ reading (drop size (bytes_in before)) → Answers view before (Ok (Some value)) after
whole_answered (reading bytes) after value size begins found is = (drop size bytes, as_line bytes begins ∙ found.2, is)
whole_answered (ended fault) after value size begins found is = absurd (true≢false (sym begins))

pub open_answered : (before : Held) → begins_line (bytes_in before) ≡ true → IsFound Open (bytes_in before) → Answers {V = Value} view before (Ok None) before
open_answered (reading bytes) begins found = (as_line bytes begins ∙ found, refl)
open_answered (ended fault) begins found = absurd (true≢false (sym begins))

pub whole_has_lines : (bytes : List ℕ) (value : Value) (size : ℕ) → begins_line bytes ≡ true → IsFound (Whole value size) bytes → HasLines (view value)
whole_has_lines bytes value size begins found = plain_lines (view value) (value_is_frame bytes (view value) (drop size bytes) (as_line bytes begins ∙ found.2)).plain
