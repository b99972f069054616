-- A frame's lines hold no CR or LF.
use Rattle.std.proofs.Common.{◌≡◌, ℕ, List, ◌++◌, Option, Some, None, Result, Ok, Err}
use Rattle.std.specs.Prelude.{IfOk, IfSome}
use Rattle.resp2.specs.declared.framing.fault.FrameFault.{FrameFault}
use Rattle.resp2.specs.declared.framing.value.Value.{Value}
use Rattle.resp2.specs.Framing.Frame.{Frame, FrameList, simple, fault, int, bulk, null_bulk, items, null_items, no_frames, frame, view, spelling, IsPlain, ArePlain, HasLines, HaveLines, IsFrame}
use Rattle.resp2.specs.Framing.Stream.{Held, reading}

mutual
  pub plain_lines : (f : Frame) → IsPlain f → HasLines f
  plain_lines (simple t) h = h
  plain_lines (fault t) h = h
  plain_lines (int n) h = tt
  plain_lines (bulk b) h = tt
  plain_lines null_bulk h = tt
  plain_lines (items fs) h = plain_lines_each fs h.1
  plain_lines null_items h = tt

  pub plain_lines_each : (fs : FrameList) → ArePlain fs → HaveLines fs
  plain_lines_each no_frames h = tt
  plain_lines_each (frame f fs) h = (plain_lines f h.0, plain_lines_each fs h.1)

pub given_lines : (held after : Held) (answer : Result (Option Value) FrameFault)
    → IfOk answer (λ given. IfSome given (λ value. (rest : List ℕ) × IsFrame (view value) × (held ≡ reading (spelling (view value) ++ rest)) × (after ≡ reading rest)))
    → IfOk answer (λ given. IfSome given (λ value. HasLines (view value)))
given_lines held after (Ok (Some v)) h = plain_lines (view v) h.1.plain
given_lines held after (Ok None) h = tt
given_lines held after (Err f) h = tt
