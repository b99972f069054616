-- What an answer of a reader says of the value that stands at the front.
use Rattle.std.proofs.Common.{◌≡◌, ℕ, List, ◌++◌, Option, Some, None, Result, Ok, Err, refl, sym, ap, ◌∙◌}
use Rattle.std.specs.Prelude.{IfOk, IfSome, MatchResult, MatchOption}
use Rattle.resp2.specs.declared.framing.fault.FrameFault.{FrameFault}
use Rattle.resp2.specs.declared.framing.fault.FrameFault.TheVariants.{BadKind, BadLength, BadNumber, MissingEnd, TooLong, TooDeep, TooMany, NoMemory}
use Rattle.resp2.specs.declared.framing.fault.Unread.{Unread}
use Rattle.resp2.specs.declared.framing.fault.Unread.TheVariants.{NeedsMore, Faulty}
use Rattle.resp2.specs.declared.framing.value.Value.{Value}
use Rattle.resp2.specs.Framing.Frame.{Frame, view, spelling, IsFrame}
use Rattle.resp2.specs.Framing.Reading.{frame_at}
use Rattle.resp2.specs.Framing.Stream.{Held, reading, ended, Answers}
use Rattle.resp2.proofs.FramingLemmas.Steps.{ok_is}
use Rattle.resp2.proofs.FramingLemmas.Window.{frame_found, frame_again}

pub answers_found : (held : Held) (answer : Result (Option Value) FrameFault) (after : Held) → Answers view held answer after
    → IfOk answer (λ given. IfSome given (λ value. (rest : List ℕ) × IsFrame (view value) × (held ≡ reading (spelling (view value) ++ rest)) × (after ≡ reading rest)))
answers_found (reading bytes) (Ok (Some v)) after h = let a = frame_found bytes (view v, h.0) h.1 in (h.0, a.frame, ap reading a.parts, h.2)
answers_found (reading bytes) (Ok None) after h = tt
answers_found (reading bytes) (Err f) after h = tt
answers_found (ended fault) (Ok given) after h = absurd (let e = h.0 in cc)
answers_found (ended fault) (Err f) after h = tt

-- a frame at the front, where something else was answered
contradicts : (bytes : List ℕ) (u : Unread) (f : Frame) (rest : List ℕ) → frame_at bytes ≡ Err u → IsFrame f → reading bytes ≡ reading (spelling f ++ rest) → ⊥
contradicts bytes u f rest e frame front =
    let same : bytes ≡ spelling f ++ rest = cc in
    let d = sym e ∙ ap frame_at same ∙ frame_again f rest frame in
    cc

pub answers_only : (held : Held) (answer : Result (Option Value) FrameFault) (after : Held) (f : Frame) (rest : List ℕ) → Answers view held answer after → IsFrame f →
    held ≡ reading (spelling f ++ rest)
    → MatchResult answer (λ given. MatchOption given ⊥ (λ value. (view value ≡ f) × (after ≡ reading rest))) (λ fault. fault ≡ NoMemory)
answers_only (reading bytes) (Ok (Some v)) after f rest h frame front =
    let same : bytes ≡ spelling f ++ rest = cc in
    let both = ok_is (view v, h.0) (f, rest) (sym h.1 ∙ ap frame_at same ∙ frame_again f rest frame) in
    (ap (λ (z : Frame × List ℕ). z.0) both, h.2 ∙ ap (λ (z : Frame × List ℕ). reading z.1) both)
answers_only (reading bytes) (Ok None) after f rest h frame front = contradicts bytes NeedsMore f rest h.0 frame front
answers_only (reading bytes) (Err NoMemory) after f rest h frame front = refl
answers_only (reading bytes) (Err BadKind) after f rest h frame front = absurd (contradicts bytes (Faulty BadKind) f rest h.0 frame front)
answers_only (reading bytes) (Err BadLength) after f rest h frame front = absurd (contradicts bytes (Faulty BadLength) f rest h.0 frame front)
answers_only (reading bytes) (Err BadNumber) after f rest h frame front = absurd (contradicts bytes (Faulty BadNumber) f rest h.0 frame front)
answers_only (reading bytes) (Err MissingEnd) after f rest h frame front = absurd (contradicts bytes (Faulty MissingEnd) f rest h.0 frame front)
answers_only (reading bytes) (Err TooLong) after f rest h frame front = absurd (contradicts bytes (Faulty TooLong) f rest h.0 frame front)
answers_only (reading bytes) (Err TooDeep) after f rest h frame front = absurd (contradicts bytes (Faulty TooDeep) f rest h.0 frame front)
answers_only (reading bytes) (Err TooMany) after f rest h frame front = absurd (contradicts bytes (Faulty TooMany) f rest h.0 frame front)
answers_only (ended fault) answer after f rest h frame front = absurd cc
