-- What a reader holds: fewer bytes with each value that is given.
use Rattle.std.proofs.Common.{◌≡◌, ◌<◌, ◌++◌, length, ap, arith, Option, Some, None, Result, Ok, Err}
use Rattle.std.specs.Prelude.{IfOk, IfSome}
use Rattle.std.proofs.lemmas.List.{length-append}
use Rattle.resp2.specs.declared.framing.fault.FrameFault.{FrameFault}
use Rattle.resp2.specs.declared.framing.value.Value.{Value}
use Rattle.resp2.specs.Framing.Frame.{view, spelling}
use Rattle.resp2.specs.Framing.Stream.{Held, reading, ended, held_size, Answers}
use Rattle.resp2.proofs.FramingLemmas.Streams.{read_is_spelled}
use Rattle.resp2.proofs.FramingLemmas.Passing.{spelled_some}

pub fewer_held : (before after : Held) (answer : Result (Option Value) FrameFault) → Answers view before answer after
    → IfOk answer (λ given. IfSome given (λ value. held_size after < held_size before))
fewer_held (reading bytes) after (Ok (Some v)) h =
    let text : bytes ≡ spelling (view v) ++ h.0 = (read_is_spelled bytes (view v) h.0 h.1).0 in
    let now : held_size after ≡ length h.0 = ap held_size h.2 in
    omega (arith, now, ap length text, length-append (spelling (view v)) h.0, spelled_some (view v))
fewer_held (reading bytes) after (Ok None) h = tt
fewer_held (reading bytes) after (Err f) h = tt
fewer_held (ended f) after (Ok given) h = absurd (let d = h.0 in cc)
fewer_held (ended f) after (Err g) h = tt
