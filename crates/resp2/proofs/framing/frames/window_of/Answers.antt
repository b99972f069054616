use Rattle.std.proofs.Common.{◌≡◌, length, min, arith}
use Rattle.std.proofs.lemmas.List.{take_min}
use Rattle.resp2.proofs.framing.frames.window_of.Goals as goal

pub returns-clause-value : goal.returns-clause-value
returns-clause-value c =
    let least : c.min.result ≡ min 65536 (length c.args.bytes.now) = omega arith in
    rw least (take_min 65536 c.args.bytes.now)
