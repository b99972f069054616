use Rattle.std.proofs.Common.{ap, sym}
use Rattle.std.specs.Prelude.{nat_lt, if◌then◌else◌}
use Rattle.std.proofs.lemmas.Bool.{lt-ltb}
use Rattle.fault_world.proofs.scenarios.comments.shown.Goals as goal

pub returns-then-byte-lt32 : goal.returns-then-byte-lt32
returns-then-byte-lt32 c =
    let byte = c.args.byte in
    ap (λ low. if low then 32 else (if nat_lt byte 127 then byte else 32)) (sym (lt-ltb byte 32 c.if-byte-lt32.true))
