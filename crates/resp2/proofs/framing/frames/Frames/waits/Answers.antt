use Rattle.std.proofs.Common.{◌≡◌, ◌≤◌, length, rules}
use Rattle.resp2.specs.Framing.Stream.{reading}
use Rattle.resp2.proofs.FramingLemmas.Passing.{waits_held}
use Rattle.resp2.proofs.framing.frames.Frames.waits.Goals as goal

pub returns-then-bytes-le-LONGEST-clause-waits : goal.returns-then-bytes-le-LONGEST-clause-waits
returns-then-bytes-le-LONGEST-clause-waits c = λ waits.
    let held : c.args.self.now ≡ reading c.self.inside.bytes.items = search rules in
    let short : length c.self.inside.bytes.items ≤ 65536 = rw c.as_slice-bytes.ensures at c.if-bytes-le-LONGEST.true in
    let read = rw c.as_slice-bytes.ensures at (c.waits.ensures.waits waits) in
    rw held (waits_held c.self.inside.bytes.items short read, search rules)
