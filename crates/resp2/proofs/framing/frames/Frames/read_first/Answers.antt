use Rattle.std.proofs.Common.{◌≡◌, ℕ, List, [], ◌∷◌, length, ap, ◌∙◌, refl, arith, rules}
use Rattle.resp2.specs.Framing.Frame.{view}
use Rattle.resp2.specs.Framing.Reading.{frame_at}
use Rattle.resp2.specs.Framing.Stream.{reading}
use Rattle.resp2.proofs.FramingLemmas.Drains.{nothing_waits}
use Rattle.resp2.proofs.FramingLemmas.Named.{fault_answers}
use Rattle.resp2.proofs.framing.frames.Frames.read_first.Goals as goal

pub returns-in-Err-At-Faulty : goal.returns-in-Err-At-Faulty
returns-in-Err-At-Faulty c =
    let held : c.args.self.now ≡ reading c.self.inside.bytes.items = search rules in
    let read = rw (c.in-Err-At-Faulty.field-0-is, c.in-Err-At-Faulty.field-0-0-is, c.as_slice.ensures) at c.in-Err-At-Faulty.ensures.gives in
    rw held (fault_answers view c.self.inside.bytes.items c.in-Err-At-Faulty.fault read)

nothing : (bytes : List ℕ) → length bytes ≡ 0 → bytes ≡ []
nothing [] none = refl
nothing (b ∷ bytes) none = absurd (omega arith)

pub returns-then-is_empty : goal.returns-then-is_empty
returns-then-is_empty c =
    let held : c.args.self.now ≡ reading c.self.inside.bytes.items = search rules in
    let none : c.self.inside.bytes.items ≡ [] = nothing c.self.inside.bytes.items (grind (arith, c.if-is_empty.true, c.is_empty.ensures)) in
    rw held (ap frame_at none ∙ nothing_waits, refl)
