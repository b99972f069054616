use Rattle.std.proofs.Common.{◌≡◌, ◌∷◌, length, rules, sym, ◌∙◌}
use Rattle.resp2.specs.Framing.Reading.{line_length}
use Rattle.resp2.proofs.FramingLemmas.Passing.{open_line}
use Rattle.resp2.proofs.framing.reading.is_open_line.Goals as goal

pub returns-then-line-bytes : goal.returns-then-line-bytes
returns-then-line-bytes c = λ kind.
    let whole : c.args.bytes.now ≡ c.in-Some.kind.now ∷ c.in-Some.field-0-1.now = search rules in
    let all : line_length c.args.bytes.now ≡ length c.args.bytes.now = sym c.requires ∙ c.if-line-bytes.true in
    open_line c.args.bytes.now c.in-Some.kind.now c.in-Some.field-0-1.now whole all (c.is_kind.ensures kind)
