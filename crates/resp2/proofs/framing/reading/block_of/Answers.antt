use Rattle.std.proofs.Common.{◌≡◌, ◌∙◌, ◌+◌, ◌≤◌, ℕ, List, Ok, ap, sym, length, take, drop, rules}
use Rattle.resp2.specs.declared.framing.value.Value.TheFolds.{fold-roll-Value}
use Rattle.resp2.specs.declared.framing.value.Value.TheVariants as value
use Rattle.resp2.specs.Framing.Frame.{Frame, view, view_step, bulk}
use Rattle.resp2.specs.Framing.Reading.{end_at, block_at}
use Rattle.resp2.proofs.framing.reading.block_of.Goals as goal

-- a block of so many bytes, and what stands behind its end
block_read : (more n : ℕ) (bytes block tail rest : List ℕ) → n + 2 ≤ length bytes + more → n ≤ length bytes → block ≡ take n bytes → tail ≡ drop n bytes → end_at tail ≡ Ok rest
    → block_at more n bytes ≡ Ok (view (value.Bulk block), rest)
unfolding block_at
block_read more n bytes block tail rest short whole front back ended =
    let shape : view (value.Bulk block) ≡ bulk block = ap view (sym (value.rolls-Bulk block)) ∙ fold-roll-Value Frame view_step _ in
    let read : block_at more n bytes ≡ Ok (bulk block, rest) = search rules in
    read ∙ ap (λ (v : Frame). Ok (v, rest)) (sym shape)

pub returns : goal.returns
returns c =
    rw c.in_ok-from_slice.ensures
    (block_read c.args.more c.args.size c.args.bytes.now c.split_at.result.0.now c.split_at.result.1.now c.in_ok-after.after.now
    c.if-bytes-more.false c.if-bytes-size.false c.split_at.ensures.front c.split_at.ensures.back c.in_ok-after.ensures)
