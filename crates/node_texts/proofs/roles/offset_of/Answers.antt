use Rattle.std.proofs.Common.{◌≡◌, ◌∙◌, ap, sym, refl, arith, rules, ℤ, pos, negsuc, ◌<ℤ◌, Some}
use Rattle.std.proofs.lemmas.Int.{ints}
use Rattle.resp2.specs.declared.framing.value.Value.TheFolds.{fold-roll-Value}
use Rattle.resp2.specs.declared.framing.value.Value.TheVariants as value
use Rattle.resp2.specs.Framing.Frame.{Frame, view, view_step, int}
use Rattle.node_texts.specs.Roles.{offset_of}
use Rattle.node_texts.proofs.roles.offset_of.Goals as goal

below_zero : (z : ℤ) → z <ℤ pos 0 → Some 0 ≡ offset_of (int z)
below_zero (pos n) below = absurd (omega (arith, ints))
below_zero (negsuc n) below = refl

pub returns-then-offset-lt0 : goal.returns-then-offset-lt0
returns-then-offset-lt0 c =
    let z = c.in-Int.offset in
    let below : z <ℤ pos 0 = search rules in
    let shape : view (value.Int z) ≡ int z = ap view (sym (value.rolls-Int z)) ∙ fold-roll-Value Frame view_step _ in
    below_zero z below ∙ ap offset_of (sym shape) ∙ ap (λ value. offset_of (view value)) (sym c.in-Int.is)
