use Rattle.std.proofs.Common.{◌∙◌, ◌-◌, ◌++◌, ℕ, List, ap, sym, append_assoc}
use Rattle.resp2.specs.Framing.Frame.{spellings}
use Rattle.client_commands.specs.Courtesies.{uncached}
use Rattle.client_commands.proofs.Bytes.{uncached_row, uncached_more}
use Rattle.client_commands.proofs.told_subcommands.add_uncached.Goals as goal

pub loop-left-preserved : goal.loop-left-preserved
loop-left-preserved c =
    let out = c.loop-left.out in
    let rest = spellings (uncached (c.loop-left.left - 1)) in
    c.loop-left.invariant
    ∙ ap (λ (t : List ℕ). out ++ t) (uncached_more c.loop-left.left c.loop-left-test.true)
    ∙ sym (append_assoc out uncached_row rest)
    ∙ ap (λ (t : List ℕ). t ++ rest) (sym c.in_ok-add.ensures.ok)
