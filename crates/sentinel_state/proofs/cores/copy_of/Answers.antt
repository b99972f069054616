use Rattle.std.proofs.Common.{List, ap, ◌∙◌}
use Rattle.ballot_law.specs.declared.cards.Kept.{Kept}
use Rattle.ballot_law.specs.declared.cards.KeptMaster.{KeptMaster}
use Rattle.sentinel_state.proofs.cores.copy_of.Goals as goal

pub returns : goal.returns
returns c =
    ap (λ (masters : List KeptMaster). let copy : Kept = record { current = c.args.kept.now.current; masters = masters } in copy)
    (c.from_vec.ensures ∙ c.in_ok-masters.ensures.items ∙ c.as_slice.ensures)
