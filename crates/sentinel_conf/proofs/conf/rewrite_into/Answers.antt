use Rattle.std.proofs.Common.{ap, ◌∙◌}
use Rattle.ballot_law.specs.declared.cards.Kept.{Kept}
use Rattle.sentinel_conf.specs.Rewritten.{rewritten}
use Rattle.sentinel_conf.specs.Room.{bounded}
use Rattle.sentinel_conf.proofs.Fitting.{whole_text}
use Rattle.sentinel_conf.proofs.conf.rewrite_into.Goals as goal

pub returns : goal.returns
returns c =
    let kept : Kept = c.args.kept.now in
    let seen = c.conf.inside.parts in
    whole_text c.args.conf.now seen kept c.write_into-fits.new.text c.conf.view_is c.conf.invariant.0
    (c.write_into-fits.ensures.text ∙ ap (λ ms. bounded (rewritten seen (let k : Kept = record { current = kept.current; masters = ms } in k))) c.as_slice.ensures)
    c.requires
