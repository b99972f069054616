use Rattle.std.proofs.Common.{◌==◌, nat_lt, ap, sym, ◌∙◌}
use Rattle.std.specs.Prelude.{◌&&◌, not}
use Rattle.std.proofs.lemmas.Bool.{lt-ltb}
use Rattle.sentinel_state.proofs.nodes.plans.Plan.is_other.Goals as goal

pub returns-then-place-group_size : goal.returns-then-place-group_size
returns-then-place-group_size c =
    let place = c.args.place in
    let below = ap (λ count. nat_lt place count) (sym c.group_size.ensures.value) ∙ lt-ltb place c.group_size.result c.if-place-group_size.true in
    ap (λ own. not (place == own)) c.place.ensures ∙ ap (λ b. b && not (place == c.args.self.now.place)) (sym below)
