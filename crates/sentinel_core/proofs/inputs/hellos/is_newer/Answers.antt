use Rattle.std.proofs.Common.{nat_lt, ap, sym, ◌∙◌}
use Rattle.std.specs.Prelude.{◌&&◌}
use Rattle.std.specs.List.{list_any}
use Rattle.std.proofs.lemmas.Bool.{lt-ltb}
use Rattle.ballot_law.specs.declared.cards.Card.{Card}
use Rattle.ballot_law.specs.Orders.{same_addr}
use Rattle.sentinel_rules.specs.Plans.{nodes_of}
use Rattle.sentinel_core.proofs.inputs.hellos.is_newer.Goals as goal

pub returns-then-card : goal.returns-then-card
returns-then-card c =
    let epoch = c.args.card.epoch in
    let below = ap (λ (kept : Card). nat_lt kept.epoch epoch) (sym c.card.ensures) ∙ lt-ltb c.card.result.epoch epoch c.if-card.true in
    c.has_node.ensures ∙ ap (λ b. b && list_any (same_addr c.args.card.addr) (nodes_of c.args.state.now.plan c.args.m)) (sym below)
