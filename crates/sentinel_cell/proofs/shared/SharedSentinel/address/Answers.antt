use Rattle.std.proofs.Common.{rules, ap, subst, ◌∙◌}
use Rattle.sentinel_cell.specs.Standing.{Cell}
use Rattle.sentinel_rules.specs.Plans.{addr_at}
use Rattle.sentinel_cell.specs.Turns.{unpacked, IsFresh}
use Rattle.sentinel_cell.specs.Words.{node_at}
use Rattle.ballot_law.specs.Rosters.{Roster}
use Rattle.sentinel_cell.specs.Histories.{opened, IsLegal, stored_at}
use Rattle.sentinel_cell.proofs.Acts.{told_seat}
use Rattle.sentinel_cell.proofs.shared.SharedSentinel.address.Goals as goal

pub returns-clause-some : goal.returns-clause-some
returns-clause-some g c =
    let start = opened g.S.ConfStore.held g.S.ConfStore.failure_count c.self.inside.table.shared.key.keeper in
    let told = told_seat start c.args.seat.now c.seat.inside.badge.table_id c.seat.inside.badge.views c.into_badge.result.views c.into_seat-place.result.me
    c.read_word-word.new.place.me c.args.m (unpacked (addr_at start.plan) c.args.m c.read_word-word.result) c.card_in-card.result
    c.seat.view_is (search rules) c.into_badge.ensures.2 c.read_word-word.ensures.told
    (c.card_in-card.ensures ∙ ap (λ (r : Roster). unpacked (node_at r) c.args.m c.read_word-word.result) c.self.invariant.rostered) c.read_word-word.ensures.fresh in (
      search rules,
      told.0,
      subst (λ (x : Cell). IsFresh (IsLegal x.start) (stored_at x.start) c.args.seat.now.view c.args.m c.card_in-card.result) c.self.view_is told.1,
    )
