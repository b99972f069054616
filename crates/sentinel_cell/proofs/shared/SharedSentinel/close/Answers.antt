use Rattle.std.proofs.Common.{rules, sym, ap, subst, ◌∙◌}
use Rattle.sentinel_cell.specs.Histories.{World, opened}
use Rattle.sentinel_cell.specs.Standing.{Cell, IsLeftBy}
use Rattle.sentinel_cell.proofs.Closing.{Leaves, leaves_seat, leaves_keeper, is_some_at}
use Rattle.sentinel_cell.proofs.shared.SharedSentinel.close.Given.{Over}
use Rattle.sentinel_cell.proofs.shared.SharedSentinel.close.Goals as goal
use Rattle.sentinel_cell.proofs.shared.SharedSentinel.close.Goals.{After-free}

-- the cell's Sentinel as it was shared
abbrev start : (g : Over) → After-free g → World
start g c = opened g.S.ConfStore.held g.S.ConfStore.failure_count c.self.inside.table.shared.key.keeper

-- what the slot of the closed table holds
leaves : (g : Over) (c : After-free g) → Leaves g.S.ConfStore.held g.S.ConfStore.failure_count (start g c) c.self.inside.table.shared.key.seats c.into_seat.result.id
    c.args.seat.view c.take-keeper.result
leaves g c =
    leaves_seat g.S.ConfStore.held g.S.ConfStore.failure_count (start g c) c.self.inside.table.shared.key.seats c.into_seat.result.id c.args.seat c.seat.inside.badge.table_id
    c.seat.inside.badge.views c.into_seat.result.me.0 _ _ c.take-keeper.result c.self.inside.seats c.seat.inside.share
    c.close_with-closed.ensures.values.2 c.seat.view_is c.into_seat.ensures.2 c.seat.invariant.1 c.seat.invariant.2 c.self.invariant.counted (search rules)
    c.take-keeper.ensures.value

pub unwrap-requires : goal.unwrap-requires
unwrap-requires g at =
    let c = (goal.at.unwrap-requires g at).After-free in
    is_some_at g.S.ConfStore.held g.S.ConfStore.failure_count (start g c) c.self.inside.table.shared.key.seats c.into_seat.result.id c.args.seat c.seat.inside.badge.table_id
    c.seat.inside.badge.views c.into_seat.result.me.0 c.take-keeper.result (leaves g c)

pub returns-clause-ok : goal.returns-clause-ok
returns-clause-ok g at =
    let c = (goal.at.returns-clause-ok g at).After-free in
    let text = g.S.ConfStore.held in
    let failures = g.S.ConfStore.failure_count in
    subst (λ (x : Cell). IsLeftBy text failures x.start at.args.seat.view at.unwrap.result) c.self.view_is
    (leaves_keeper text failures (start g c) c.self.inside.table.shared.key.seats c.into_seat.result.id c.args.seat c.seat.inside.badge.table_id c.seat.inside.badge.views
    c.into_seat.result.me.0 c.take-keeper.result at.unwrap.result (leaves g c) (search rules))

pub returns-clause-calls : goal.returns-clause-calls
returns-clause-calls g at =
    let c = (goal.at.returns-clause-calls g at).After-free in
    (leaves g c).2

pub returns-clause-all : goal.returns-clause-all
returns-clause-all g at =
    let c = (goal.at.returns-clause-all g at).After-free in
    (leaves g c).0 ∙ (sym c.self.invariant.counted ∙ ap (λ (x : Cell). x.seats) c.self.view_is)
