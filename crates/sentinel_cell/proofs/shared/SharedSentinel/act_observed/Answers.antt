use Rattle.std.proofs.Common.{ap, length, rules, ◌≡◌, [], sym, drop, subst, ℕ, arith, List}
use Rattle.std.specs.Result.{IfOk}
use Rattle.std.proofs.lemmas.Grind.{common_steps}
use Rattle.std.proofs.Math.Seq.{drop-length}
use Rattle.ballot_law.specs.declared.messages.Output.{Output}
use Rattle.sentinel_cell.specs.Histories.{World, opened}
use Rattle.sentinel_cell.specs.Standing.{Cell, Acted, Adds, head_view}
use Rattle.sentinel_cell.proofs.Acts.{as_told, acted_between, err_more, shown_none, acted_same}
use Rattle.sentinel_cell.proofs.shared.SharedSentinel.act_observed.Given.{Over}
use Rattle.sentinel_cell.proofs.shared.SharedSentinel.act_observed.Goals as goal
use Rattle.sentinel_cell.proofs.shared.SharedSentinel.act_observed.Goals.{After-answer}

-- the cell's Sentinel as it was shared
abbrev start : (g : Over) → After-answer g → World
start g c = opened g.S.ConfStore.held g.S.ConfStore.failure_count c.self.inside.table.shared.key.keeper

-- what the turn showed
abbrev outputs : (g : Over) → After-answer g → List Output
outputs g c = drop (length c.args.outbox.now.shown) c.act_at-acted.new.outbox.shown

-- the turn as its seat's caller sees it
acted : (g : Over) (c : After-answer g) → Acted (start g c) c.args.seat.now.view c.args.input.now (outputs g c) (head_view c.into_badge.result.views) c.answer.result
acted g c =
    let v = c.into_seat-place.result.me.0 in
    let w = c.act_at-acted.new.place.me.0 in
    let none : drop (length c.args.outbox.now.shown) c.args.outbox.now.shown ≡ [] = grind (arith, common_steps, drop-length c.args.outbox.now.shown) in
    let told = as_told (start g c) v c.args.input.now (outputs g c) w c.act_at-acted.result (length c.outputs-first.result.now) (length c.outputs.result.now)
    (subst (λ (n : ℕ). IfOk c.act_at-acted.result (λ o. Adds (start g c) v c.args.input.now o.0 (drop n c.act_at-acted.new.outbox.shown) w)) (ap length c.reserve.ensures.shown)
    c.act_at-acted.ensures.added)
    (err_more c.act_at-acted.result _ _ (λ s. (
      s.0,
      s.1,
      shown_none c.act_at-acted.new.outbox c.reserve.new.self (length c.args.outbox.now.shown) c.args.outbox.now.shown s.2
          c.reserve.ensures.shown none,
    )) c.act_at-acted.ensures.spent) in
    acted_between (start g c) c.args.input.now (outputs g c) c.answer.result v w c.args.seat.now c.seat.inside.badge.table_id c.seat.inside.badge.views c.into_badge.result.views
    c.seat.view_is (search rules) c.into_badge.ensures.2
    (subst (Acted (start g c) v c.args.input.now (outputs g c) w) (sym c.answer.ensures) told)

pub returns-clause-acted : goal.returns-clause-acted
returns-clause-acted g at =
    let c = (goal.at.returns-clause-acted g at).After-answer in
    subst (λ (x : Cell). Acted x.start c.args.seat.now.view c.args.input.now (outputs g c) (head_view c.into_badge.result.views) c.answer.result) c.self.view_is (acted g c)

pub returns-clause-same : goal.returns-clause-same
returns-clause-same g at =
    let c = (goal.at.returns-clause-same g at).After-answer in
    acted_same (start g c) _ _ c.args.input.now (outputs g c) _ (acted g c)
