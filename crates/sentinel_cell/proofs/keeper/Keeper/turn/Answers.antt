use Rattle.std.proofs.Common.{◌≡◌, ◌∙◌, ◌++◌, sym, ap, subst, Bool, false, true≢false, cond}
use Rattle.std.specs.Prelude.{◌||◌}
use Rattle.ballot_law.specs.declared.cards.Kept.{Kept}
use Rattle.ballot_law.specs.Ballots.{card_of}
use Rattle.sentinel_rules.specs.Changes.{IsSameOrNewer}
use Rattle.sentinel_rules.specs.States.{Core}
use Rattle.sentinel_rules.specs.Takes.{next}
use Rattle.sentinel_outbox.specs.declared.phase.Phase.TheVariants.{Ready, Pending, Halted}
use Rattle.sentinel_cell.proofs.Opening.{settled_at}
use Rattle.sentinel_core.specs.Sentinels.{Whole, is_pending, is_flush}
use Rattle.sentinel_cell.proofs.Keeping.{change_taken, stored_turn, refused_turn, runs, ran, pends}
use Rattle.sentinel_core.proofs.Holding.{on_ok, refused_of}
use Rattle.sentinel_cell.specs.Histories.{World, IsLeft}
use Rattle.sentinel_cell.proofs.keeper.Keeper.turn.Given.{Over}
use Rattle.sentinel_cell.proofs.keeper.Keeper.turn.Goals as goal
use Rattle.sentinel_cell.proofs.keeper.Keeper.turn.Goals.{In-Ok-release}

pub returns-then-is_err-clause-step : goal.returns-then-is_err-clause-step
returns-then-is_err-clause-step g c = λ w number left.
    let held = g.S.ConfStore.held in
    let count = g.S.ConfStore.failure_count in
    let i = c.args.input.now in
    let k = c.args.self.now in
    let e = c.in-Ok.ensures in
    let s = c.store.ensures in
    let refused = refused_of c.store.result (sym c.is_err.ensures.value ∙ c.if-is_err.true)
    (λ none. true≢false (sym (ap is_pending e.phase) ∙ s.nothing.0 none)) in
    refused_turn held count w i k left number (record { sentinel = c.store.new.self; store = c.store.new.store }) c.take.new.self c.in-Ok.field-0.changed c.args.outbox.now.shown
    c.drop_held.new.self.shown
    (runs held count w i k left (λ h. ran c.take.result c.in-Ok.field-0 c.in-Ok.is (c.take.ensures.halted.1 h)))
    c.requires.within e.plan e.core e.stored (change_taken c.args.self.now.sentinel c.take.new.self c.is_whole.ensures c.is_whole-2.ensures e.plan e.card e.other_cards) e.changed
    (c.drop_held.ensures.shown ∙ e.shown) (s.halted refused)
    (pends c.store.result (c.in-Ok.field-0.changed || is_flush i.event) refused (λ f. s.untouched (e.phase ∙ ap Pending f)))
    (s.either refused) (s.refused refused)

-- where the input was taken, there was no halt before
running : (g : Over) (c : In-Ok-release g) (w : World) → IsLeft g.S.ConfStore.held g.S.ConfStore.failure_count w c.args.self.now → w.halted ≡ false
running g c w left = runs g.S.ConfStore.held g.S.ConfStore.failure_count w c.args.input.now c.args.self.now left
    (λ h. ran c.take.result c.in-Ok.field-0 c.in-Ok.is (c.take.ensures.halted.1 h))

pub returns-clause-step : goal.returns-clause-step
returns-clause-step g at = λ w number left.
    let c = (goal.at.returns-clause-step g at).In-Ok-release in
    let held = g.S.ConfStore.held in
    let count = g.S.ConfStore.failure_count in
    let e = c.in-Ok.ensures in
    let s = c.store.ensures in
    let fine = sym c.is_err.ensures.value ∙ c.if-is_err.false in
    let kept = on_ok c.store.result fine s.stored in
    let released = c.in-Ok-release.ensures in
    stored_turn held count w c.args.input.now c.args.self.now left number (record { sentinel = c.release.new.self; store = c.store.new.store }) c.take.new.self
    c.in-Ok.field-0.changed c.args.outbox.now.shown c.take.new.outbox.held c.release.new.outbox.shown
    (running g c w left)
    c.requires.within e.plan e.core e.changed c.is_whole-2.ensures.core.kept
    (change_taken c.args.self.now.sentinel c.take.new.self c.is_whole.ensures c.is_whole-2.ensures e.plan e.card e.other_cards) e.outputs
    (released.shown ∙ ap (λ xs. xs ++ c.take.new.outbox.held) e.shown)
    (released.ready ∙ ap (λ (x : Whole). let y : Whole = record x { phase = Ready } in y) kept)
    (λ f. ap held (on_ok c.store.result fine (s.untouched (e.phase ∙ ap Pending f)).0))
    (λ t. on_ok c.store.result fine (s.written (e.phase ∙ ap Pending t)))
    (on_ok c.store.result fine s.counted)

pub returns-clause-newer : goal.returns-clause-newer
returns-clause-newer g at = λ m.
    let c = (goal.at.returns-clause-newer g at).In-Ok-release in
    let i = c.args.input.now in
    let k = c.args.self.now in
    let w = c.requires.left.0 in
    let left = c.requires.left.1 in
    let ready : k.sentinel.phase ≡ Ready = left.phase ∙ ap (λ (b : Bool). cond b Halted Ready) (running g c w left) in
    let was = settled_at k.sentinel c.is_whole.ensures ready in
    let kept = on_ok c.store.result (sym c.is_err.ensures.value ∙ c.if-is_err.false) c.store.ensures.stored in
    let now : c.release.new.self.stored ≡ (next k.sentinel.plan k.sentinel.core i.now i.event).core.kept =
    ap (λ (x : Whole). x.stored) c.in-Ok-release.ensures.ready ∙ (ap (λ (x : Whole). x.stored) kept ∙ ap (λ (x : Core). x.kept) c.in-Ok.ensures.core) in
    let all = c.is_whole.ensures in
    subst (λ (x : Kept × Kept). IsSameOrNewer (card_of x.0 m) (card_of x.1 m)) (λ j. (was j, sym now j))
    ((c.law_inputs_change_one_card.ensures.greater k.sentinel.plan k.sentinel.core i.now i.event all.plan all.core c.requires.within all.ahead).1 m)
