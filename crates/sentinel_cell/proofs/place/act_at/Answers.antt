use Rattle.std.proofs.Common.{rules, ◌≡◌, ℕ, ◌<◌, [], ◌∷◌, Some, refl, sym, ap, subst, ◌∙◌, drop, length}
use Rattle.sentinel_rules.specs.Plans.{Plan, master_count}
use Rattle.sentinel_cell.specs.declared.entry.Entry.{Entry}
use Rattle.sentinel_cell.specs.declared.view.View.{View}
use Rattle.sentinel_cell.specs.Histories.{World, opened, after, replay, entry_of, IsLeft, IsStep}
use Rattle.sentinel_cell.specs.Standing.{first_number}
use Rattle.atomic_table.specs.Table.{Me}
use Rattle.sentinel_cell.proofs.Steps.{sits_all, draws_all}
use Rattle.sentinel_cell.proofs.Acts.{adds, looks_low, turned, in_turn, kept_view, slots_of, slot_out, left_out, passes_on, same_step, passed_at, legal_step, follows_first, given_first, left_plan, announced, first_has, still_answers, counted_entry}
use Rattle.sentinel_cell.proofs.place.act_at.Given.{Over}
use Rattle.sentinel_cell.proofs.place.act_at.Goals as goal
use Rattle.sentinel_cell.proofs.place.act_at.Goals.{After-wait_for_turn, After-put_in}

-- ---- once it is the seat's turn

-- the cell's Sentinel as it was shared
abbrev begun : (g : Over) → After-wait_for_turn g → World
begun g c = opened g.S.ConfStore.held g.S.ConfStore.failure_count c.args.hall.now.key.keeper

-- the slot is out, with what the history leaves in it
out : (g : Over) (c : After-wait_for_turn g) → c.wait_for_turn.new.place.me.1 ≡ (0, Some c.wait_for_turn.ensures.turn.4.0) ∷ []
out g c =
    let t = c.wait_for_turn.ensures.turn in
    slot_out g.S.ConfStore.held g.S.ConfStore.failure_count (begun g c) t.0 c.args.place.now.me c.load.new.seat.me c.fetch_add-ticket.new.seat.me c.wait_for_turn.new.place.me _
    t.1 c.requires.rest.1 c.load.ensures.2.1 c.fetch_add-ticket.ensures.2.1 t.2.1 t.4

-- ---- once the slot is back

abbrev start : (g : Over) → After-put_in g → World
start g c = opened g.S.ConfStore.held g.S.ConfStore.failure_count c.args.hall.now.key.keeper

-- the call that this turn adds to the history
abbrev entry : (g : Over) → After-put_in g → Entry
entry g c = entry_of (first_number c.put_in.new.place.me.0.numbers) c.args.input.now c.turn-outcome.result (length c.outputs-first.result.now) c.turn-outcome.new.outbox.shown
    c.failures-failures.result

left : (g : Over) (c : After-put_in g) → IsLeft g.S.ConfStore.held g.S.ConfStore.failure_count (replay (start g c) c.wait_for_turn.ensures.turn.0) c.take_out-keeper.result
left g c =
    let t = c.wait_for_turn.ensures.turn in
    left_out g.S.ConfStore.held g.S.ConfStore.failure_count (start g c) t.0 t.1 t.4 c.take_out-keeper.result c.wait_for_turn.new.place.me.1
    (out g (goal.at.After-put_in g c).After-wait_for_turn) c.take_out-keeper.ensures.keeper

stepped : (g : Over) (c : After-put_in g)
    → IsStep (replay (start g c) c.wait_for_turn.ensures.turn.0) (entry g c) ×
    IsLeft g.S.ConfStore.held g.S.ConfStore.failure_count (after (replay (start g c) c.wait_for_turn.ensures.turn.0) (entry g c)) c.turn-outcome.new.self
stepped g c =
    let world = replay (start g c) c.wait_for_turn.ensures.turn.0 in
    let number = first_number c.put_in.new.place.me.0.numbers in
    same_step g.S.ConfStore.held g.S.ConfStore.failure_count world number c.args.input.now c.turn-outcome.result (length c.args.outbox.now.shown)
    (length c.outputs-first.result.now) c.turn-outcome.new.outbox.shown (g.S.ConfStore.failure_count c.turn-outcome.new.self.store) c.failures-failures.result
    c.turn-outcome.new.self
    (sym (ap length c.outputs-first.ensures)) (sym c.failures-failures.ensures) (c.turn-outcome.ensures.step world number (left g c))

-- the seat's view, which the slot's way out and back leaves
served : (g : Over) (c : After-put_in g) → c.put_in.new.place.me.0 ≡ turned c.args.place.now.me.0 c.load.result c.fetch_add-ticket.result c.wait_for_turn.ensures.turn.0
    c.wait_for_turn.ensures.turn.2.0
served g c =
    let t = c.wait_for_turn.ensures.turn in
    kept_view c.wait_for_turn.new.place.me c.take_out-keeper.new.place.me c.put_in.new.place.me _ _ _
    (in_turn c.args.place.now.me c.load.new.seat.me c.fetch_add-ticket.new.seat.me c.wait_for_turn.new.place.me c.load.result c.fetch_add-ticket.result t.0 t.2.0 t.1
    c.load.ensures.2.0 c.fetch_add-ticket.ensures.2.0 t.2.1)
    c.take_out-keeper.ensures.slot c.put_in.ensures.slot

-- ---- the goals

pub load-requires : goal.load-requires
load-requires g c = (c.requires.own.0, search rules, sits_all _ _ _ _ _ _ _ _ _ _ c.requires.rest.0.0 c.requires.rest.0.1)

pub fetch_add-ticket-requires : goal.fetch_add-ticket-requires
fetch_add-ticket-requires g c = (
  search rules,
  search rules,
  draws_all _ _ _ _ _ _ _ _ _ _ c.requires.few
      (ap (λ (v : View). v.stage) c.load.ensures.2.0 ∙ looks_low c.args.place.now.me.0 c.load.result (search rules)),
)

pub take_out-keeper-requires-clause-slot : goal.take_out-keeper-requires-clause-slot
take_out-keeper-requires-clause-slot g at =
    let c = (goal.at.take_out-keeper-requires-clause-slot g at).After-wait_for_turn in
    (c.wait_for_turn.ensures.turn.4.0, out g c)

pub turn-outcome-requires-clause-left : goal.turn-outcome-requires-clause-left
turn-outcome-requires-clause-left g at =
    let c = (goal.at.turn-outcome-requires-clause-left g at).After-wait_for_turn in
    let t = c.wait_for_turn.ensures.turn in (
      replay (begun g c) t.0,
      left_out g.S.ConfStore.held g.S.ConfStore.failure_count (begun g c) t.0 t.1 t.4 at.take_out-keeper.result c.wait_for_turn.new.place.me.1 (out g c)
          at.take_out-keeper.ensures.keeper,
    )

pub news-master-requires : goal.news-master-requires
news-master-requires g at =
    let c = (goal.at.news-master-requires g at).After-wait_for_turn in
    let t = c.wait_for_turn.ensures.turn in
    let left = left_out g.S.ConfStore.held g.S.ConfStore.failure_count (begun g c) t.0 t.1 t.4 at.take_out-keeper.result c.wait_for_turn.new.place.me.1 (out g c)
    at.take_out-keeper.ensures.keeper in
    (_, (at.turn-outcome.ensures.step (replay (begun g c) t.0) 0 left).1)

pub raise_word-requires-clause-own : goal.raise_word-requires-clause-own
raise_word-requires-clause-own g at =
    let c = (goal.at.raise_word-requires-clause-own g at).After-put_in in
    let plan = left_plan g.S.ConfStore.held g.S.ConfStore.failure_count (start g c) c.wait_for_turn.ensures.turn.0 (entry g c) c.turn-outcome.new.self (stepped g c).1 in
    (search rules, at.requires.own.1, subst (λ (p : Plan). c.news-master.result.0 < master_count p) plan c.news-master.ensures.known)

pub raise_word-requires-clause-slot : goal.raise_word-requires-clause-slot
raise_word-requires-clause-slot g c = (_, slots_of _ _ _ c.put_in.ensures.slot)

pub raise_word-requires-clause-legal : goal.raise_word-requires-clause-legal
raise_word-requires-clause-legal g at =
    let c = (goal.at.raise_word-requires-clause-legal g at).After-put_in in
    let t = c.wait_for_turn.ensures.turn in
    announced g.S.ConfStore.held g.S.ConfStore.failure_count (start g c) t.0 c.put_in.new.place.me _ (entry g c) c.take_out-keeper.result c.turn-outcome.new.self
    c.news-master.result.0 c.news-master.result.1 (served g c) refl t.3 (left g c) (stepped g c) c.news-master.ensures.word c.turn-outcome.ensures.newer
    (λ x apart. c.turn-outcome.ensures.others x (c.news-master.ensures.others x apart))

pub raise_word-requires-clause-turn : goal.raise_word-requires-clause-turn
raise_word-requires-clause-turn g at =
    let c = (goal.at.raise_word-requires-clause-turn g at).After-put_in in
    (c.fetch_add-ticket.result, ap (λ (v : View). v.stage) (served g c))

pub pass_turn-requires-clause-turn : goal.pass_turn-requires-clause-turn
pass_turn-requires-clause-turn g at =
    let c = (goal.at.pass_turn-requires-clause-turn g at).After-put_in in
    (c.fetch_add-ticket.result, ap (λ (m : Me _ View). m.0.stage) at.raise_word.ensures.raised ∙ ap (λ (v : View). v.stage) (served g c))

pub pass_turn-requires-clause-slot : goal.pass_turn-requires-clause-slot
pass_turn-requires-clause-slot g at =
    let c = (goal.at.pass_turn-requires-clause-slot g at).After-put_in in
    passes_on g.S.ConfStore.held g.S.ConfStore.failure_count (start g c) c.wait_for_turn.ensures.turn.0 c.put_in.new.place.me at.raise_word.new.place.me
    c.take_out-keeper.new.place.me.0 _ (entry g c) c.turn-outcome.new.self c.put_in.ensures.slot at.raise_word.ensures.raised (served g c) refl
    (first_has c.put_in.new.place.me.0 _ (served g c) c.requires.rest.0.2) (stepped g c).1

pub returns-clause-added : goal.returns-clause-added
returns-clause-added g at =
    let c = (goal.at.returns-clause-added g at).After-put_in in
    let t = c.wait_for_turn.ensures.turn in
    adds (start g c) c.args.place.now.me.0 at.pass_turn.new.place.me.0 c.args.input.now c.turn-outcome.result _ c.load.result c.fetch_add-ticket.result t.0 t.2.0 (entry g c)
    (passed_at c.put_in.new.place.me at.raise_word.new.place.me at.pass_turn.new.place.me _ (entry g c) (served g c) at.raise_word.ensures.raised at.pass_turn.ensures.passed)
    (given_first c.args.place.now.me c.load.new.seat.me c.fetch_add-ticket.new.seat.me c.load.result c.fetch_add-ticket.result t.2.0 c.load.ensures.2.0
    c.fetch_add-ticket.ensures.2.0 t.2.2) (legal_step (start g c) t.0 (entry g c) t.3 (stepped g c).0)
    (follows_first c.args.place.now.me c.load.new.seat.me c.fetch_add-ticket.new.seat.me c.load.result c.fetch_add-ticket.result t.0 c.load.ensures.2.0
    c.fetch_add-ticket.ensures.2.0 t.5)
    (ap (λ (v : View). first_number v.numbers) (served g c)) refl refl (ap (λ (n : ℕ). drop n c.turn-outcome.new.outbox.shown) (ap length c.outputs-first.ensures))
    (still_answers (start g c) at.raise_word.new.place.me at.pass_turn.new.place.me at.pass_turn.ensures.passed at.pass_turn.ensures.answers) at.pass_turn.ensures.given

pub returns-clause-entry : goal.returns-clause-entry
returns-clause-entry g at =
    let c = (goal.at.returns-clause-entry g at).After-put_in in
    let t = c.wait_for_turn.ensures.turn in
    counted_entry c.args.place.now.me.0 at.pass_turn.new.place.me.0 c.load.result c.fetch_add-ticket.result t.0 t.2.0 (entry g c)
    (passed_at c.put_in.new.place.me at.raise_word.new.place.me at.pass_turn.new.place.me _ (entry g c) (served g c) at.raise_word.ensures.raised at.pass_turn.ensures.passed)
    (c.wait_for_turn.ensures.counted ∙ ap (λ (m : Me _ View). length m.0.front) t.2.1)
