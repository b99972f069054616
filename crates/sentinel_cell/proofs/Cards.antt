-- Which cards are stored, and that their epochs never fall.
use Rattle.std.proofs.Common.{◌≡◌, ℕ, ◌<◌, ◌≤◌, Bool, true, false, List, [], ◌∷◌, ◌++◌, refl, sym, ap, ◌∙◌, subst, ⊎_elim, inl, arith, le_refl}
use Rattle.ballot_law.specs.declared.cards.Card.{Card}
use Rattle.ballot_law.specs.declared.cards.Kept.{Kept}
use Rattle.ballot_law.specs.declared.events.Input.{Input}
use Rattle.ballot_law.specs.declared.messages.Output.{Output}
use Rattle.ballot_law.specs.Ballots.{card_of}
use Rattle.sentinel_rules.specs.Changes.{IsSameOrNewer}
use Rattle.ballot_law.specs.Limits.{IsWithinEvent}
use Rattle.sentinel_rules.proofs.Rising.{inputs_raise_cards}
use Rattle.sentinel_rules.proofs.SoundInputs.{inputs_keep_few}
use Rattle.sentinel_cell.specs.declared.entry.Entry.{Entry}
use Rattle.sentinel_cell.specs.declared.entry.Outcome.{Outcome}
use Rattle.sentinel_cell.specs.declared.entry.Outcome.TheVariants.{Stored, Refused, Halted}
use Rattle.sentinel_cell.specs.Calls.{Begins}
use Rattle.sentinel_cell.specs.Histories.{World, IsGood, IsOutcome, IsStep, AreSteps, IsLegal, next_of, after_outcome, after, replay, stored_at}

-- one input keeps a world good
good_input : (w : World) (i : Input) → IsGood w → IsWithinEvent i.event → (halted : Bool) (stored : Kept) (change text refused : _) (failures : ℕ) →
    (halted ≡ false → (next_of w i).core.kept ≡ stored)
    → IsGood (record { plan = w.plan; core = (next_of w i).core; stored = stored; halted = halted; change = change; text = text; refused = refused; failures = failures })
good_input w i g within halted stored change text refused failures settled =
    record {
      plan = g.plan;
      core = (inputs_keep_few w.plan w.core i.now i.event g.plan g.core within).0;
      ahead = (inputs_raise_cards w.plan w.core i.now i.event g.plan g.core within g.ahead).0;
      settled = settled;
    }

pub good_outcome : (w : World) (i : Input) (outputs : List Output) (n : ℕ) (o : Outcome) → IsGood w → IsOutcome w i outputs n o → IsGood (after_outcome w i n o)
good_outcome w i outputs n Stored g h = good_input w i g h.3 w.halted (next_of w i).core.kept _ _ w.refused n (λ _. refl)
good_outcome w i outputs n Refused g h = good_input w i g h.3 true w.stored _ w.text _ n (λ (e : true ≡ false). let no : ⊥ = cc in absurd no)
good_outcome w i outputs n Halted g h = record { plan = g.plan; core = g.core; ahead = g.ahead; settled = g.settled }

pub good_after : (w : World) (e : Entry) → IsGood w → IsStep w e → IsGood (after w e)
good_after w e g h = good_outcome w e.input e.outputs e.failures e.outcome g h

pub good_replay : (w : World) (xs : List Entry) → IsGood w → AreSteps w xs → IsGood (replay w xs)
good_replay w [] g h = g
good_replay w (e ∷ es) g h = good_replay (after w e) es (good_after w e g h.0) h.1

-- the plan never changes
pub same_plan : (w : World) (xs : List Entry) → (replay w xs).plan ≡ w.plan
same_plan w [] = refl
same_plan w (e ∷ es) = same_plan (after w e) es ∙ plan_after w e.input e.failures e.outcome
  where
    plan_after : (w : World) (i : Input) (n : ℕ) (o : Outcome) → (after_outcome w i n o).plan ≡ w.plan
    plan_after w i n Stored = refl
    plan_after w i n Refused = refl
    plan_after w i n Halted = refl

-- what one entry does to the stored cards
newer_outcome : (w : World) (i : Input) (outputs : List Output) (n : ℕ) (o : Outcome) (x : ℕ) → IsGood w → IsOutcome w i outputs n o →
    IsSameOrNewer (card_of w.stored x) (card_of (after_outcome w i n o).stored x)
newer_outcome w i outputs n Stored x g h =
    subst (λ (kept : Kept). IsSameOrNewer (card_of kept x) (card_of (next_of w i).core.kept x)) (g.settled h.0)
    ((inputs_raise_cards w.plan w.core i.now i.event g.plan g.core h.3 g.ahead).1 x)
newer_outcome w i outputs n Refused x g h = inl refl
newer_outcome w i outputs n Halted x g h = inl refl

pub newer_after : (w : World) (e : Entry) (x : ℕ) → IsGood w → IsStep w e → IsSameOrNewer (card_of w.stored x) (card_of (after w e).stored x)
newer_after w e x g h = newer_outcome w e.input e.outputs e.failures e.outcome x g h

no_lower : (a b : Card) → IsSameOrNewer a b → a.epoch ≤ b.epoch
no_lower a b h = ⊎_elim (λ (e : a ≡ b). let s : a.epoch ≡ b.epoch = ap (λ (c : Card). c.epoch) e in omega arith) (λ (l : a.epoch < b.epoch). omega arith) h

rises_on : (w : World) (x : ℕ) (more : List Entry) → IsGood w → AreSteps w more → (card_of w.stored x).epoch ≤ (stored_at w more x).epoch
rises_on w x [] g h = le_refl (card_of w.stored x).epoch
rises_on w x (e ∷ es) g h =
    let a = no_lower (card_of w.stored x) (card_of (after w e).stored x) (newer_after w e x g h.0) in
    let b = rises_on (after w e) x es (good_after w e g h.0) h.1 in
    omega arith

rises_from : (w : World) (x : ℕ) (part more : List Entry) → IsGood w → AreSteps w (part ++ more) → (stored_at w part x).epoch ≤ (stored_at w (part ++ more) x).epoch
rises_from w x [] more g h = rises_on w x more g h
rises_from w x (e ∷ es) more g h = rises_from (after w e) x es more (good_after w e g h.0) h.1

-- no stored card's epoch falls
pub rises : (w : World) (x : ℕ) (part whole : List Entry) → Begins part whole → IsLegal w whole → (stored_at w part x).epoch ≤ (stored_at w whole x).epoch
rises w x part whole b h = subst (λ (l : List Entry). (stored_at w part x).epoch ≤ (stored_at w l x).epoch) (sym b.1) (rises_from w x part b.0 h.0 (subst (AreSteps w) b.1 h.1))
