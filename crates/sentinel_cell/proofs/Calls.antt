-- What the calls ask for and get, at the values that they have.
use Rattle.std.proofs.Common.{◌≡◌, ◌≢◌, ℕ, ◌+◌, ◌%◌, ◌<◌, ◌≤◌, List, [], ◌∷◌, ◌++◌, length, Option, None, sym, ap, ◌∙◌, subst}
use mathlib.Core.Option as maybe
use Rattle.atomic_table.specs.Table.{Me, step, Allows}
use Rattle.sentinel_rules.specs.Plans.{addr_at, master_count}
use Rattle.sentinel_cell.specs.declared.entry.Entry.{Entry}
use Rattle.sentinel_cell.specs.declared.view.View.{View}
use Rattle.sentinel_cell.specs.declared.view.Stage.TheVariants.{Idle, Waiting, Serving}
use Rattle.sentinel_cell.specs.declared.keeper.Keeper.{Keeper}
use Rattle.sentinel_cell.specs.Calls.{Has}
use Rattle.sentinel_cell.specs.Histories.{World, IsLegal, Fits, Keeps, stored_at}
use Rattle.sentinel_cell.specs.Turns.{serving, Follows, Turns, Passes, Tells}
use Rattle.sentinel_cell.proofs.Steps.{turns_all, passes_all, tells_all, same_ticket}
use Rattle.sentinel_cell.proofs.Cards.{rises}

module _ {S : Type 0} (text : S → Option (List ℕ)) (failures : S → ℕ) where
  pub turns_from : (start w : World) (seats slots id : ℕ) (me : Me (Option (Keeper S)) View) (t : ℕ) → start ≡ w → me.0.stage ≡ Waiting t
      → Allows (Keeps text failures w seats) slots id me 0 (λ n. n) (Turns (IsLegal start) (Fits text failures start) (step slots 0 0 0 maybe.none) me)
  turns_from start w seats slots id me t e is =
      subst (λ (x : World). Allows (Keeps text failures w seats) slots id me 0 (λ n. n) (Turns (IsLegal x) (Fits text failures x) (step slots 0 0 0 maybe.none) me)) (sym e)
      (turns_all (IsLegal w) (stored_at w) (Fits text failures w) (addr_at w.plan) (master_count w.plan) seats None slots id me t is)

  pub passes_from : (start w : World) (seats slots id : ℕ) (me : Me (Option (Keeper S)) View) (t : ℕ) (e : Entry) (c : Option (Keeper S)) → start ≡ w → seats ≤ 4294967296 →
      me.0.stage ≡ Serving t → me.1 ≡ (0, c) ∷ []
      → me.0.flight ≡ e ∷ [] → Has e.number me.0.numbers → Fits text failures w (me.0.front ++ e ∷ []) c
      → Allows (Keeps text failures w seats) slots id me 0 (λ n. (n + 1) % 18446744073709551616) (Passes (stored_at start) (step slots 0 1 0 maybe.none) me)
  passes_from start w seats slots id me t e c same few is slot flight has fits =
      subst (λ (x : World). Allows (Keeps text failures w seats) slots id me 0 (λ n. (n + 1) % 18446744073709551616) (Passes (stored_at x) (step slots 0 1 0 maybe.none) me))
      (sym same)
      (passes_all (IsLegal w) (stored_at w) (Fits text failures w) (addr_at w.plan) (master_count w.plan) seats None slots id me t e c few is slot flight has fits)

  pub tells_from : (start w : World) (seats slots id : ℕ) (me : Me (Option (Keeper S)) View) (m : ℕ) → start ≡ w → m < master_count w.plan → me.0.stage ≡ Idle
      → Allows (Keeps text failures w seats) slots id me (m + 2) (λ n. n) (Tells (IsLegal start) (stored_at start) (addr_at start.plan) (step slots (m + 2) 0 0 maybe.none) me)
  tells_from start w seats slots id me m same low is =
      subst (λ (x : World). Allows (Keeps text failures w seats) slots id me (m + 2) (λ n. n)
      (Tells (IsLegal x) (stored_at x) (addr_at x.plan) (step slots (m + 2) 0 0 maybe.none) me)) (sym same)
      (tells_all (IsLegal w) (stored_at w) (Fits text failures w) (addr_at w.plan) (master_count w.plan) seats None slots id me m low is
      (λ x part whole b legal. rises w x part whole b legal))

module _ {C : Type 0} (Legal : List Entry → Type 0) (Fit : List Entry → C → Type 0) where
  abbrev pub HasTurn : Me C View → ℕ → Me C View → Type 0
  HasTurn m t m' = (history : List Entry) × (c : C) × ((given : ℕ) × (m' ≡ (serving m.0 t history given, (0, c) ∷ m.1)) × (m.0.given ≤ given)) × Legal history × Fit history c ×
      Follows m.0 history

  got_turn : (m : Me C View) (t : ℕ) (m' : Me C View) → m.0.stage ≡ Waiting t → Turns Legal Fit (step 0 0 0 0 maybe.none) m t m' → HasTurn m t m'
  got_turn m t m' is h = let g = h.0 is in (g.0, g.1, (g.2.0, (λ i. (g.2.1 i, g.3 i)), g.2.2), g.4, g.5, g.6)

  pub has_turn : (m n : Me C View) (r t : ℕ) (m' : Me C View) → n ≡ m → r ≡ t → m.0.stage ≡ Waiting t → Turns Legal Fit (step 0 0 0 0 maybe.none) n r m' → HasTurn m t m'
  has_turn m n r t m' same hit is h = got_turn m t m' is (subst (λ (x : Me C View × ℕ). Turns Legal Fit (step 0 0 0 0 maybe.none) x.0 x.1 m') (λ i. (same i, hit i)) h)

  -- the ticket is the number of entries that the seat sees
  pub counts_turn : (m n : Me C View) (r t : ℕ) (m' : Me C View) → n ≡ m → r ≡ t → m.0.stage ≡ Waiting t → Turns Legal Fit (step 0 0 0 0 maybe.none) n r m' → t ≡ length m'.0.front
  counts_turn m n r t m' same hit is h =
      let g = h.0 (ap (λ (x : Me C View). x.0.stage) same ∙ (is ∙ ap Waiting (sym hit))) in
      sym hit ∙ (g.7 ∙ sym (ap (λ (v : View). length v.front) g.2.1))

  pub no_turn : (m n : Me C View) (r t : ℕ) (m' : Me C View) → n ≡ m → r ≢ t → m.0.stage ≡ Waiting t → Turns Legal Fit (step 0 0 0 0 maybe.none) n r m' → m' ≡ m
  no_turn m n r t m' same miss is h = h.1 (λ now. miss (same_ticket r t (sym now ∙ (ap (λ (x : Me C View). x.0.stage) same ∙ is)))) ∙ same
