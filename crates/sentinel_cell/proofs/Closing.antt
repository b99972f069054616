-- What a closed cell leaves.
use Rattle.std.proofs.Common.{◌≡◌, ℕ, ◌≤◌, List, [], ◌∷◌, ◌++◌, Option, Some, None, sym, ap, ◌∙◌, subst, arith, rules}
use mathlib.Core.Option as maybe
use lib.ListN.{get_elem?}
use Rattle.atomic_table.specs.Table.{Final, Seen}
use Rattle.sentinel_rules.specs.Plans.{addr_at, master_count}
use Rattle.sentinel_cell.specs.declared.entry.Entry.{Entry}
use Rattle.sentinel_cell.specs.declared.view.View.{View}
use Rattle.sentinel_cell.specs.declared.keeper.Keeper.{Keeper}
use Rattle.sentinel_cell.specs.Histories.{World, IsLegal, IsLeft, Fits, Keeps, replay, stored_at}
use Rattle.sentinel_cell.specs.Turns.{share_of}
use mathlib.Core.List.{append-nil}
use Rattle.sentinel_cell.specs.Calls.{IsOfBeginning, AreUnder}
use Rattle.sentinel_cell.specs.Standing.{Standing, standing, head_view, AtRest, IsLeftBy}
use Rattle.atomic_table.specs.Seated.{TableId}
use Rattle.std.specs.Option.{IsSome}
use Rattle.sentinel_cell.proofs.Totals.{total_at}
use Rattle.sentinel_cell.proofs.Owners.{under}
use Rattle.sentinel_cell.proofs.Steps.{closes, all_seen, orderly}

module _ {S : Type 0} (text : S → Option (List ℕ)) (failures : S → ℕ) (start : World) (seats id : ℕ) (v : View) where
  abbrev pub Leaves : Option (Keeper S) → Type 0
  Leaves slot = (v.share ≡ seats) × ((k : Keeper S) × (slot ≡ Some k) × IsLeftBy text failures start v k) × AreUnder v.numbers v.front

  pub leaves : (words : List ℕ) (slots : List (Option (Keeper S))) (slot : Option (Keeper S)) → Final (Seen (Keeps text failures start seats) id v) words slots → seats ≤ v.share →
      AtRest v
      → get_elem? slots 0 ≡ maybe.some slot → Leaves slot
  leaves words slots slot final most rest taken =
      let s = final.0 in
      let at = final.1.1 in
      let r = orderly (IsLegal start) (stored_at start) (Fits text failures start) (addr_at start.plan) (master_count start.plan) seats None s id v at rest.0 final.1.0 in
      let part = total_at share_of s.views id v at in
      let all = r.shares in
      let whole : v.share ≡ seats = omega arith in
      let home = closes (IsLegal start) (stored_at start) (Fits text failures start) (addr_at start.plan) (master_count start.plan) seats s r id v at whole rest.0 in
      let there = final.4 0 home.0 (ap (λ (l : List (maybe.Option (Option (Keeper S)))). get_elem? l 0) home.1) in
      let same : slot ≡ home.0 = maybe.some-injective slot home.0 (sym taken ∙ there) in
      let fits = home.2 in
      let k = r.each id v at in
      let seen = all_seen (IsLegal start) (stored_at start) (Fits text failures start) (addr_at start.plan) (master_count start.plan) seats s r id v at whole in
      let all : r.history ++ r.flight ≡ v.front = ap (λ (l : List Entry). r.history ++ l) home.3 ∙ (append-nil r.history ∙ sym seen.1) in (
        whole,
        (
          fits.0,
          same ∙ fits.1,
          (
            subst (IsLegal start) all r.legal,
            subst (λ (l : List Entry). IsLeft text failures (replay start l) fits.0) (sym seen.1) fits.2,
            λ m c a. subst (λ (l : List Entry). IsOfBeginning (stored_at start) l m c) all (k.answers m c a),
          ),
        ),
        under v.numbers v.front seen.0,
      )

module _ {S : Type 0} (text : S → Option (List ℕ)) (failures : S → ℕ) (start : World) (seats id : ℕ) (seat : Standing) (t : TableId) (views : List View) (v : View) where
  pub leaves_seat : (words : List ℕ) (slots : List (Option (Keeper S))) (slot : Option (Keeper S)) (made share : ℕ) →
      Final (Seen (Keeps text failures start seats) id v) words slots
      → standing t (head_view views) ≡ seat → views ≡ v ∷ [] → AtRest (head_view views) → (head_view views).share ≡ share → made ≡ seats → made ≤ share
      → get_elem? slots 0 ≡ maybe.some slot → Leaves text failures start seats id seat.view slot
  leaves_seat words slots slot made share final is only rest same counted most taken =
      let here : v ≡ head_view views = sym (ap head_view only) in
      let at_rest : AtRest v = subst AtRest (sym here) rest in
      let as_share : v.share ≡ share = ap share_of here ∙ same in
      let l = leaves text failures start seats id v words slots slot final (omega arith) at_rest taken in
      subst (λ (x : View). Leaves text failures start seats id x slot) (here ∙ ap (λ (s : Standing). s.view) is) l

  pub leaves_keeper : (slot : Option (Keeper S)) (k : Keeper S) → Leaves text failures start seats id seat.view slot → slot ≡ Some k
      → IsLeftBy text failures start seat.view k
  leaves_keeper slot k l e = subst (IsLeftBy text failures start seat.view) (one l.1.0 k (sym l.1.1 ∙ e)) l.1.2
    where
      one : (a b : Keeper S) → Some a ≡ Some b → a ≡ b
      one a b e = cc

  pub is_some_at : (slot : Option (Keeper S)) → Leaves text failures start seats id seat.view slot → IsSome slot
  is_some_at slot l = subst IsSome (sym l.1.1) (search rules)
