-- The table of a new cell keeps the rule, and so does what fills its slot.
use Rattle.std.proofs.Common.{◌≡◌, ℕ, ◌+◌, ◌-◌, ◌^◌, ◌<◌, ◌≤◌, get_or, length, List, [], ◌∷◌, Option, Some, None, refl, sym, subst, inl, arith}
use Rattle.std.specs.Prelude.{IfSome, Contains}
use Rattle.ballot_law.specs.Rosters.{master_at}
use Rattle.sentinel_rules.proofs.KeptParts.{kept_at}
use Rattle.atomic_table.specs.Table.{opening}
use Rattle.ballot_law.specs.Ballots.{card_of}
use Rattle.ballot_law.specs.declared.cards.TheConstants.{MAX_EPOCH}
use Rattle.sentinel_conf.specs.Rewritten.{IsKeptPart}
use Rattle.sentinel_rules.specs.Plans.{addr_at, master_count}
use Rattle.sentinel_outbox.specs.declared.phase.Phase.{Phase}
use Rattle.sentinel_outbox.specs.declared.phase.Phase.TheVariants.{Ready}
use Rattle.sentinel_core.specs.Sentinels.{Whole, IsWhole, IsSettled}
use Rattle.sentinel_cell.specs.declared.keeper.Keeper.{Keeper}
use Rattle.sentinel_cell.specs.declared.view.Stage.TheVariants.{Opening as FirstStage}
use Rattle.sentinel_cell.specs.Histories.{World, IsLegal, IsGood, IsLeft, IsText, Fits, Keeps, opened, stored_at}
use Rattle.sentinel_cell.specs.Turns.{first_view_at, unpacked}
use Rattle.sentinel_cell.proofs.Steps.{starts}

pub settled_at : (m : Whole) → IsWhole m → m.phase ≡ Ready → m.core.kept ≡ m.stored
settled_at m w is = let h : IsSettled Ready m.core m.stored = subst (λ (p : Phase). IsSettled p m.core m.stored) is w.settled in h

-- a stored configuration is of the master's list, and of an epoch that has come
pub is_listed : (m : Whole) (k : ℕ) → IsKeptPart m.plan.conf m.stored → k < master_count m.plan
    → ((card_of m.stored k).epoch ≤ MAX_EPOCH) × Contains (master_at m.plan.conf.roster k).nodes (card_of m.stored k).addr
is_listed m k part lt =
    let at = kept_at m.plan.conf m.stored k lt part in
    let high : m.stored.current ≤ MAX_EPOCH = part.current in
    let low : (card_of m.stored k).epoch ≤ m.stored.current = at.epoch in
    (omega arith, at.addr)

pub kept_ready : (m : Whole) → IsWhole m → m.phase ≡ Ready → IsKeptPart m.plan.conf m.stored
kept_ready m w is = subst (IsKeptPart m.plan.conf) (settled_at m w is) w.core.kept

module _ {S : Type 0} (text : S → Option (List ℕ)) (failures : S → ℕ) where
  good_at_first : (k : Keeper S) → IsWhole k.sentinel → k.sentinel.phase ≡ Ready → IsGood (opened text failures k)
  good_at_first k w is = record { plan = w.plan; core = w.core; ahead = w.ahead; settled = λ _. settled_at k.sentinel w is }

  known : (w : World) (t : Option (List ℕ)) → w.text ≡ t → IfSome t (IsText text failures w)
  known w None e = tt
  known w (Some bytes) e = inl e

  left_at_first : (k : Keeper S) → IsWhole k.sentinel → k.sentinel.phase ≡ Ready → failures k.store < 2 ^ 64 - 1 → IsLeft text failures (opened text failures k) k
  left_at_first k w is room =
      record {
        plan = refl;
        core = refl;
        stored = refl;
        phase = is;
        change = refl;
        failures_are = refl;
        text_is = known (opened text failures k) (text k.store) refl;
        kept = kept_ready k.sentinel w is;
        room = λ _. room;
      }

  pub starts_cell : (seats : ℕ) (k : Keeper S) (words ws : List ℕ) → 0 < seats → words ≡ ws → length ws ≡ master_count k.sentinel.plan + 2 → get_or ws 0 0 ≡ 0 → get_or ws 1 0 ≡ 0
      → ((x : ℕ) → x < master_count k.sentinel.plan → unpacked (addr_at k.sentinel.plan) x (get_or ws (x + 2) 0) ≡ card_of k.sentinel.stored x)
      → Keeps text failures (opened text failures k) seats (opening words (None ∷ []) (first_view_at FirstStage seats))
  starts_cell seats k words ws some_seats same wide none_served none_drawn cards =
      let start : World = opened text failures k in
      subst (λ (l : List ℕ). Keeps text failures start seats (opening l (None ∷ []) (first_view_at FirstStage seats))) (sym same)
      (starts (IsLegal start) (stored_at start) (Fits text failures start) (addr_at start.plan) (master_count start.plan) seats None ws some_seats wide none_served none_drawn
      cards)

  -- the rule was told of the same Sentinel and store
  pub fits_first : (told k : Keeper S) → told ≡ k → IsWhole k.sentinel → k.sentinel.phase ≡ Ready → failures k.store < 2 ^ 64 - 1
      → IsLegal (opened text failures told) [] × Fits text failures (opened text failures told) [] (Some k)
  fits_first told k same w is room =
      subst (λ (x : Keeper S). IsLegal (opened text failures x) [] × Fits text failures (opened text failures x) [] (Some k)) (sym same)
      ((good_at_first k w is, tt), (k, refl, left_at_first k w is room))
