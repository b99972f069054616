-- What an input overwrote, put back, is what was kept before it.
use Rattle.std.proofs.Common.{◌≡◌, ◌≢◌, ℕ, ◌<◌, Bool, true, false, List, length, Option, Some, None, slice_index_or, slice_set, nat_lt, inl, inr, ap, sym, subst, refl, ◌∙◌, arith, ext_get_or, length-set, get_or-set_same, get_or-set_other}
use Rattle.std.specs.Prelude.{if◌then◌else◌}
use Rattle.std.proofs.lemmas.Bool.{ltb-false, ltb-true}
use Rattle.std.proofs.lemmas.Bool.Decides.{eqb_tells}
use Rattle.std.proofs.lemmas.Option.{same_Some}
use Rattle.ballot_law.specs.declared.cards.Kept.{Kept}
use Rattle.ballot_law.specs.declared.cards.KeptMaster.{KeptMaster}
use Rattle.ballot_law.specs.Ballots.{kept_of, no_kept}
use Rattle.sentinel_rules.specs.Changes.{ChangesAt}
use Rattle.sentinel_core.specs.declared.undo.FormerEntry.{FormerEntry}
use Rattle.sentinel_core.specs.Formers.{entry_of, former_of, masters_before, put_back}

-- an entry that was written stands at its place alone
set_back : (masters masters2 : List KeptMaster) (m : ℕ) → length masters2 ≡ length masters → m < length masters
    → ((k : ℕ) → k ≢ m → slice_index_or masters2 k no_kept ≡ slice_index_or masters k no_kept)
    → slice_set masters2 m (slice_index_or masters m no_kept) ≡ masters
set_back masters masters2 m long within f =
    let entry = slice_index_or masters m no_kept in
    ext_get_or no_kept (slice_set masters2 m entry) masters (length-set masters2 m entry ∙ long) at
  where
    at : (k : ℕ) → k < length (slice_set masters2 m (slice_index_or masters m no_kept)) →
        slice_index_or (slice_set masters2 m (slice_index_or masters m no_kept)) k no_kept ≡ slice_index_or masters k no_kept
    at k h = elim (eqb_tells k m) [
      | inl e ↦ subst (λ i. slice_index_or (slice_set masters2 m (slice_index_or masters m no_kept)) i no_kept ≡ slice_index_or masters i no_kept) (sym e.1)
          (get_or-set_same masters2 m (slice_index_or masters m no_kept) no_kept (omega (arith, long, within)))
      | inr n ↦ get_or-set_other masters2 m k (slice_index_or masters m no_kept) no_kept n.1 ∙ f k n.1
    ]

masters_back : (kept kept2 : Kept) (master : Option ℕ) → length kept2.masters ≡ length kept.masters → ChangesAt master kept kept2
    → masters_before kept2.masters (entry_of kept master) ≡ kept.masters
masters_back kept kept2 None long f = ext_get_or no_kept kept2.masters kept.masters long (λ k h. f k (λ e. let no : ⊥ = cc in no))
masters_back kept kept2 (Some m) long f = by_place (nat_lt m (length kept.masters)) refl
  where
    by_place : (b : Bool) → nat_lt m (length kept.masters) ≡ b
        → masters_before kept2.masters (if b then Some (let x : FormerEntry = record { master = m; entry = kept_of kept m } in x) else None) ≡ kept.masters
    by_place true e = set_back kept.masters kept2.masters m long (ltb-true m (length kept.masters) e) (λ k apart. f k (λ s. apart (sym (same_Some m k s))))
    by_place false e = ext_get_or no_kept kept2.masters kept.masters long
        (λ k h. f k (λ s. let same : m ≡ k = cc in let past = ltb-false m (length kept.masters) e in let no : ⊥ = omega (arith, past, h, same, long) in no))

-- an input that changes the entry of this master alone
pub before_is : (kept kept2 : Kept) (master : Option ℕ) → length kept2.masters ≡ length kept.masters → ChangesAt master kept kept2
    → put_back kept2 (former_of kept master) ≡ kept
before_is kept kept2 master long f =
    ap (λ masters. let x : Kept = record { current = kept.current; masters = masters } in x) (masters_back kept kept2 master long f)
