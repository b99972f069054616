-- What a process keeps is in its own lists, and lists are joined into one roster.
use Rattle.std.proofs.Common.{ℕ, suc, ◌<◌, List, [], ◌∷◌, ◌++◌, length, refl, sym, subst, ◌∙◌, arith, slice_index_or}
use Rattle.std.specs.Prelude.{◌≤◌, min, All}
use Rattle.std.specs.List.{AllZip}
use Rattle.std.proofs.lemmas.List.Elements.{All-nil, All-cons, Contains-append_left, Contains-append_right}
use Rattle.ballot_law.specs.declared.cards.Kept.{Kept}
use Rattle.ballot_law.specs.Rosters.{Roster, MasterPlan}
use Rattle.sentinel_cell.specs.Histories.{World, IsGood}
use Rattle.sentinel_rules.specs.Plans.{master_count}
use Rattle.sentinel_rules.proofs.KeptParts.{kept_at}
use Rattle.process_laws.specs.Actions.{actions_after, at_first}
use Rattle.process_laws.specs.Differing.{IsMasterWithin, HaveSameIds, DifferInNodes}
use Rattle.process_laws.specs.OwnLists.{IsListed, KeepsTo, ListsAreKept, IsSameMaster, AreSameButForNodes, ListsHaveAUnion}
use Rattle.process_laws.proofs.Differing.{same_differs}
use Rattle.process_laws.proofs.Merging.{merged, stands_at_first}

listed : (w : World) (m : ℕ) → m < master_count w.plan → IsGood w → IsListed w.plan m w.core.kept
listed w m low good = (kept_at w.plan.conf w.core.kept m low good.core.kept).addr

kept_well : (w : World) (m : ℕ) → IsGood w → KeepsTo w.plan w m
kept_well w m good low =
    let kept : IsListed w.plan m w.core.kept = listed w m low good in
    (kept, λ up. subst (λ (k : Kept). IsListed w.plan m k) (good.settled up) kept)

pub lists_are_kept : ListsAreKept
lists_are_kept roster start actions i m is acts low runs =
    let stands = (merged roster (length start.stores) (at_first start) [] actions start (stands_at_first roster start is) acts).3 in
    kept_well (actions_after (at_first start) actions i).world m (stands.own i low runs).2

-- Lists that are joined

least : (a b : ℕ) → min a b ≤ a
least a b = omega arith

least_other : (a b : ℕ) → min a b ≤ b
least_other a b = omega arith

less_through : (a b c : ℕ) → b ≤ a → c ≤ b → c ≤ a
less_through a b c one two = omega arith

abbrev joined_plan : MasterPlan → MasterPlan → MasterPlan
joined_plan one other = record one { nodes = one.nodes ++ other.nodes; quorum = min one.quorum other.quorum }

abbrev joined_masters : List MasterPlan → List MasterPlan → List MasterPlan
joined_masters [] ys = []
joined_masters (x ∷ xs) [] = []
joined_masters (x ∷ xs) (y ∷ ys) = joined_plan x y ∷ joined_masters xs ys

abbrev Same : List MasterPlan → List MasterPlan → Type 0
Same xs ys = AllZip IsSameMaster xs ys

abbrev Within : List MasterPlan → List MasterPlan → Type 0
Within xs ys = AllZip IsMasterWithin xs ys

in_first : (xs ys : List MasterPlan) → Same xs ys → Within xs (joined_masters xs ys)
in_first [] [] s = tt
in_first [] (y ∷ ys) s = absurd s
in_first (x ∷ xs) [] s = absurd s
in_first (x ∷ xs) (y ∷ ys) s = (record { name = refl; quorum = least x.quorum y.quorum; nodes = λ addr h. Contains-append_left x.nodes y.nodes addr h }, in_first xs ys s.1)

in_second : (xs ys : List MasterPlan) → Same xs ys → Within ys (joined_masters xs ys)
in_second [] [] s = tt
in_second [] (y ∷ ys) s = absurd s
in_second (x ∷ xs) [] s = absurd s
in_second (x ∷ xs) (y ∷ ys) s = (
  record { name = sym s.0; quorum = least_other x.quorum y.quorum; nodes = λ addr h. Contains-append_right x.nodes y.nodes addr h },
  in_second xs ys s.1,
)

within_through : (xs ys zs : List MasterPlan) → Within xs ys → Within ys zs → Within xs zs
within_through [] [] zs a b = b
within_through [] (y ∷ ys) zs a b = absurd a
within_through (x ∷ xs) [] zs a b = absurd a
within_through (x ∷ xs) (y ∷ ys) [] a b = absurd b
within_through (x ∷ xs) (y ∷ ys) (z ∷ zs) a b = (
  record { name = a.0.name ∙ b.0.name; quorum = less_through x.quorum y.quorum z.quorum a.0.quorum b.0.quorum; nodes = λ addr h. b.0.nodes addr (a.0.nodes addr h) },
  within_through xs ys zs a.1 b.1,
)

ids_through : (one two three : Roster) → HaveSameIds one two → HaveSameIds two three → HaveSameIds one three
ids_through one two three a b = (a.0 ∙ b.0, λ i. a.1 i ∙ b.1 i)

ids_back : (one two : Roster) → HaveSameIds one two → HaveSameIds two one
ids_back one two a = (sym a.0, λ i. sym (a.1 i))

differ_through : (one two three : Roster) → DifferInNodes one two → DifferInNodes two three → DifferInNodes one three
differ_through one two three a b = (ids_through one two three a.0 b.0, within_through one.masters two.masters three.masters a.1 b.1)

-- masters that are the same as those of a part of the whole
same_through : (xs ys zs : List MasterPlan) → Within xs zs → Same xs ys → Same zs ys
same_through [] [] [] a b = tt
same_through [] [] (z ∷ zs) a b = absurd a
same_through [] (y ∷ ys) zs a b = absurd b
same_through (x ∷ xs) [] zs a b = absurd b
same_through (x ∷ xs) (y ∷ ys) [] a b = absurd a
same_through (x ∷ xs) (y ∷ ys) (z ∷ zs) a b = (sym a.0.name ∙ b.0, same_through xs ys zs a.1 b.1)

abbrev IsUnion : Roster → List Roster → Roster → Type 0
IsUnion first others whole = DifferInNodes first whole × All (λ (other : Roster). DifferInNodes other whole) others

joined_with : (first other : Roster) (others : List Roster) (whole : Roster) → AreSameButForNodes first other → IsUnion first others whole →
    (more : Roster) × DifferInNodes first more × All (λ (r : Roster). DifferInNodes r more) (other ∷ others)
joined_with first other others whole same u =
    let more : Roster = record whole { masters = joined_masters whole.masters other.masters } in
    let alike : Same whole.masters other.masters = same_through first.masters other.masters whole.masters u.0.1 same.1 in
    let grown : DifferInNodes whole more = ((refl, λ i. refl), in_first whole.masters other.masters alike) in
    let there : DifferInNodes other more = (ids_through other first whole (ids_back first other same.0) u.0.0, in_second whole.masters other.masters alike) in (
      more,
      differ_through first whole more u.0 grown,
      All-cons (λ (r : Roster). DifferInNodes r more) other others there (λ k d low. differ_through (slice_index_or others k d) whole more (u.1 k d low) grown),
    )

pub lists_have_a_union : ListsHaveAUnion
lists_have_a_union first [] all = (first, same_differs first first refl, All-nil (λ (r : Roster). DifferInNodes r first))
lists_have_a_union first (other ∷ others) all =
    let rest = lists_have_a_union first others (λ k d low. all (suc k) d (omega arith)) in
    joined_with first other others rest.0 (all 0 other (omega arith)) (rest.1, rest.2)
