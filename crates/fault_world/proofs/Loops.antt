-- The turns and the ends of the loops that look at nodes.
use Rattle.std.proofs.Common.{inl, inr, ◌≡◌, ◌≢◌, ℕ, ◌<◌, ◌≤◌, ◌+◌, Option, List, [], ◌∷◌, ◌++◌, length, slice_get, get_or, map, sym, ◌∙◌, ap, subst, arith}
use Rattle.std.specs.Prelude.{All}
use Rattle.std.proofs.lemmas.Bool.{cases_eq, cases_order}
use Rattle.std.proofs.lemmas.List.{map-append, append_assoc}
use Rattle.std.proofs.lemmas.List.Elements.{All-push, All-head, All-tail}
use Rattle.std.proofs.lemmas.Option.{same_Some, slice_get_within}
use Rattle.ballot_law.specs.declared.cards.Card.{Card}
use Rattle.ballot_law.specs.declared.messages.NodeName.{NodeName}
use Rattle.ballot_law.specs.Rosters.{Roster}
use Rattle.boxed_nodes.specs.Images.{Image, card_shown}
use Rattle.boxed_nodes.specs.Moves.{Shows, ShowsKind, ShowsCard, IsFresh}
use Rattle.fault_world.specs.Groups.{IsPlaced, HasNamed, IsFirstNamed, AreApart, HasAllBelow, IsSentinelName, HaveSameCards, IsAlike, IsMatched, BeginAlike}
use Rattle.fault_world.proofs.Searching.{read_at, AllBefore, before_more, before_end, all_from_each, each_from_all, NoneBefore, PlacedBefore, FirstBefore, NamedBelow, SameBelow, AlikeBefore, MatchedBefore, Seated}

module _ {N : Type 0} (nodes : List N) where
  -- a fact of each node
  pub more : (k : ℕ) (x : N) → k < length nodes → x ≡ get_or nodes k x → (P : N → Type 0) → P x → AllBefore nodes k P → AllBefore nodes (k + 1) P
  more k x h e P p before = before_more nodes k x (read_at nodes k x h e) P p before

  pub all_at_end : (k : ℕ) → length nodes ≤ k → (P : N → Type 0) → AllBefore nodes k P → All P nodes
  all_at_end k long P before = all_from_each P nodes (before_end nodes k long P before)

  pub not_all : (k : ℕ) (x : N) → k < length nodes → x ≡ get_or nodes k x → (P : N → Type 0) → ¬ (P x) → ¬ (All P nodes)
  not_all k x h e P wrong all = wrong (each_from_all P nodes all k x (read_at nodes k x h e))

  -- the node with a name
  pub found : (k : ℕ) (x : N) → k < length nodes → x ≡ get_or nodes k x → (wanted : NodeName) (name : N → NodeName) → name x ≡ wanted → HasNamed name nodes wanted
  found k x h e wanted name same = (k, x, read_at nodes k x h e, same)

  pub none_found : (k : ℕ) → length nodes ≤ k → (wanted : NodeName) (name : N → NodeName) → NoneBefore nodes k wanted name → ¬ (HasNamed name nodes wanted)
  none_found k long wanted name none has = before_end nodes k long (λ n. name n ≢ wanted) none has.0 has.1 has.2 has.3

  -- placed nodes, of the kinds that their names tell
  pub placed_more : (roster : Roster) (k : ℕ) (x : N) → k < length nodes → x ≡ get_or nodes k x → (name : N → NodeName) (shows : N → Shows) → IsPlaced roster (name x) →
      ShowsKind (name x) (shows x) → PlacedBefore roster nodes k name shows → PlacedBefore roster nodes (k + 1) name shows
  placed_more roster k x h e name shows placed kind before =
      record { placed = more k x h e (λ n. IsPlaced roster (name n)) placed before.placed; kinds = more k x h e (λ n. ShowsKind (name n) (shows n)) kind before.kinds }

  -- names that come once
  pub not_first : (j place : ℕ) (x y : N) → j < place → j < length nodes → x ≡ get_or nodes j x → place < length nodes → y ≡ get_or nodes place y → (name : N → NodeName) →
      name x ≡ name y → ¬ (IsFirstNamed name nodes place)
  not_first j place x y less hj ej hp ep name same first = first j x y less (read_at nodes j x hj ej) (read_at nodes place y hp ep) same

  pub is_first : (j place : ℕ) (y : N) → place ≤ j → place < length nodes → y ≡ get_or nodes place y → (wanted : NodeName) (name : N → NodeName) → wanted ≡ name y →
      NoneBefore nodes j wanted name → IsFirstNamed name nodes place
  is_first j place y long h e wanted name same none i m n less at-m at-n twice =
      none i m (omega (arith, less, long)) at-m (twice ∙ ap name (same_Some n y (sym at-n ∙ read_at nodes place y h e)) ∙ sym same)

  pub first_more : (p : ℕ) (name : N → NodeName) → IsFirstNamed name nodes p → FirstBefore nodes p name → FirstBefore nodes (p + 1) name
  first_more p name first before q less =
      elim (cases_eq q p) as (λ _. IsFirstNamed name nodes q) [
        | inl same ↦ subst (IsFirstNamed name nodes) (sym same) first
        | inr other ↦ before q (omega (arith, other, less))
      ]

  pub are_apart : (p : ℕ) → length nodes ≤ p → (name : N → NodeName) → FirstBefore nodes p name → AreApart name nodes
  are_apart p long name first j k m n at-j at-k same =
      elim (cases_order j k) as (λ _. j ≡ k) [
        | inl e ↦ e
        | inr other ↦ (elim other as (λ _. j ≡ k) [
          | inl less ↦ absurd (first k (let h = slice_get_within nodes k n at-k in omega (arith, h, long)) j m n less at-j at-k same)
          | inr more ↦ absurd (first j (let h = slice_get_within nodes j m at-j in omega (arith, h, long)) k n m more at-k at-j (sym same))
        ])
      ]

  pub not_apart : (p : ℕ) (name : N → NodeName) → ¬ (IsFirstNamed name nodes p) → ¬ (AreApart name nodes)
  not_apart p name wrong apart = wrong (λ j m n less at-m at-n same. (let e = apart j p m n at-m at-n same in omega (arith, e, less)))

  -- all of a kind
  pub named_more : (numbered : ℕ → NodeName) (i : ℕ) (name : N → NodeName) → HasNamed name nodes (numbered i) → NamedBelow nodes numbered i name →
      NamedBelow nodes numbered (i + 1) name
  named_more numbered i name has before j less =
      elim (cases_eq j i) as (λ _. HasNamed name nodes (numbered j)) [
        | inl same ↦ subst (λ k. HasNamed name nodes (numbered k)) (sym same) has
        | inr other ↦ before j (omega (arith, other, less))
      ]

  pub all_named : (numbered : ℕ → NodeName) (i count : ℕ) → count ≤ i → (name : N → NodeName) → NamedBelow nodes numbered i name → HasAllBelow name nodes numbered count
  all_named numbered i count long name before j less = before j (omega (arith, less, long))

  pub not_named : (numbered : ℕ → NodeName) (i count : ℕ) → i < count → (name : N → NodeName) → ¬ (HasNamed name nodes (numbered i)) → ¬ (HasAllBelow name nodes numbered count)
  not_named numbered i count less name wrong all = wrong (all i less)

  -- configurations of two Sentinels
  pub alike_more : (roster : Roster) (place k : ℕ) (x y : N) → place < length nodes → x ≡ get_or nodes place x → k < length nodes → y ≡ get_or nodes k y →
      (name : N → NodeName) (shows : N → Shows)
      → (IsSentinelName (name y) → HaveSameCards roster (shows x roster) (shows y roster)) → AlikeBefore roster nodes place k name shows →
      AlikeBefore roster nodes place (k + 1) name shows
  alike_more roster place k x y hp ep hk ek name shows same before j m n less at-m at-n =
      elim (cases_eq j k) as (λ _. IsSentinelName (name n) → HaveSameCards roster (shows m roster) (shows n roster)) [
        | inl e ↦ (let xm = same_Some x m (sym (read_at nodes place x hp ep) ∙ at-m) in
            let yn = same_Some y n (sym (read_at nodes k y hk ek) ∙ ap (slice_get nodes) (sym e) ∙ at-n) in
            subst (λ b. IsSentinelName (name b) → HaveSameCards roster (shows m roster) (shows b roster)) yn
            (subst (λ a. IsSentinelName (name y) → HaveSameCards roster (shows a roster) (shows y roster)) xm same))
        | inr other ↦ before j m n (omega (arith, other, less)) at-m at-n
      ]

  pub is_alike : (roster : Roster) (place k : ℕ) → length nodes ≤ k → (name : N → NodeName) (shows : N → Shows) → AlikeBefore roster nodes place k name shows →
      IsAlike name shows roster nodes place
  is_alike roster place k long name shows before j m n at-m at-n = before j m n (let h = slice_get_within nodes j n at-n in omega (arith, h, long)) at-m at-n

  pub not_alike : (roster : Roster) (place k : ℕ) (x y : N) → place < length nodes → x ≡ get_or nodes place x → k < length nodes → y ≡ get_or nodes k y →
      (name : N → NodeName) (shows : N → Shows)
      → ¬ (IsSentinelName (name y) → HaveSameCards roster (shows x roster) (shows y roster)) → ¬ (IsAlike name shows roster nodes place)
  not_alike roster place k x y hp ep hk ek name shows wrong alike = wrong (λ sentinel. alike k x y (read_at nodes place x hp ep) (read_at nodes k y hk ek) sentinel)

  pub is_matched : (roster : Roster) (p : ℕ) (x : N) → p < length nodes → x ≡ get_or nodes p x → (name : N → NodeName) (shows : N → Shows) → ¬ (IsSentinelName (name x)) →
      IsMatched name shows roster nodes p
  is_matched roster p x h e name shows other m at-m sentinel =
      absurd (other (subst (λ a. IsSentinelName (name a)) (sym (same_Some x m (sym (read_at nodes p x h e) ∙ at-m))) sentinel))

  pub not_matched : (roster : Roster) (p : ℕ) (x : N) → p < length nodes → x ≡ get_or nodes p x → (name : N → NodeName) (shows : N → Shows) → IsSentinelName (name x) →
      ¬ (IsAlike name shows roster nodes p) → ¬ (IsMatched name shows roster nodes p)
  not_matched roster p x h e name shows sentinel wrong matched = wrong (matched x (read_at nodes p x h e) sentinel)

  pub matched_more : (roster : Roster) (p : ℕ) (name : N → NodeName) (shows : N → Shows) → IsMatched name shows roster nodes p → MatchedBefore roster nodes p name shows →
      MatchedBefore roster nodes (p + 1) name shows
  matched_more roster p name shows matched before q less =
      elim (cases_eq q p) as (λ _. IsMatched name shows roster nodes q) [
        | inl same ↦ subst (IsMatched name shows roster nodes) (sym same) matched
        | inr other ↦ before q (omega (arith, other, less))
      ]

  pub begin_alike : (roster : Roster) (p : ℕ) → length nodes ≤ p → (name : N → NodeName) (shows : N → Shows) → MatchedBefore roster nodes p name shows →
      BeginAlike name shows roster nodes
  begin_alike roster p long name shows before j k m n at-m at-n sm sn = before j (let h = slice_get_within nodes j m at-m in omega (arith, h, long)) m at-m sm k m n at-m at-n sn

  pub not_begun : (roster : Roster) (p : ℕ) (name : N → NodeName) (shows : N → Shows) → ¬ (IsMatched name shows roster nodes p) → ¬ (BeginAlike name shows roster nodes)
  not_begun roster p name shows wrong alike =
      wrong (λ x at-x sentinel k m n at-m at-n sn. alike p k m n at-m at-n (subst (λ a. IsSentinelName (name a)) (same_Some x m (sym at-x ∙ at-m)) sentinel) sn)

-- configurations that two nodes tell
pub same_more : (roster : Roster) (m : ℕ) (a b : Option Card) (one other : Shows) → ShowsCard m a one → ShowsCard m b other → a ≡ b → SameBelow m (one roster) (other roster) →
    SameBelow (m + 1) (one roster) (other roster)
same_more roster m a b one other tells-a tells-b same before j less x y shown-x shown-y =
    elim (cases_eq j m) as (λ _. card_shown x j ≡ card_shown y j) [
      | inl e ↦ subst (λ i. card_shown x i ≡ card_shown y i) (sym e) (sym (tells-a.each roster x shown-x) ∙ same ∙ tells-b.each roster y shown-y)
      | inr other ↦ before j (omega (arith, other, less)) x y shown-x shown-y
    ]

pub same_cards : (roster : Roster) (m : ℕ) (one other : Image → Type 0) → length roster.masters ≤ m → SameBelow m one other → HaveSameCards roster one other
same_cards roster m one other long before j less = before j (omega (arith, less, long))

pub not_same : (roster : Roster) (m : ℕ) (a b : Option Card) (one other : Shows) (one_knows other_knows : Roster → Type 0) → m < length roster.masters → ShowsCard m a one →
    ShowsCard m b other → a ≢ b
    → IsFresh one_knows one → IsFresh other_knows other → one_knows roster → other_knows roster → ¬ (HaveSameCards roster (one roster) (other roster))
not_same roster m a b one other one_knows other_knows less tells-a tells-b apart fresh-a fresh-b knows-a knows-b same =
    let x = fresh-a.each roster knows-a in
    let y = fresh-b.each roster knows-b in
    apart (tells-a.each roster x.0 x.2 ∙ same m less x.0 y.0 x.2 y.2 ∙ sym (tells-b.each roster y.0 y.2))

-- a member more, and the first of the nodes that wait
pub seated_more : {M N : Type 0} (members after : List M) (rest tail whole : List N) (m : M) (x : N) → after ≡ members ++ m ∷ [] → rest ≡ x ∷ tail →
    (node : M → N) (new : M → Type 0) (fresh : N → Type 0) → node m ≡ x → new m → Seated members rest whole node new fresh → Seated after tail whole node new fresh
seated_more members after rest tail whole m x more_is rest_is node new fresh same is_new so_far =
    record {
      nodes =
          ap (λ ms. map node ms ++ tail) more_is
          ∙ ap (λ ns. ns ++ tail) (map-append node members (m ∷ []))
          ∙ append_assoc (map node members) (node m ∷ []) tail
          ∙ ap (λ n. map node members ++ n ∷ tail) same
          ∙ ap (λ ns. map node members ++ ns) (sym rest_is)
          ∙ so_far.nodes;
      each = subst (All new) (sym more_is) (All-push new members m so_far.each is_new);
      waiting = All-tail fresh x tail (subst (All fresh) rest_is so_far.waiting);
    }

pub first_waiting : {N : Type 0} (rest tail : List N) (x : N) → rest ≡ x ∷ tail → (fresh : N → Type 0) → All fresh rest → fresh x
first_waiting rest tail x rest_is fresh all = All-head fresh x tail (subst (All fresh) rest_is all)
