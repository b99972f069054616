-- What is known of the nodes that a loop has passed.
use Rattle.std.proofs.Common.{inl, inr, ◌≡◌, ◌≢◌, ℕ, ◌<◌, ◌≤◌, ◌+◌, Some, List, length, slice_get, get_or, map, ◌++◌, refl, sym, ◌∙◌, ap, subst, arith}
use Rattle.std.specs.Prelude.{All}
use Rattle.std.proofs.lemmas.Bool.{cases_eq}
use Rattle.std.proofs.lemmas.Option.{same_Some, slice_get_within, slice_get_read, slice_get-get_or, get_or_from_slice_get}
use Rattle.ballot_law.specs.declared.messages.NodeName.{NodeName}
use Rattle.ballot_law.specs.Rosters.{Roster}
use Rattle.boxed_nodes.specs.Images.{Image, card_shown}
use Rattle.boxed_nodes.specs.Moves.{Shows, ShowsKind}
use Rattle.fault_world.specs.Groups.{IsPlaced, IsFirstNamed, HasAllBelow, IsSentinelName, HaveSameCards, IsMatched}

-- what stands at a place that a loop reads
pub read_at : {N : Type 0} (xs : List N) (k : ℕ) (x : N) → k < length xs → x ≡ get_or xs k x → slice_get xs k ≡ Some x
read_at xs k x h e = slice_get_read xs (length xs) k x refl h e

-- all elements before a place are in P
abbrev pub AllBefore : {N : Type 0} → List N → ℕ → (N → Type 0) → Type 0
AllBefore {N} xs k P = (j : ℕ) (y : N) → j < k → slice_get xs j ≡ Some y → P y

pub before_more : {N : Type 0} (xs : List N) (k : ℕ) (x : N) → slice_get xs k ≡ Some x → (P : N → Type 0) → P x → AllBefore xs k P → AllBefore xs (k + 1) P
before_more xs k x at' P p before j y less e =
    elim (cases_eq j k) as (λ _. P y) [
      | inl same ↦ subst P (same_Some x y (sym at' ∙ ap (slice_get xs) (sym same) ∙ e)) p
      | inr other ↦ before j y (omega (arith, other, less)) e
    ]

pub before_end : {N : Type 0} (xs : List N) (k : ℕ) → length xs ≤ k → (P : N → Type 0) → AllBefore xs k P → (j : ℕ) (y : N) → slice_get xs j ≡ Some y → P y
before_end xs k long P before j y e = before j y (let h = slice_get_within xs j y e in omega (arith, h, long)) e

-- between a fact of each element and `All`
pub all_from_each : {N : Type 0} (P : N → Type 0) (xs : List N) → ((j : ℕ) (y : N) → slice_get xs j ≡ Some y → P y) → All P xs
all_from_each P xs each k d h = each k (get_or xs k d) (slice_get-get_or xs k d h)

pub each_from_all : {N : Type 0} (P : N → Type 0) (xs : List N) → All P xs → (j : ℕ) (y : N) → slice_get xs j ≡ Some y → P y
each_from_all P xs all j y e = subst P (get_or_from_slice_get xs j y y e) (all j y (slice_get_within xs j y e))

-- no node before a place has the name
abbrev pub NoneBefore : {N : Type 0} → List N → ℕ → NodeName → (N → NodeName) → Type 0
NoneBefore {N} nodes k wanted name = AllBefore nodes k (λ n. name n ≢ wanted)

-- each node before a place is placed, and is of the kind that its name tells
pub record PlacedBefore {N : Type 0} (roster : Roster) (nodes : List N) (k : ℕ) (name : N → NodeName) (shows : N → Shows) : Type 0 where
  pub placed : AllBefore nodes k (λ n. IsPlaced roster (name n))
  pub kinds : AllBefore nodes k (λ n. ShowsKind (name n) (shows n))

abbrev pub FirstBefore : {N : Type 0} → List N → ℕ → (N → NodeName) → Type 0
FirstBefore nodes k name = (p : ℕ) → p < k → IsFirstNamed name nodes p

abbrev pub NamedBelow : {N : Type 0} → List N → (ℕ → NodeName) → ℕ → (N → NodeName) → Type 0
NamedBelow nodes numbered count name = HasAllBelow name nodes numbered count

abbrev pub SameBelow : ℕ → (one other : Image → Type 0) → Type 0
SameBelow k one other = (m : ℕ) → m < k → (x y : Image) → one x → other y → card_shown x m ≡ card_shown y m

abbrev pub AlikeBefore : {N : Type 0} → Roster → List N → (place k : ℕ) → (N → NodeName) → (N → Shows) → Type 0
AlikeBefore {N} roster nodes place k name shows =
    (j : ℕ) (m n : N) → j < k → slice_get nodes place ≡ Some m → slice_get nodes j ≡ Some n → IsSentinelName (name n) → HaveSameCards roster (shows m roster) (shows n roster)

abbrev pub MatchedBefore : {N : Type 0} → Roster → List N → ℕ → (N → NodeName) → (N → Shows) → Type 0
MatchedBefore roster nodes k name shows = (p : ℕ) → p < k → IsMatched name shows roster nodes p

-- the members so far, and the nodes that wait
pub record Seated {M N : Type 0} (members : List M) (rest whole : List N) (node : M → N) (new : M → Type 0) (fresh : N → Type 0) : Type 0 where
  pub nodes : map node members ++ rest ≡ whole
  pub each : All new members
  pub waiting : All fresh rest
