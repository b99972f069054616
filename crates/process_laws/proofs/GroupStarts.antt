-- The files of one group are a start: its roster is theirs, or has all their lists, and its votes are those that they tell.
use Rattle.std.proofs.Common.{◌≡◌, ◌≢◌, ℕ, zero, suc, ◌+◌, ◌<◌, ◌≤◌, Bool, true, false, cond, Option, Some, None, List, [], ◌∷◌, ◌++◌, length, refl, sym, ap, subst, ◌∙◌, inl, inr, ⊎_elim, arith, eqb, ne_eqb}
use Rattle.std.specs.Prelude.{All, Contains, IfSome, ◌⊎◌, ◌||◌, replicate, slice_index_or}
use Rattle.std.specs.List.{list_any, AllZip, AllByRecursion, IsDistinct}
use Rattle.std.proofs.lemmas.Bool.{cases_lt, eqb-true}
use Rattle.std.proofs.lemmas.List.{get_or_past, length-replicate}
use Rattle.std.proofs.lemmas.List.Elements.{All-nil, All-replicate, Contains-append_left, Contains-append_right, Contains-append_cases}
use Rattle.std.proofs.lemmas.List.Folds.{list_any_at}
use Rattle.std.proofs.lemmas.Map.Steps.{length-le_from_distinct_below}
use mathlib.Core.Logic.{dite}
use native.Mathlib.Decide.{ℕ_discrete}
use Rattle.ballot_law.specs.declared.addresses.Addr.{Addr}
use Rattle.ballot_law.specs.declared.addresses.RunId.{RunId}
use Rattle.ballot_law.specs.declared.cards.Kept.{Kept}
use Rattle.ballot_law.specs.declared.cards.KeptMaster.{KeptMaster}
use Rattle.ballot_law.specs.Ballots.{no_kept, kept_of, card_of, voted_of, vote, StartAlike}
use Rattle.ballot_law.specs.Law.{IsWellFormed, IsFiled, IsFreshOther, IsStart}
use Rattle.ballot_law.specs.Messages.{Vote}
use Rattle.ballot_law.specs.NodePlaces.{node_count}
use Rattle.ballot_law.specs.Orders.{same_addr, same_id}
use Rattle.ballot_law.specs.Rosters.{Roster, HasDistinctIds, size, id_of, master_at, no_master}
use Rattle.ballot_law.specs.Worlds.{World as Group, Sentinel, Other, Ready, no_sentinel, sentinel_at, started}
use Rattle.ballot_law.proofs.CountedVotes.{same_id-equal}
use Rattle.ballot_law.proofs.Counting.{below_suc}
use Rattle.conf_check.specs.declared.group.report.NamedConf.{NamedConf}
use Rattle.conf_check.specs.Group.Groups.{IsGroupOf}
use Rattle.conf_check.proofs.GroupLemmas.Alike.{kept_of_each}
use Rattle.sentinel_conf.specs.Facts.{IsSoundConf}
use Rattle.sentinel_conf.specs.Meaning.{ConfPlan}
use Rattle.sentinel_conf.specs.Rewritten.{IsKeptPart, IsKeptMaster}
use Rattle.sentinel_rules.specs.Ticks.{at_places}
use Rattle.sentinel_rules.proofs.Choices.{length-at_places, same_addr-same}
use Rattle.process_laws.specs.Differing.{DifferInNodes}
use Rattle.process_laws.specs.GroupStarts.{OpensAt, AreOpening, OneGroupIsAStart, OwnListsAreAStart}
use Rattle.process_laws.proofs.Differing.{as_many, same_id_of, distinct, same_differs, well_formed as formed_by}

-- Lists

only : {X : Type 0} (x y : X) → Contains (x ∷ []) y → x ≡ y
only x y (zero, low, e) = e
only x y (suc k, low, e) = absurd (omega (arith, low))

none : {X : Type 0} (y : X) → Contains [] y → ⊥
none y c = let low : c.0 < 0 = c.1 in omega arith

at_place : {X : Type 0} (f : ℕ → X) (place count k i : ℕ) (d : X) → k < count → place + k ≡ i → slice_index_or (at_places f place count) k d ≡ f i
at_place f place zero k i d low e = absurd (omega arith)
at_place f place (suc count) zero i d low e = ap f (omega arith)
at_place f place (suc count) (suc k) i d low e = at_place f (place + 1) count k i d (omega arith) (omega arith)

any_default : {X : Type 0} (xs : List X) (k : ℕ) (d e : X) → k < length xs → slice_index_or xs k d ≡ slice_index_or xs k e
any_default [] k d e low = absurd (omega arith)
any_default (x ∷ xs) zero d e low = refl
any_default (x ∷ xs) (suc k) d e low = any_default xs k d e (omega arith)

zip_at : {A B : Type 0} (R : A → B → Type 0) (xs : List A) (ys : List B) (m : ℕ) (d : A) (e : B) → AllZip R xs ys → m < length xs →
    R (slice_index_or xs m d) (slice_index_or ys m e)
zip_at R [] ys m d e h low = absurd (omega arith)
zip_at R (x ∷ xs) [] m d e h low = absurd h
zip_at R (x ∷ xs) (y ∷ ys) zero d e h low = h.0
zip_at R (x ∷ xs) (y ∷ ys) (suc m) d e h low = zip_at R xs ys m d e h.1 (omega arith)

-- the place of the first that passes
abbrev first_of : {X : Type 0} → (X → Bool) → List X → ℕ
first_of p [] = 0
first_of p (x ∷ xs) = cond (p x) 0 (suc (first_of p xs))

abbrev IsFirst : {X : Type 0} → (X → Bool) → List X → ℕ → Type 0
IsFirst {X} p xs k = (k < length xs) × ((d : X) → p (slice_index_or xs k d) ≡ true)

first_is : {X : Type 0} (p : X → Bool) (xs : List X) → list_any p xs ≡ true → IsFirst p xs (first_of p xs)
first_is {X} p [] h = absurd (cc)
first_is {X} p (x ∷ xs) h = known (p x) refl h (first_is p xs)
  where
    known : (b : Bool) → p x ≡ b → (b || list_any p xs) ≡ true → (list_any p xs ≡ true → IsFirst p xs (first_of p xs)) →
        IsFirst p (x ∷ xs) (cond b 0 (suc (first_of p xs)))
    known true e h later = (omega arith, λ d. e)
    known false e h later = let r = later h in (let low = r.0 in omega arith, λ d. r.1 d)

-- A file

well_formed : (conf : ConfPlan) → IsKeptPart conf conf.kept → IsWellFormed conf.roster conf.kept
well_formed conf part =
    record {
      masters = kept_of_each conf part;
      cards = λ m low. (at m low).epoch;
      votes = λ m low. (at m low).voted;
      addresses = λ m low.
          let a : Contains (master_at conf.roster m).nodes (card_of conf.kept m).addr = (at m low).addr in
          list_any_at (same_addr (card_of conf.kept m).addr) (master_at conf.roster m).nodes a.0 (card_of conf.kept m).addr a.1
          (subst (λ (x : Addr). same_addr (card_of conf.kept m).addr x ≡ true) (sym a.2) (same_addr-same (card_of conf.kept m).addr));
      candidates = λ m low. (at m low).candidate;
    }
  where
    at : (m : ℕ) → m < length conf.roster.masters → IsKeptMaster conf.kept.current (master_at conf.roster m) (kept_of conf.kept m)
    at m low = zip_at (IsKeptMaster conf.kept.current) conf.roster.masters conf.kept.masters m no_master no_kept part.masters low

-- The votes that files tell

abbrev Tells : Kept → Vote → Type 0
Tells kept v = (voted_of kept v.master ≡ v.epoch) × ((kept_of kept v.master).candidate ≡ Some v.candidate)

abbrev given : (i m epoch : ℕ) → Option RunId → List Vote
given i m epoch None = []
given i m epoch (Some c) = vote i m epoch c ∷ []

-- of the masters below a number
abbrev given_by : Kept → (i masters : ℕ) → List Vote
given_by kept i zero = []
given_by kept i (suc m) = given_by kept i m ++ given i m (voted_of kept m) (kept_of kept m).candidate

-- of the Sentinels below a number
abbrev all_given : (ℕ → Kept) → (masters sentinels : ℕ) → List Vote
all_given kept masters zero = []
all_given kept masters (suc i) = all_given kept masters i ++ given_by (kept i) i masters

given_told : (kept : Kept) (i m : ℕ) (c : Option RunId) → (kept_of kept m).candidate ≡ c → (v : Vote) → Contains (given i m (voted_of kept m) c) v →
    (v.voter ≡ i) × Tells kept v
given_told kept i m None e v c = absurd (none v c)
given_told kept i m (Some candidate) e v c =
    subst (λ (u : Vote). (u.voter ≡ i) × Tells kept u) (only (vote i m (voted_of kept m) candidate) v c) (refl, (refl, e))

by_told : (kept : Kept) (i masters : ℕ) (v : Vote) → Contains (given_by kept i masters) v → (v.voter ≡ i) × Tells kept v
by_told kept i zero v c = absurd (none v c)
by_told kept i (suc m) v c = ⊎_elim
    (by_told kept i m v)
    (given_told kept i m (kept_of kept m).candidate refl v)
    (Contains-append_cases (given_by kept i m) (given i m (voted_of kept m) (kept_of kept m).candidate) v c)

all_told : (kept : ℕ → Kept) (masters sentinels : ℕ) (v : Vote) → Contains (all_given kept masters sentinels) v → (v.voter < sentinels) × Tells (kept v.voter) v
all_told kept masters zero v c = absurd (none v c)
all_told kept masters (suc i) v c = ⊎_elim
    (λ (a : Contains (all_given kept masters i) v). let r = all_told kept masters i v a in (let low = r.0 in omega arith, r.1))
    (λ (b : Contains (given_by (kept i) i masters) v).
    let r = by_told (kept i) i masters v b in (
      let same : v.voter ≡ i = r.0 in omega arith,
      subst (λ (j : ℕ). Tells (kept j) v) (sym r.0) r.1,
    ))
    (Contains-append_cases (all_given kept masters i) (given_by (kept i) i masters) v c)

given_there : (kept : Kept) (i : ℕ) (v : Vote) → v.voter ≡ i → Tells kept v → Contains (given i v.master (voted_of kept v.master) (kept_of kept v.master).candidate) v
given_there kept i v mine t =
    subst (λ (x : ℕ × ℕ × Option RunId). Contains (given x.0 v.master x.1 x.2) v) (λ j. (mine j, sym t.0 j, sym t.1 j)) (0, omega arith, refl)

by_there : (kept : Kept) (i masters : ℕ) (v : Vote) → v.voter ≡ i → v.master < masters → Tells kept v → Contains (given_by kept i masters) v
by_there kept i zero v mine low t = absurd (omega arith)
by_there kept i (suc m) v mine low t = ⊎_elim
    (λ (below : v.master < m).
    Contains-append_left (given_by kept i m) (given i m (voted_of kept m) (kept_of kept m).candidate) v (by_there kept i m v mine below t))
    (λ (same : v.master ≡ m).
    Contains-append_right (given_by kept i m) (given i m (voted_of kept m) (kept_of kept m).candidate) v
    (subst (λ (k : ℕ). Contains (given i k (voted_of kept k) (kept_of kept k).candidate) v) same (given_there kept i v mine t)))
    (below_suc v.master m low)

all_there : (kept : ℕ → Kept) (masters sentinels : ℕ) (v : Vote) → v.voter < sentinels → v.master < masters → Tells (kept v.voter) v →
    Contains (all_given kept masters sentinels) v
all_there kept masters zero v low inside t = absurd (omega arith)
all_there kept masters (suc i) v low inside t = ⊎_elim
    (λ (below : v.voter < i). Contains-append_left (all_given kept masters i) (given_by (kept i) i masters) v (all_there kept masters i v below inside t))
    (λ (same : v.voter ≡ i).
    Contains-append_right (all_given kept masters i) (given_by (kept i) i masters) v
    (by_there (kept i) i masters v same inside (subst (λ (j : ℕ). Tells (kept j) v) same t)))
    (below_suc v.voter i low)

-- a master that the roster hasn't has no candidate
is_master : (kept : Kept) (masters m : ℕ) (c : RunId) → length kept.masters ≡ masters → (kept_of kept m).candidate ≡ Some c → m < masters
is_master kept masters m c long e = ⊎_elim
    (λ (low : m < masters). low)
    (λ (past : masters ≤ m).
    let blank : kept_of kept m ≡ no_kept = get_or_past kept.masters m no_kept (subst (λ (n : ℕ). n ≤ m) (sym long) past) in
    let never : None ≡ Some c = sym (ap (λ (k : KeptMaster). k.candidate) blank) ∙ e in absurd (cc))
    (cases_lt m masters)

-- The start

-- the files of a group but for their data nodes, of which conf_of tells the meaning
pub record IsWithin {X : Type 0} (conf_of : X → ConfPlan) (roster : Roster) (files : List X) : Type 0 where
  pub differ : All (λ file. DifferInNodes (conf_of file).roster roster) files
  pub alike : All (λ one. All (λ other. StartAlike (conf_of one).kept (conf_of other).kept) files) files
  pub count : length files ≡ size roster
  pub each : (place : ℕ) → place < size roster → list_any (λ file. same_id (id_of roster place) (conf_of file).id) files ≡ true

module _ {X : Type 0} (conf_of : X → ConfPlan) (roster : Roster) (first : X) (rest : List X) (sound : All (λ file. IsSoundConf (conf_of file)) (first ∷ rest))
    (group : IsWithin conf_of roster (first ∷ rest)) where
  abbrev files : List X
  files = first ∷ rest

  abbrev n : ℕ
  n = size roster

  -- where the file of the Sentinel at a place stands
  abbrev slot : ℕ → ℕ
  slot i = first_of (λ (file : X). same_id (id_of roster i) (conf_of file).id) files

  abbrev conf_at : ℕ → ConfPlan
  conf_at k = conf_of (slice_index_or files k first)

  abbrev kept_at : ℕ → Kept
  kept_at i = (conf_at (slot i)).kept

  in_slot : (i : ℕ) → i < n → (slot i < length files) × (id_of roster i ≡ (conf_at (slot i)).id)
  in_slot i low =
      let r = first_is (λ (file : X). same_id (id_of roster i) (conf_of file).id) files (group.each i low) in
      (r.0, same_id-equal (id_of roster i) (conf_at (slot i)).id (r.1 first))

  sound_at : (i : ℕ) → i < n → IsSoundConf (conf_at (slot i))
  sound_at i low = sound (slot i) first (in_slot i low).0

  differs_at : (i : ℕ) → i < n → DifferInNodes (conf_at (slot i)).roster roster
  differs_at i low = group.differ (slot i) first (in_slot i low).0

  cards_at : (i j : ℕ) → i < n → j < n → StartAlike (kept_at i) (kept_at j)
  cards_at i j low less = group.alike (slot i) first (in_slot i low).0 (slot j) first (in_slot j less).0

  formed_at : (i : ℕ) → i < n → IsWellFormed roster (kept_at i)
  formed_at i low = formed_by (conf_at (slot i)).roster roster (differs_at i low) (kept_at i) (well_formed (conf_at (slot i)) (sound_at i low).kept)

  pub ids_are : HasDistinctIds roster
  ids_are = distinct (conf_of first).roster roster (group.differ 0 first (omega arith)) (sound 0 first (omega arith)).ids

  abbrev node : Other
  node = record { state = Ready; held = [] }

  abbrev begin : Group
  begin =
      record {
        sentinels = at_places (λ i. started roster (kept_at i)) 0 n;
        stores = replicate (node_count roster) node;
        clients = [];
        messages = [];
        votes = all_given kept_at (length roster.masters) n;
        elected = [];
        said = [];
      }

  count_is : length begin.sentinels ≡ n
  count_is = length-at_places (λ i. started roster (kept_at i)) 0 n

  node_is : (i : ℕ) → i < n → sentinel_at begin i ≡ started roster (kept_at i)
  node_is i low = at_place (λ i. started roster (kept_at i)) 0 n i i no_sentinel low (omega arith)

  file_is : (i : ℕ) → i < n → (sentinel_at begin i).file ≡ kept_at i
  file_is i low = ap (λ (s : Sentinel). s.file) (node_is i low)

  filed : (v : Vote) → Contains begin.votes v → IsFiled begin v
  filed v c =
      let r = all_told kept_at (length roster.masters) n v c in
      record {
        place = subst (λ (k : ℕ). v.voter < k) (sym count_is) r.0;
        voted = subst (λ (k : Kept). voted_of k v.master ≡ v.epoch) (sym (file_is v.voter r.0)) r.1.0;
        candidate = subst (λ (k : Kept). (kept_of k v.master).candidate ≡ Some v.candidate) (sym (file_is v.voter r.0)) r.1.1;
      }

  filed_there : (v : Vote) → IsFiled begin v → Contains begin.votes v
  filed_there v f =
      let low : v.voter < n = subst (λ (k : ℕ). v.voter < k) count_is f.place in
      let t : Tells (kept_at v.voter) v = subst (λ (k : Kept). Tells k v) (file_is v.voter low) (f.voted, f.candidate) in
      all_there kept_at (length roster.masters) n v low
      (is_master (kept_at v.voter) (length roster.masters) v.master v.candidate (formed_at v.voter low).masters t.1) t

  starts : IsStart roster begin
  starts =
      record {
        count = count_is;
        fresh = λ i low. inl (node_is i low ∙ sym (ap (λ (s : Sentinel). started roster s.file) (node_is i low)));
        files = λ i low. subst (IsWellFormed roster) (sym (file_is i low)) (formed_at i low);
        same_cards = λ i j low less m.
            ap (λ (k : Kept). card_of k m) (file_is i low) ∙
            (cards_at i j low less m ∙ sym (ap (λ (k : Kept). card_of k m) (file_is j less)));
        stores = All-replicate IsFreshOther (node_count roster) node (inl refl, refl);
        clients = All-nil (λ client. IfSome client IsFreshOther);
        messages = refl;
        votes = filed;
        all_votes = filed_there;
        elected = refl;
        said = refl;
      }

  -- Each file opens its Sentinel

  opens : (i : ℕ) → i < n → OpensAt roster begin i (conf_at (slot i))
  opens i low = (
    low,
    λ profile reboots now.
        record {
          place = refl;
          roster_is = differs_at i low;
          plan =
              record {
                conf = sound_at i low;
                place = subst (λ (k : ℕ). i < k) (sym (as_many (conf_at (slot i)).roster roster (differs_at i low))) low;
                own = same_id_of (conf_at (slot i)).roster roster (differs_at i low) i ∙ (in_slot i low).1;
              };
          file_is = sym (file_is i low);
          core = refl;
          stored = sym (file_is i low);
          runs = refl;
        },
  )

  -- and there are as many files as Sentinels, so each is one of these

  apart : (i j : ℕ) → i < n → j < n → slot i ≡ slot j → i ≡ j
  apart i j low less e =
      ids_are i j low less ((in_slot i low).1 ∙ (ap (λ (k : ℕ). (conf_at k).id) e ∙ sym (in_slot j less).1))

  abbrev slots : ℕ → List ℕ
  slots zero = []
  slots (suc i) = slot i ∷ slots i

  slots_long : (k : ℕ) → length (slots k) ≡ k
  slots_long zero = refl
  slots_long (suc k) = ap suc (slots_long k)

  abbrev IsSlot : (k count : ℕ) → Type 0
  IsSlot k count = (i : ℕ) × (i < count) × (slot i ≡ k)

  seeks : (k count : ℕ) → IsSlot k count ⊎ ((i : ℕ) → i < count → slot i ≢ k)
  seeks k zero = inr (λ i low. absurd (omega arith))
  seeks k (suc count) = dite (ℕ_discrete (slot count) k)
      (λ (e : slot count ≡ k). inl (count, omega arith, e))
      (λ (no : slot count ≢ k). ⊎_elim
      (λ (f : IsSlot k count). inl (f.0, let low = f.1 in omega arith, f.2))
      (λ (none : (i : ℕ) → i < count → slot i ≢ k).
      inr (λ i low. ⊎_elim (λ (below : i < count). none i below) (λ (same : i ≡ count). subst (λ (j : ℕ). slot j ≢ k) (sym same) no) (below_suc i count low)))
      (seeks k count))

  all_apart : (k count : ℕ) → ((i : ℕ) → i < count → slot i ≢ k) → AllByRecursion (λ (y : ℕ). eqb k y ≡ false) (slots count)
  all_apart k zero none = tt
  all_apart k (suc count) none = (ne_eqb k (slot count) (λ e. none count (omega arith) (sym e)), all_apart k count (λ i low. none i (omega arith)))

  slots_distinct : (count : ℕ) → count ≤ n → IsDistinct eqb (slots count)
  unfolding IsDistinct
  slots_distinct zero few = tt
  slots_distinct (suc count) few = (
    all_apart (slot count) count (λ i low e. let same : i ≡ count = apart i count (omega arith) (omega arith) e in omega (arith, same, low)),
    slots_distinct count (omega arith),
  )

  in_slots : (k count : ℕ) → list_any (eqb k) (slots count) ≡ true → IsSlot k count
  in_slots k zero h = absurd (cc)
  in_slots k (suc count) h = known (eqb k (slot count)) refl h (in_slots k count)
    where
      known : (b : Bool) → eqb k (slot count) ≡ b → (b || list_any (eqb k) (slots count)) ≡ true → (list_any (eqb k) (slots count) ≡ true → IsSlot k count) →
          IsSlot k (suc count)
      known true e h earlier = (count, omega arith, sym (eqb-true k (slot count) e))
      known false e h earlier = let f = earlier h in (f.0, let low = f.1 in omega arith, f.2)

  below : (k : ℕ) → k < n → (q : ℕ) → list_any (eqb q) (k ∷ slots n) ≡ true → q < n
  below k low q h = known (eqb q k) refl h
    where
      known : (b : Bool) → eqb q k ≡ b → (b || list_any (eqb q) (slots n)) ≡ true → q < n
      known true e h = subst (λ (x : ℕ). x < n) (sym (eqb-true q k e)) low
      known false e h =
          let f = in_slots q n h in
          subst (λ (x : ℕ). x < n) f.2 (subst (λ (c : ℕ). slot f.0 < c) group.count (in_slot f.0 f.1).0)

  one_more : (k : ℕ) → ((i : ℕ) → i < n → slot i ≢ k) → IsDistinct eqb (k ∷ slots n)
  unfolding IsDistinct
  one_more k none = (all_apart k n none, slots_distinct n (omega arith))

  is_slot : (k : ℕ) → k < length files → IsSlot k n
  is_slot k low = ⊎_elim
      (λ (f : IsSlot k n). f)
      (λ (none : (i : ℕ) → i < n → slot i ≢ k).
      let few : length (k ∷ slots n) ≤ n =
      length-le_from_distinct_below (k ∷ slots n) n (one_more k none) (below k (subst (λ (c : ℕ). k < c) group.count low)) in
      let long : length (slots n) ≡ n = slots_long n in absurd (omega (arith, few, long)))
      (seeks k n)

  each_opens : (k : ℕ) (d : X) → k < length files → (i : ℕ) × OpensAt roster begin i (conf_of (slice_index_or files k d))
  each_opens k d low =
      let f = is_slot k low in (
        f.0,
        subst (λ (x : X). OpensAt roster begin f.0 (conf_of x)) (any_default files k first d low)
            (subst (λ (j : ℕ). OpensAt roster begin f.0 (conf_at j)) f.2 (opens f.0 f.1)),
      )

  each_opened : (i : ℕ) → i < n → (file : X) × Contains files file × OpensAt roster begin i (conf_of file)
  each_opened i low =
      (slice_index_or files (slot i) first, (slot i, (in_slot i low).0, any_default files (slot i) (slice_index_or files (slot i) first) first (in_slot i low).0), opens i low)

abbrev conf : NamedConf → ConfPlan
conf file = file.conf

-- what the files make
abbrev Makes : Roster → List NamedConf → Type 0
Makes roster files = (start : Group) × HasDistinctIds roster × IsStart roster start × (length start.stores ≡ node_count roster) × AreOpening roster start files

makes : (roster : Roster) (first : NamedConf) (rest : List NamedConf) → All (λ (file : NamedConf). IsSoundConf file.conf) (first ∷ rest) →
    IsWithin conf roster (first ∷ rest) → Makes roster (first ∷ rest)
makes roster first rest sound group = (
  begin conf roster first rest sound group,
  ids_are conf roster first rest sound group,
  starts conf roster first rest sound group,
  length-replicate (node_count roster) (node conf roster first rest sound group),
  record { opening = each_opens conf roster first rest sound group; opened = each_opened conf roster first rest sound group },
)

pub own_lists_are_a_start : OwnListsAreAStart
own_lists_are_a_start [] roster sound group = let some : 1 ≤ 0 = group.some in absurd (omega arith)
own_lists_are_a_start (first ∷ rest) roster sound group =
    makes roster first rest sound (record { differ = group.differ; alike = group.alike; count = group.count; each = group.each })

-- one roster in all files

module _ (first : NamedConf) (rest : List NamedConf) (group : IsGroupOf conf first.conf (first ∷ rest)) where
  same_roster : (k : ℕ) (d : NamedConf) → k < length (first ∷ rest) → (slice_index_or (first ∷ rest) k d).conf.roster ≡ first.conf.roster
  same_roster k d low = sym (group.alike k d low).0

  alike : (k : ℕ) (d : NamedConf) (low : k < length (first ∷ rest)) (l : ℕ) (e : NamedConf) → l < length (first ∷ rest)
      → StartAlike (slice_index_or (first ∷ rest) k d).conf.kept (slice_index_or (first ∷ rest) l e).conf.kept
  alike k d low l e less m = sym ((group.alike k d low).1 m) ∙ (group.alike l e less).1 m

  within : IsWithin conf first.conf.roster (first ∷ rest)
  within =
      record {
        differ = λ k d low. same_differs (slice_index_or (first ∷ rest) k d).conf.roster first.conf.roster (same_roster k d low);
        alike = alike;
        count = group.count;
        each = group.each;
      }

pub one_group_is_a_start : OneGroupIsAStart
one_group_is_a_start [] sound group = absurd group
one_group_is_a_start (first ∷ rest) sound group =
    let m = makes first.conf.roster first rest sound (within first rest group) in
    (first.conf.roster, m.0, m.1, m.2, m.3, same_roster first rest group, m.4)
