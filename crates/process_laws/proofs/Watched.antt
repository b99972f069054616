-- Processes of each of which it is known what it took by its connections are connected.
use Rattle.std.proofs.Common.{◌≡◌, ℕ, ◌<◌, ◌⊎◌, inl, inr, ⊎_elim, eqb, eq-eqb, Bool, true, false, cond, List, [], ◌∷◌, ◌++◌, map, length, refl, sym, ap, subst}
use Rattle.std.specs.List.{AllByRecursion}
use mathlib.Core.Logic.{∥∥₁_elim, ∥∥₁_map, ∥∥₁_prop}
use Rattle.ballot_law.specs.declared.events.Event.{Event}
use Rattle.ballot_law.specs.declared.events.Event.TheVariants.{Tick, Command, Answered, Pinged, InfoRead, HelloRead, Disconnected, Refused, Become, Handed}
use Rattle.ballot_law.specs.declared.messages.NodeName.{NodeName}
use Rattle.ballot_law.specs.declared.messages.NodeName.TheVariants.{SentinelAt}
use Rattle.ballot_law.specs.declared.steps.KeptText.{KeptText}
use Rattle.ballot_law.specs.Rosters.{Roster, size}
use Rattle.ballot_law.specs.Worlds.{World as Group, IsFree}
use Rattle.links.specs.Sessions.Links.{Tells as LinkTells}
use Rattle.sentinel_cell.specs.declared.entry.Entry.{Entry}
use Rattle.sentinel_rules.specs.Ignored.{is_noticed}
use Rattle.sentinel_rules.specs.Plans.{Plan}
use Rattle.process_laws.specs.Actions.{Action, Opened, Took, Told, IsPublished, actions_after, all_sent, at_first}
use Rattle.process_laws.specs.Connected.{Deed, Takes, Tells, Life, history_of, action_of, actions_of, AreLives, IsHeardFrom, MayTake, AreConnected}
use Rattle.process_laws.specs.OwnActions.{place_of, own_of}
use Rattle.process_laws.specs.Watched.{Connection, IsToldThere, IsOneOf, IsCarriedThere, WatchedAreConnected, WatchedAreSafe}
use Rattle.process_laws.proofs.Connected.{connected_processes_are_safe}

-- ---- an entry in the order of all is one of a process

abbrev Among : {X : Type 0} → X → List X → Type 0
Among x [] = ⊥
Among x (y ∷ ys) = (y ≡ x) ⊎ Among x ys

either_side : {X : Type 0} (x : X) (xs ys : List X) → Among x (xs ++ ys) → Among x xs ⊎ Among x ys
either_side x [] ys h = inr h
either_side x (y ∷ xs) ys h =
    ⊎_elim (λ (same : y ≡ x). inl (inl same))
    (λ (rest : Among x (xs ++ ys)). ⊎_elim (λ (one : Among x xs). inl (inr one)) (λ (one : Among x ys). inr one) (either_side x xs ys rest)) h

by_place : (test : Bool) (d b : Action) (own : List Action) → Among d own → Among d (cond test (b ∷ own) own)
by_place true d b own there = inr there
by_place false d b own there = there

own_has : (i : ℕ) (before : List Action) (d : Action) (later : List Action) → place_of d ≡ i → Among d (own_of i (before ++ d ∷ later))
own_has i [] d later is =
    subst (λ (t : Bool). Among d (cond t (d ∷ own_of i later) (own_of i later))) (sym (eq-eqb (place_of d) i is)) (inl refl)
own_has i (b ∷ before) d later is = by_place (eqb (place_of b) i) d b (own_of i (before ++ d ∷ later)) (own_has i before d later is)

abbrev entry_in : Entry → Action → Entry
entry_in none (Opened i w now) = none
entry_in none (Took i entry asker left) = entry
entry_in none (Told i m) = none

abbrev took : Action → Bool
took (Opened i w now) = false
took (Took i entry asker left) = true
took (Told i m) = false

in_deeds : (i : ℕ) (left kept : KeptText) (entry : Entry) (asker : NodeName) (deeds : List Deed) → Among (Took i entry asker kept) (map (action_of i left) deeds)
    → Among entry (history_of deeds)
in_deeds i left kept entry asker [] there = there
in_deeds i left kept entry asker (Takes e a ∷ deeds) there =
    ⊎_elim (λ (same : Took i e a left ≡ Took i entry asker kept). inl (ap (entry_in entry) same))
    (λ (rest : Among (Took i entry asker kept) (map (action_of i left) deeds)). inr (in_deeds i left kept entry asker deeds rest)) there
in_deeds i left kept entry asker (Tells m ∷ deeds) there =
    ⊎_elim (λ (same : Told i m ≡ Took i entry asker kept). absurd (let no : false ≡ true = ap took same in cc))
    (λ (rest : Among (Took i entry asker kept) (map (action_of i left) deeds)). in_deeds i left kept entry asker deeds rest) there

in_lives : (i : ℕ) (kept : KeptText) (entry : Entry) (asker : NodeName) (lives : List Life) → Among (Took i entry asker kept) (actions_of i lives)
    → (life : Life) × IsOneOf life lives × Among entry (history_of life.deeds)
in_lives i kept entry asker [] there = absurd there
in_lives i kept entry asker (life ∷ lives) there =
    ⊎_elim (λ (same : Opened i life.opened life.now ≡ Took i entry asker kept). absurd (let no : false ≡ true = ap took same in cc))
    (λ (rest : Among (Took i entry asker kept) (map (action_of i life.left) life.deeds ++ actions_of i lives)).
    ⊎_elim (λ (own : Among (Took i entry asker kept) (map (action_of i life.left) life.deeds)). (life, inl refl, in_deeds i life.left kept entry asker life.deeds own))
    (λ (later : Among (Took i entry asker kept) (actions_of i lives)).
    let it = in_lives i kept entry asker lives later in (it.0, inr it.1, it.2))
    (either_side (Took i entry asker kept) (map (action_of i life.left) life.deeds) (actions_of i lives) rest)) there

-- ---- what it took was heard

abbrev MayBeTaken : (told : Event → Type 0) → Event → Type 0
MayBeTaken told event = IsFree event ⊎ ∥ told event ∥₁

abbrev HearsAll : (told : Event → Type 0) → List Entry → Type 0
HearsAll told history = AllByRecursion (λ (entry : Entry). MayBeTaken told entry.input.event) history

taken_one : (told : Event → Type 0) (entry : Entry) (history : List Entry) → HearsAll told history → Among entry history → MayBeTaken told entry.input.event
taken_one told entry [] all there = absurd there
taken_one told entry (e ∷ history) all there =
    ⊎_elim (λ (same : e ≡ entry). subst (λ (x : Entry). MayBeTaken told x.input.event) same all.0)
    (λ (rest : Among entry history). taken_one told entry history all.1 rest) there

pub all_at : (P : Action → Type 0) (before : List Action) (d : Action) (later : List Action) → AllByRecursion P (before ++ d ∷ later) → P d
all_at P [] d later all = all.0
all_at P (b ∷ before) d later all = all_at P before d later all.1

-- which events are free
free_or_not : (event : Event) → IsFree event ⊎ (¬ IsFree event)
free_or_not (Answered voter m addr down leader epoch) = inr (λ free. free)
free_or_not (HelloRead text) = inr (λ free. free)
free_or_not (Handed message) = inr (λ free. free)
free_or_not (Tick master random) = inl tt
free_or_not (Command sender command) = inl tt
free_or_not (Pinged node reply) = inl tt
free_or_not (InfoRead node text) = inl tt
free_or_not (Disconnected node) = inl tt
free_or_not (Refused node) = inl tt
free_or_not (Become priority offset link_down) = inl tt

-- what isn't free was told
was_told : (told : Event → Type 0) (event : Event) → ¬ IsFree event → MayBeTaken told event → ∥ told event ∥₁
was_told told event bound may = ⊎_elim (λ free. absurd (bound free)) (λ it. it) may

abbrev pub IsPublishedOrHeard : Roster → (stores : ℕ) → (before : List Action) → (i : ℕ) → Event → Type 0
IsPublishedOrHeard roster stores before i event = ∥ IsPublished stores (all_sent before) event ⊎ ((k : ℕ) × IsHeardFrom roster before i k event) ∥₁

by_notice : (roster : Roster) (plan : Plan) (stores : ℕ) (before : List Action) (i : ℕ) (event : Event) (test : Bool) → is_noticed plan event ≡ test
    → (is_noticed plan event ≡ true → IsPublishedOrHeard roster stores before i event)
    → MayTake roster plan stores before i event
by_notice roster plan stores before i event true is heard = inr (heard is)
by_notice roster plan stores before i event false is heard = inl (inr is)

-- each process took what is free, or what it was told, whatever that is; and what is told, not free, and noticed was published or heard before
pub record AreToldSo (roster : Roster) (start : Group) (lives : ℕ → List Life) (told : ℕ → Life → Event → Type 0) (order : List Action) : Type 0 where
  pub lived : (i : ℕ) → i < size roster → AreLives roster i (at_first start i).file (lives i)
  pub heard : (i : ℕ) → i < size roster → (life : Life) → IsOneOf life (lives i) → ∥ HearsAll (told i life) (history_of life.deeds) ∥₁
  pub own : (i : ℕ) → i < size roster → own_of i order ≡ actions_of i (lives i)
  pub no_others : AllByRecursion (λ (d : Action). place_of d < size roster) order
  pub brought : (i : ℕ) (entry : Entry) (asker : NodeName) (left : KeptText) (before later : List Action) → order ≡ before ++ Took i entry asker left ∷ later
      → ¬ IsFree entry.input.event → is_noticed (actions_after (at_first start) before i).world.plan entry.input.event ≡ true
      → (life : Life) → IsOneOf life (lives i) → told i life entry.input.event
      → IsPublishedOrHeard roster (length start.stores) before i entry.input.event

module _ (roster : Roster) (start : Group) (lives : ℕ → List Life) (told : ℕ → Life → Event → Type 0) (order : List Action) (w : AreToldSo roster start lives told order) where
  took_well : (i : ℕ) (entry : Entry) (asker : NodeName) (left : KeptText) (before later : List Action) → order ≡ before ++ Took i entry asker left ∷ later → i < size roster
      → MayTake roster (actions_after (at_first start) before i).world.plan (length start.stores) before i entry.input.event
  took_well i entry asker left before later cut low =
      let event = entry.input.event in
      let plan = (actions_after (at_first start) before i).world.plan in
      let d = Took i entry asker left in
      let own : Among d (actions_of i (lives i)) =
      subst (λ (l : List Action). Among d l) (w.own i low) (subst (λ (l : List Action). Among d (own_of i l)) (sym cut) (own_has i before d later refl)) in
      let one = in_lives i left entry asker (lives i) own in
      let may : ∥ MayBeTaken (told i one.0) event ∥₁ =
      ∥∥₁_map (w.heard i low one.0 one.1) (λ all. taken_one (told i one.0) entry (history_of one.0.deeds) all one.2) in
      let heard = λ (bound : ¬ IsFree event) (noticed : is_noticed plan event ≡ true).
      ∥∥₁_elim may ∥∥₁_prop (λ m. ∥∥₁_elim (was_told (told i one.0) event bound m) ∥∥₁_prop
      (λ t. w.brought i entry asker left before later cut bound noticed one.0 one.1 t)) in
      ⊎_elim (λ free. inl (inl free)) (λ bound. by_notice roster plan (length start.stores) before i event (is_noticed plan event) refl (heard bound)) (free_or_not event)

pub told_are_connected : (roster : Roster) (start : Group) (lives : ℕ → List Life) (told : ℕ → Life → Event → Type 0) (order : List Action)
    → AreToldSo roster start lives told order → AreConnected roster start lives order
told_are_connected roster start lives told order w = record {
  lived = w.lived;
  own = w.own;
  no_others = w.no_others;
  heard = λ i entry asker left before later cut.
      took_well roster start lives told order w i entry asker left before later cut
      (all_at (λ (d : Action). place_of d < size roster) before (Took i entry asker left) later
      (subst (AllByRecursion (λ (d : Action). place_of d < size roster)) cut w.no_others));
}

-- ---- told by a connection

-- what came there tells it, and was carried from another Sentinel
heard_from : (roster : Roster) (before : List Action) (i : ℕ) (stood : List Connection) (event : Event) (t : IsToldThere stood event) → IsCarriedThere roster before i t.on
    → (k : ℕ) × IsHeardFrom roster before i k event
heard_from roster before i stood event t c =
    let there : LinkTells (SentinelAt c.number) false t.on.asked t.values (t.before ++ event ∷ t.after) t.left =
    subst (λ (node : NodeName). LinkTells node false t.on.asked t.values (t.before ++ event ∷ t.after) t.left) c.node_is
    (subst (λ (listens : Bool). LinkTells t.on.node listens t.on.asked t.values (t.before ++ event ∷ t.after) t.left) c.speaks t.tells) in (
      c.number,
      record {
        within = c.within;
        asked = t.on.asked;
        came = t.on.came;
        told = record { values = t.values; rest = t.rest; parts = t.parts; before = t.before; after = t.after; left = t.left; tells = there };
        start = c.other;
        carried = c.carried;
      },
    )

pub watched_are_connected : WatchedAreConnected
watched_are_connected roster start lives stood order w =
    told_are_connected roster start lives (λ i life. IsToldThere (stood i life)) order
    (record {
      lived = w.lived;
      heard = w.heard;
      own = w.own;
      no_others = w.no_others;
      brought = λ i entry asker left before later cut bound noticed life one t.
          ∥∥₁_map (w.brought i entry asker left before later cut bound noticed life one t)
          (λ by. ⊎_elim (λ hello. inl hello) (λ c. inr (heard_from roster before i (stood i c.life) entry.input.event c.told c.carried)) by);
    })

pub watched_are_safe : WatchedAreSafe
watched_are_safe roster start lives stood order ids is w =
    connected_processes_are_safe roster start lives order ids is (watched_are_connected roster start lives stood order w)
