-- What a Sentinel hears is brought by a step, where the messages that were sent stand in the model's world.
use Rattle.std.proofs.Common.{◌≡◌, ◌≢◌, ◌⊎◌, ℕ, ◌<◌, Bool, true, cond, List, [], ◌∷◌, ◌++◌, length, length-set, get_or-set_same, Some, refl, sym, ap, ◌∙◌, subst, inl, inr, ⊎_elim, eq-eqb, ne_eqb}
use Rattle.std.specs.Prelude.{slice_get, slice_index_or, Contains, Option, All}
use Rattle.std.proofs.lemmas.List.Elements.{Contains-append_left, Contains-push, All-nil, All-cons}
use Rattle.std.proofs.lemmas.Option.{slice_get-get_or}
use mathlib.Core.Logic.{dite}
use native.Mathlib.Decide.{ℕ_discrete}
use Rattle.ballot_law.specs.declared.events.Event.TheVariants.{Handed}
use Rattle.ballot_law.specs.declared.events.Input.{Input}
use Rattle.ballot_law.specs.declared.messages.Body.TheVariants.{HelloText}
use Rattle.ballot_law.specs.declared.messages.Message.{Message}
use Rattle.ballot_law.specs.declared.messages.NodeName.{NodeName}
use Rattle.ballot_law.specs.declared.messages.NodeName.TheVariants.{SentinelAt, StoreAt}
use Rattle.ballot_law.specs.declared.messages.Output.{Output}
use Rattle.ballot_law.specs.declared.messages.Output.TheVariants.{Send}
use Rattle.ballot_law.specs.declared.replies.Hello.{Hello}
use Rattle.ballot_law.specs.declared.replies.PingReply.TheVariants.{Pong}
use Rattle.ballot_law.specs.declared.steps.KeptText.TheVariants.{Old}
use Rattle.ballot_law.specs.declared.steps.Step.{Step}
use Rattle.ballot_law.specs.declared.steps.Step.TheVariants.{Take, Deliver, Store, Release, Stop, Start}
use Rattle.ballot_law.specs.Messages.{published, sent, event_at, Delivers, IsFor}
use Rattle.ballot_law.specs.Rosters.{Roster, size}
use Rattle.ballot_law.specs.Worlds.{World as Group, Sentinel, Other, Ready, Pending, Stored, Stopped, no_sentinel, no_other, other_at, with_other, sentinel_at, IsFree, IsAt, IsPassable, IsDelivered, Takes, Run, Steps}
use Rattle.sentinel_rules.specs.Plans.{roster_of}
use Rattle.sentinel_rules.specs.Steps.{IsPartsOf}
use Rattle.sentinel_cell.specs.EntrySteps.{IsAsLeft, Brings, MovesAlone}
use Rattle.sentinel_cell.specs.Histories.{World, IsGood}
use Rattle.process_laws.specs.Differing.{DifferInNodes}
use Rattle.process_laws.specs.Actions.{Process, with_process, IsSentTo, IsPublished, IsAsProcess}

-- the processes stand in a world of the model, with all that was sent
abbrev pub IsOwn : Roster → ℕ → World → Type 0
IsOwn roster i w = (w.plan.place ≡ i) × DifferInNodes (roster_of w.plan) roster × IsGood w

pub record Stands (roster : Roster) (stores : ℕ) (all : ℕ → Process) (messages : List Message) (group : Group) : Type 0 where
  pub count : length group.sentinels ≡ size roster
  pub stores_are : length group.stores ≡ stores
  pub sent_are : (message : Message) → Contains messages message → Contains group.messages message
  pub each : (i : ℕ) → i < size roster → IsAsProcess i (all i) group
  pub own : (i : ℕ) → i < size roster → (all i).runs ≡ true → IsOwn roster i (all i).world

-- a Sentinel that doesn't move stays as its process has it
pub stays_as : (j : ℕ) (w : World) (group last : Group) → length last.sentinels ≡ length group.sentinels → sentinel_at last j ≡ sentinel_at group j → IsAsLeft j w group →
    IsAsLeft j w last
stays_as j w group last count same h = record {
  inside = subst (λ (n : ℕ). j < n) (sym count) h.inside;
  state = ap (λ (n : Sentinel). n.state) same ∙ h.state;
  file = λ r. ap (λ (n : Sentinel). n.file) same ∙ h.file r;
  parts = subst (λ (n : Sentinel). IsPartsOf w.core n.parts) (sym same) h.parts;
  cards = (h.cards.0, ap (λ (n : Sentinel). n.stored) same ∙ h.cards.1);
}

pub stays : (j : ℕ) (p : Process) (group last : Group) → length last.sentinels ≡ length group.sentinels → sentinel_at last j ≡ sentinel_at group j → IsAsProcess j p group →
    IsAsProcess j p last
stays j p group last count same h = record {
  file = ap (λ (n : Sentinel). n.file) same ∙ h.file;
  left = λ r. stays_as j p.world group last count same (h.left r);
}

-- what holds of the process that an action is of, and of the others
pub with_one : (P : ℕ → Process → Type 0) (all : ℕ → Process) (i : ℕ) (p : Process) (j : ℕ) → P i p → (j ≢ i → P j (all j)) → P j (with_process all i p j)
with_one P all i p j one others = dite (ℕ_discrete j i)
    (λ (same : j ≡ i). subst (P j) (sym (ap (λ (b : Bool). cond b p (all j)) (eq-eqb j i same))) (subst (λ (k : ℕ). P k p) (sym same) one))
    (λ (apart : j ≢ i). subst (P j) (sym (ap (λ (b : Bool). cond b p (all j)) (ne_eqb j i apart))) (others apart))

-- a world in which no Sentinel moved, and more was sent
pub same_sentinels : (roster : Roster) (stores : ℕ) (all : ℕ → Process) (messages messages' : List Message) (group last : Group) → last.sentinels ≡ group.sentinels →
    length last.stores ≡ length group.stores
    → ((message : Message) → Contains messages' message → Contains last.messages message) → Stands roster stores all messages group → Stands roster stores all messages' last
same_sentinels roster stores all messages messages' group last same long sent_are h = record {
  count = ap (λ (l : List Sentinel). length l) same ∙ h.count;
  stores_are = long ∙ h.stores_are;
  sent_are = sent_are;
  each = λ i low. stays i (all i) group last (ap (λ (l : List Sentinel). length l) same) (ap (λ (l : List Sentinel). slice_index_or l i no_sentinel) same) (h.each i low);
  own = h.own;
}

-- one Sentinel moved
pub one_moved : (roster : Roster) (stores : ℕ) (all : ℕ → Process) (messages messages' : List Message) (group last : Group) (i : ℕ) (p : Process) → MovesAlone i group last
    → ((message : Message) → Contains messages' message → Contains last.messages message) → IsAsProcess i p last → (p.runs ≡ true → IsOwn roster i p.world)
    → Stands roster stores all messages group → Stands roster stores (with_process all i p) messages' last
one_moved roster stores all messages messages' group last i p alone sent_are mine own h = record {
  count = alone.count ∙ h.count;
  stores_are = ap (λ (l : List Other). length l) alone.stores ∙ h.stores_are;
  sent_are = sent_are;
  each = λ j low. with_one (λ k x. IsAsProcess k x last) all i p j mine (λ apart. stays j (all j) group last alone.count (alone.others j apart) (h.each j low));
  own = λ j low. with_one (λ k x. x.runs ≡ true → IsOwn roster k x.world) all i p j own (λ apart. h.own j low);
}

pub place_of : (messages : List Message) (message : Message) → Contains messages message → (k : ℕ) × (slice_get messages k ≡ Some message)
place_of messages message h = (h.0, slice_get-get_or messages h.0 message h.1 ∙ ap (λ (m : Message). Some m) h.2)

-- a data node begins anew, is handed a hello, and passes it on to one Sentinel
module _ (roster : Roster) (i store : ℕ) (message : Message) (hello : Hello) (group : Group) (here : Contains group.messages message) (target : message.target ≡ StoreAt store)
    (low : store < length group.stores) (publishes : published message.body ≡ Some hello) where
  abbrev node : NodeName
  node = StoreAt store

  abbrev pub passed : Message
  passed = record { sender = StoreAt store; target = SentinelAt i; body = HelloText hello }

  at_store : (g : Group) (x : Other) → store < length g.stores → other_at (with_other g node x) node ≡ x
  at_store g x lt = get_or-set_same g.stores store x no_other lt

  still_store : (g : Group) (x : Other) → store < length g.stores → store < length (with_other g node x).stores
  still_store g x lt = subst (λ (n : ℕ). store < n) (sym (length-set g.stores store x)) lt

  one_hello : (h : Hello) → Some hello ≡ Some h → published message.body ≡ Some h
  one_hello h e = publishes ∙ e

  abbrev pub steps_of : List Step
  steps_of = Stop node Old ∷ Start node 0 ∷ Deliver (place_of group.messages message here).0 0 ∷ Store node ∷ Release node ∷ []

  pub passes_on : (last : Group) × Run roster steps_of group last × (last.messages ≡ group.messages ++ passed ∷ []) × (last.sentinels ≡ group.sentinels) ×
      (length last.stores ≡ length group.stores)
      × (last.elected ≡ group.elected) × (last.said ≡ group.said)
  passes_on =
      let k = place_of group.messages message here in
      let held : List Output = Send passed ∷ [] in
      let x1 : Other = record (other_at group node) { state = Stopped } in
      let g1 : Group = with_other group node x1 in
      let at1 : other_at g1 node ≡ x1 = at_store group x1 low in
      let in1 = still_store group x1 low in
      let x2 : Other = record { state = Ready; held = [] } in
      let g2 : Group = with_other g1 node x2 in
      let at2 : other_at g2 node ≡ x2 = at_store g1 x2 in1 in
      let in2 = still_store g1 x2 in1 in
      let x3 : Other = record { state = Pending; held = held } in
      let g3 : Group = with_other g2 node x3 in
      let at3 : other_at g3 node ≡ x3 = at_store g2 x3 in2 in
      let in3 = still_store g2 x3 in2 in
      let x4 : Other = record { state = Stored; held = held } in
      let g4 : Group = with_other g3 node x4 in
      let at4 : other_at g4 node ≡ x4 = at_store g3 x4 in3 in
      let in4 = still_store g3 x4 in3 in
      let x5 : Other = record { state = Ready; held = [] } in
      let g5 : Group = record (with_other g4 node x5) { messages = group.messages ++ passed ∷ [] } in
      let stop : Steps roster (Stop node Old) group g1 = inl (low, refl) in
      let start : Steps roster (Start node 0) g1 g2 = inl ((in1, ap (λ (x : Other). x.state) at1), refl) in
      let may : All (IsPassable node (Handed message)) held = All-cons (IsPassable node (Handed message)) (Send passed) []
      (record { sender = refl; no_publish = refl; handed = one_hello }) (All-nil (IsPassable node (Handed message))) in
      let taking : Takes roster node (Handed message) g2 g3 = (held, may, refl) in
      let comes : Delivers message (Handed message) = record { reply = Pong; info = []; is_event = ap (λ (n : NodeName). event_at n Pong [] message) (sym target) } in
      let delivered : IsDelivered roster (Some message) g2 g3 = inl (
        (subst (λ (n : NodeName). IsAt g2 n Ready) (sym target) (in2, ap (λ (x : Other). x.state) at2), subst (λ (n : NodeName). IsFor n message.body) (sym target) tt),
        (Handed message, comes, subst (λ (n : NodeName). Takes roster n (Handed message) g2 g3) (sym target) taking),
      ) in
      let deliver : Steps roster (Deliver k.0 0) g2 g3 = subst (λ (m : Option Message). IsDelivered roster m g2 g3) (sym k.1) delivered in
      let storing : Steps roster (Store node) g3 g4 = inl (
        (in3, ap (λ (x : Other). x.state) at3),
        ap (λ (x : Other). with_other g3 node (record x { state = Stored }))
            (sym at3),
      ) in
      let releasing : Steps roster (Release node) g4 g5 = inl (
        (in4, ap (λ (x : Other). x.state) at4),
        ap (λ (x : Other). let g : Group = record (with_other g4 node x5) { messages = group.messages ++ sent x.held } in g) (sym at4),
      ) in (
        g5,
        (g1, stop, (g2, start, (g3, deliver, (g4, storing, (g5, releasing, refl))))),
        refl,
        refl,
        length-set g4.stores store x5 ∙ (length-set g3.stores store x4 ∙ (length-set g2.stores store x3 ∙ (length-set g1.stores store x2 ∙ length-set group.stores store x1))),
        refl,
        refl,
      )

-- the steps before the one that takes the input, and that one
abbrev pub IsBrought : Roster → (stores : ℕ) → (ℕ → Process) → List Message → (i : ℕ) → Input → Group → Type 0
IsBrought roster stores all messages i input group =
    (before : List Step) × (g : Group) × (first : Step) × Run roster before group g × Stands roster stores all messages g × Brings i input g first × (g.elected ≡ group.elected) ×
    (g.said ≡ group.said)

-- an event that no message brings
pub free_comes : (roster : Roster) (stores : ℕ) (all : ℕ → Process) (messages : List Message) (i : ℕ) (input : Input) (group : Group) →
    Stands roster stores all messages group → IsFree input.event → IsBrought roster stores all messages i input group
free_comes roster stores all messages i input group h free = ([], group, Take (SentinelAt i) input, refl, h, inl (refl, free), refl, refl)

-- one that a message brings
pub sent_comes : (roster : Roster) (stores : ℕ) (all : ℕ → Process) (messages : List Message) (i : ℕ) (input : Input) (group : Group) →
    Stands roster stores all messages group → IsSentTo messages i input.event → IsBrought roster stores all messages i input group
sent_comes roster stores all messages i input group h came =
    let k = place_of group.messages came.0 (h.sent_are came.0 came.1) in
    ([], group, Deliver k.0 input.now, refl, h, inr (k.0, came.0, refl, k.1, came.2, subst (λ (n : NodeName). IsFor n came.0.body) (sym came.2) came.3, came.4), refl, refl)

-- a hello
pub hello_comes : (roster : Roster) (stores : ℕ) (all : ℕ → Process) (messages : List Message) (i : ℕ) (input : Input) (group : Group) →
    Stands roster stores all messages group → IsPublished stores messages input.event → IsBrought roster stores all messages i input group
hello_comes roster stores all messages i input group h told =
    let here = h.sent_are told.0 told.3 in
    let low : told.2 < length group.stores = subst (λ (n : ℕ). told.2 < n) (sym h.stores_are) told.5 in
    let p = passes_on roster i told.2 told.0 told.1 group here told.4 low told.6 in
    let m : Message = passed roster i told.2 told.0 told.1 group here told.4 low told.6 in
    let k = place_of p.0.messages m (subst (λ (l : List Message). Contains l m) (sym p.2) (Contains-push group.messages m)) in
    let stands = same_sentinels roster stores all messages messages group p.0 p.3 p.4
    (λ x c. subst (λ (l : List Message). Contains l x) (sym p.2) (Contains-append_left group.messages (m ∷ []) x (h.sent_are x c))) h in (
      steps_of roster i told.2 told.0 told.1 group here told.4 low told.6,
      p.0,
      Deliver k.0 input.now,
      p.1,
      stands,
      inr (k.0, m, refl, k.1, refl, tt, record { reply = Pong; info = []; is_event = told.7 }),
      p.5,
      p.6,
    )

pub comes : (roster : Roster) (stores : ℕ) (all : ℕ → Process) (messages : List Message) (i : ℕ) (input : Input) (group : Group) →
    Stands roster stores all messages group → IsSentTo messages i input.event ⊎ IsPublished stores messages input.event
    → IsBrought roster stores all messages i input group
comes roster stores all messages i input group h came =
    ⊎_elim (sent_comes roster stores all messages i input group h) (hello_comes roster stores all messages i input group h) came
