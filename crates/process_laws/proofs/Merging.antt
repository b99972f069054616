-- Each action of a process is steps of the model, and so are all of them.
use Rattle.std.proofs.Common.{◌≡◌, ℕ, ◌<◌, Bool, true, false, cond, List, [], ◌∷◌, ◌++◌, map, length, append_assoc, refl, sym, ap, ◌∙◌, subst, inl, ⊎_elim, true≢false, arith}
use Rattle.std.specs.Prelude.{Contains, All, ◌⊎◌, not, ◌||◌, Some}
use Rattle.std.proofs.lemmas.List.Elements.{Contains-append_left, Contains-append_right, Contains-append_cases, All-map, All-weaker}
use mathlib.Core.List.{append-nil}
use Rattle.ballot_law.specs.declared.cards.Kept.{Kept}
use Rattle.ballot_law.specs.declared.cards.Shown.{Shown}
use Rattle.ballot_law.specs.declared.events.Event.{Event}
use Rattle.ballot_law.specs.declared.events.Event.TheVariants.{Tick, Command, Answered, Pinged, InfoRead, HelloRead, Disconnected, Refused, Become, Handed}
use Rattle.ballot_law.specs.declared.events.Input.{Input}
use Rattle.ballot_law.specs.declared.messages.Message.{Message}
use Rattle.ballot_law.specs.declared.messages.NodeName.{NodeName}
use Rattle.ballot_law.specs.declared.messages.NodeName.TheVariants.{SentinelAt}
use Rattle.ballot_law.specs.declared.messages.Output.{Output}
use Rattle.ballot_law.specs.declared.messages.Output.TheVariants.{Send, Tell}
use Rattle.ballot_law.specs.declared.records.Advertisement.{Advertisement}
use Rattle.ballot_law.specs.declared.records.Election.{Election}
use Rattle.ballot_law.specs.declared.steps.KeptText.{KeptText}
use Rattle.ballot_law.specs.declared.steps.KeptText.TheVariants.{Old}
use Rattle.ballot_law.specs.declared.steps.Step.{Step}
use Rattle.ballot_law.specs.declared.steps.Step.TheVariants.{Store, StoreRefused, Release, Stop, Start, Answer}
use Rattle.ballot_law.specs.Ballots.{Parts, restored}
use Rattle.ballot_law.specs.Law.{IsStart}
use Rattle.ballot_law.specs.Messages.{sent, advertised, advertised_by}
use Rattle.ballot_law.specs.Rosters.{Roster, size}
use Rattle.ballot_law.specs.Worlds.{World as Group, Sentinel, State, Ready, Pending, Stored as IsStored, Halted as IsHalted, Stopped, sentinel_at, with_sentinel, ended, started, after_stop, said_by, elected_by, IsRightOutput, IsFree, Move, StepOf, Run, Steps}
use Rattle.ballot_law.proofs.Runs.{steps_join}
use Rattle.sentinel_rules.specs.Changes.{IsAhead}
use Rattle.sentinel_rules.specs.Facts.{IsSound}
use Rattle.sentinel_rules.specs.Plans.{Plan, roster_of}
use Rattle.sentinel_rules.specs.States.{Core}
use Rattle.sentinel_rules.specs.Steps.{IsPartsOf, wins_of}
use Rattle.sentinel_rules.specs.Ignored.{is_noticed}
use Rattle.sentinel_rules.specs.Takes.{Next}
use Rattle.sentinel_rules.proofs.Ignoring.{ignored_changes_nothing}
use Rattle.sentinel_rules.proofs.Opening.{opened_is_sound}
use Rattle.sentinel_rules.proofs.Rising.{opened_is_ahead}
use Rattle.sentinel_cell.specs.declared.entry.Entry.{Entry}
use Rattle.sentinel_cell.specs.declared.entry.Outcome.{Outcome}
use Rattle.sentinel_cell.specs.declared.entry.Outcome.TheVariants.{Stored, Refused, Halted}
use Rattle.sentinel_core.specs.Sentinels.{is_flush}
use Rattle.sentinel_conf.specs.Rewritten.{rewritten}
use Rattle.sentinel_cell.specs.EntrySteps.{IsAsLeft, Brings, IsSent, MovesAlone, IsDone, told, kept_left}
use Rattle.sentinel_cell.specs.Histories.{World, IsGood, IsOutcome, IsStep, after_outcome, next_of, same_kept, changed_card}
use Rattle.sentinel_cell.proofs.Cards.{good_outcome}
use Rattle.sentinel_cell.proofs.EntrySteps.{at_self, still_inside, still_alone, alone_through, tells_stored, not_stopped, stored_with, refused_steps}
use Rattle.process_laws.proofs.Differing.{same_started, joined, advertised_same}
use Rattle.process_laws.specs.Actions.{Action, Opened, Took, Told, Process, with_process, action_after, actions_after, output_to, sent_by, said_in, elected_in, all_sent, all_said, all_elected, IsOpened, IsSentTo, IsPublished, IsHeard, IsAction, AreActions, at_first, elected_at, ProcessesAreARun}
use Rattle.process_laws.proofs.Heard.{IsOwn, IsBrought, Stands, one_moved, same_sentinels, free_comes, comes}

-- what one action does to the model's world
abbrev Goes : Roster → (stores : ℕ) → (ℕ → Process) → List Message → Action → Group → Type 0
Goes roster stores all messages d group =
    (steps : List Step) × (last : Group) × Run roster steps group last × Stands roster stores (action_after all d) (messages ++ sent_by d) last
    × (last.elected ≡ group.elected ++ elected_in all d) × (last.said ≡ group.said ++ said_in roster all d)

sent_more : (group last : Group) (messages more : List Message) → last.messages ≡ group.messages ++ more → ((x : Message) → Contains messages x → Contains group.messages x)
    → (x : Message) → Contains (messages ++ more) x → Contains last.messages x
sent_more group last messages more is sent_are x c = subst (λ (l : List Message). Contains l x) (sym is)
    (⊎_elim (λ (a : Contains messages x). Contains-append_left group.messages more x (sent_are x a)) (λ (b : Contains more x). Contains-append_right group.messages more x b)
    (Contains-append_cases messages more x c))

sent_same : (group : Group) (messages : List Message) → ((x : Message) → Contains messages x → Contains group.messages x) → (x : Message) → Contains (messages ++ []) x →
    Contains group.messages x
sent_same group messages sent_are x c = sent_are x (subst (λ (l : List Message). Contains l x) (append-nil messages) c)

-- a process that begins

stop_old : (group : Group) (i : ℕ) (node : Sentinel) (s : State) → after_stop group i node s Old ≡ with_sentinel group i (ended node Stopped)
stop_old group i node Ready = refl
stop_old group i node Pending = refl
stop_old group i node IsStored = refl
stop_old group i node IsHalted = refl
stop_old group i node Stopped = refl

pub opened_good : (roster : Roster) (i : ℕ) (file : Kept) (now : ℕ) (w : World) → IsOpened roster i file now w → IsGood w
opened_good roster i file now w o = record {
  plan = o.plan;
  core = subst (IsSound w.plan) (sym o.core) (opened_is_sound w.plan now o.plan).0;
  ahead = subst IsAhead (sym o.core) (opened_is_ahead w.plan now);
  settled = λ _. ap (λ (c : Core). c.kept) o.core ∙ (o.file_is ∙ sym o.stored);
}

opens : (roster : Roster) (stores : ℕ) (all : ℕ → Process) (messages : List Message) (i : ℕ) (w : World) (now : ℕ) (group : Group) → Stands roster stores all messages group →
    i < size roster
    → IsOpened roster i (all i).file now w → Goes roster stores all messages (Opened i w now) group
opens roster stores all messages i w now group h low o =
    let node : Sentinel = sentinel_at group i in
    let inside : i < length group.sentinels = subst (λ (n : ℕ). i < n) (sym h.count) low in
    let n1 : Sentinel = ended node Stopped in
    let g1 : Group = with_sentinel group i n1 in
    let at1 : sentinel_at g1 i ≡ n1 = at_self group i n1 inside in
    let in1 = still_inside group i n1 inside in
    let n2 : Sentinel = started roster node.file in
    let g2 : Group = with_sentinel g1 i n2 in
    let at2 : sentinel_at g2 i ≡ n2 = at_self g1 i n2 in1 in
    let in2 = still_inside g1 i n2 in1 in
    let stop : Steps roster (Stop (SentinelAt i) Old) group g1 = inl (inside, sym (stop_old group i node node.state)) in
    let start : Steps roster (Start (SentinelAt i) now) g1 g2 =
    inl ((in1, ap (λ (n : Sentinel). n.state) at1), ap (λ (n : Sentinel). with_sentinel g1 i (started roster n.file)) (sym at1)) in
    let filed : node.file ≡ w.stored = (h.each i low).file ∙ sym o.stored in
    let parts : IsPartsOf w.core (restored roster node.file) =
    subst (IsPartsOf w.core) (ap (λ (n : Sentinel). n.parts) (same_started (roster_of w.plan) roster o.roster_is node.file))
    (subst (λ (x : Core × Kept). IsPartsOf x.0 (restored (roster_of w.plan) x.1)) (λ j. (sym o.core j, (o.file_is ∙ sym (h.each i low).file) j))
    (opened_is_sound w.plan now o.plan).1) in
    let left : IsAsLeft i w g2 = record {
      inside = in2;
      state = ap (λ (n : Sentinel). n.state) at2 ∙ ap (λ (b : Bool). cond b IsHalted Ready) (sym o.runs);
      file = λ _. ap (λ (n : Sentinel). n.file) at2 ∙ filed;
      parts = subst (λ (n : Sentinel). IsPartsOf w.core n.parts) (sym at2) parts;
      cards = ([], ap (λ (n : Sentinel). n.stored) at2 ∙ ap (λ (k : Kept). k ∷ []) filed);
    } in
    let p : Process = record { runs = true; world = w; file = (all i).file } in
    let alone : MovesAlone i group g2 = alone_through i group g1 g2 (still_alone group g1 i n1 refl refl refl) (still_alone g1 g2 i n2 refl refl refl) in (
      Stop (SentinelAt i) Old ∷ Start (SentinelAt i) now ∷ [],
      g2,
      (g1, stop, (g2, start, refl)),
      one_moved roster stores all messages (messages ++ []) group g2 i p alone (sent_same group messages h.sent_are)
          (record { file = ap (λ (n : Sentinel). n.file) at2 ∙ (h.each i low).file; left = λ _. left })
          (λ _. (o.place, o.roster_is, opened_good roster i (all i).file now w o)) h,
      sym (append-nil group.elected),
      sym (append-nil group.said),
    )

-- a client's question

tells : (roster : Roster) (stores : ℕ) (all : ℕ → Process) (messages : List Message) (i m : ℕ) (group : Group) → Stands roster stores all messages group → i < size roster →
    (all i).runs ≡ true → m < length roster.masters
    → Goes roster stores all messages (Told i m) group
tells roster stores all messages i m group h low runs within =
    let left = (h.each i low).left runs in
    let w : World = (all i).world in (
      Answer (SentinelAt i) m ∷ [],
      told i m w.stored group,
      (told i m w.stored group, tells_stored roster i m w.stored group left.inside within (not_stopped w.halted (sentinel_at group i).state left.state) left.cards, refl),
      same_sentinels roster stores all messages (messages ++ []) group (told i m w.stored group) refl refl (sent_same group messages h.sent_are) h,
      sym (append-nil group.elected),
      refl,
    )

-- an input

right_to : (roster : Roster) (i : ℕ) (parts : Parts) (asker : NodeName) (o : Output) → IsRightOutput roster i parts o → IsRightOutput roster i parts (output_to asker o)
right_to roster i parts asker (Send message) r = record { sender = r.sender; cards = r.cards; votes = r.votes; hellos = r.hellos; no_hello_text = r.no_hello_text }
right_to roster i parts asker (Tell note) r = r

advertised_to : (roster : Roster) (asker : NodeName) (outputs : List Output) → advertised_by roster (map (output_to asker) outputs) ≡ advertised_by roster outputs
advertised_to roster asker [] = refl
advertised_to roster asker (Send message ∷ outputs) = ap (λ (l : List Shown). advertised roster message.body ++ l) (advertised_to roster asker outputs)
advertised_to roster asker (Tell note ∷ outputs) = ap (λ (l : List Shown). (record { master = note.master; card = note.card }) ∷ l) (advertised_to roster asker outputs)

own_after : (roster : Roster) (i : ℕ) (w : World) (e : Entry) (o : Outcome) → IsOwn roster i w → IsOutcome w e.input e.outputs e.failures o →
    IsOwn roster i (after_outcome w e.input e.failures o)
own_after roster i w e Stored own h = (own.0, own.1, good_outcome w e.input e.outputs e.failures Stored own.2 h)
own_after roster i w e Refused own h = (own.0, own.1, good_outcome w e.input e.outputs e.failures Refused own.2 h)
own_after roster i w e Halted own h = (own.0, own.1, good_outcome w e.input e.outputs e.failures Halted own.2 h)

-- a stored entry, at the process's own place, by the roster of the whole group
abbrev StoredSteps : Roster → (i : ℕ) → World → Entry → NodeName → Group → Step → Type 0
StoredSteps roster i w e asker group first =
    (last : Group) × Run roster (first ∷ Store (SentinelAt i) ∷ Release (SentinelAt i) ∷ []) group last × IsAsLeft i (after_outcome w e.input e.failures Stored) last
    × IsSent roster i (map (output_to asker) e.outputs) group last × MovesAlone i group last × (last.elected ≡ group.elected ++ elected_by i (wins_of (next_of w e.input).core.won))

stored_at_place : (roster : Roster) (i : ℕ) (w : World) (e : Entry) (asker : NodeName) (group : Group) (first : Step) → IsOwn roster i w →
    IsOutcome w e.input e.outputs e.failures Stored
    → IsAsLeft i w group → Brings i e.input group first → StoredSteps roster i w e asker group first
stored_at_place roster i w e asker group first own h =
    let P : ℕ → Type 0 = λ k. IsAsLeft k w group → Brings k e.input group first → StoredSteps roster k w e asker group first in
    let here : P w.plan.place = λ is brings.
    let s = stored_with w e group first own.2 is brings (map (output_to asker) e.outputs)
    (λ t. All-map (IsRightOutput (roster_of w.plan) w.plan.place t.moved_to) (output_to asker) e.outputs
    (All-weaker (IsRightOutput (roster_of w.plan) w.plan.place t.moved_to) (λ o. IsRightOutput (roster_of w.plan) w.plan.place t.moved_to (output_to asker o))
    (right_to (roster_of w.plan) w.plan.place t.moved_to asker) e.outputs
    (subst (All (IsRightOutput (roster_of w.plan) w.plan.place t.moved_to)) (sym h.1) t.right))) h.0 h.3 in
    let moves : List Move = map StepOf (first ∷ Store (SentinelAt w.plan.place) ∷ Release (SentinelAt w.plan.place) ∷ []) in (
      s.0,
      joined (roster_of w.plan) roster own.1 moves group s.0 s.1,
      s.2,
      (
        s.3.0,
        s.3.1 ∙ ap (λ (l : List Shown). group.said ++ said_by w.plan.place l) (advertised_same (roster_of w.plan) roster own.1 (map (output_to asker) e.outputs)),
      ),
      s.4,
      s.5,
    ) in
    subst P own.0 here

refused_at_place : (roster : Roster) (i : ℕ) (w : World) (e : Entry) (left : KeptText) (group : Group) (first : Step) → IsOwn roster i w →
    IsOutcome w e.input e.outputs e.failures Refused
    → IsAsLeft i w group → Brings i e.input group first → IsDone roster i group first left w (record e { outcome = Refused }) Refused
refused_at_place roster i w e left group first own h =
    let P : ℕ → Type 0 = λ k. IsAsLeft k w group → Brings k e.input group first → IsDone roster k group first left w (record e { outcome = Refused }) Refused in
    let here : P w.plan.place = λ is brings.
    let s = refused_steps w e group first own.2 is brings left h in
    let moves : List Move = map StepOf (first ∷ StoreRefused (SentinelAt w.plan.place) left ∷ []) in
    (s.0, joined (roster_of w.plan) roster own.1 moves group s.0 s.1, s.2, s.3, s.4, s.5, s.6) in
    subst P own.0 here

none_sent : (asker : NodeName) (outputs : List Output) → outputs ≡ [] → sent (map (output_to asker) outputs) ≡ []
none_sent asker outputs e = ap (λ (l : List Output). sent (map (output_to asker) l)) e

none_said : (roster : Roster) (i : ℕ) (outputs : List Output) → outputs ≡ [] → said_by i (advertised_by roster outputs) ≡ []
none_said roster i outputs e = ap (λ (l : List Output). said_by i (advertised_by roster l)) e

more_none : {A : Type 0} (xs ys : List A) → ys ≡ [] → xs ++ ys ≡ xs
more_none {A} xs ys e = ap (λ (l : List A). xs ++ l) e ∙ append-nil xs

module _ (roster : Roster) (stores : ℕ) (all : ℕ → Process) (messages : List Message) (i : ℕ) (e : Entry) (asker : NodeName) (left : KeptText) (group : Group)
    (h : Stands roster stores all messages group) (low : i < size roster) (runs : (all i).runs ≡ true)
    (b : IsBrought roster stores all messages i e.input group) where
  abbrev w : World
  w = (all i).world

  takes : (o : Outcome) → IsOutcome w e.input e.outputs e.failures o → Goes roster stores all messages (Took i (record e { outcome = o }) asker left) group
  takes Stored is =
      let g : Group = b.1 in
      let stands = b.4 in
      let own = stands.own i low runs in
      let mine = (stands.each i low).left runs in
      let s = stored_at_place roster i w e asker g b.2 own is mine b.5 in
      let p : Process = record { runs = true; world = after_outcome w e.input e.failures Stored; file = (after_outcome w e.input e.failures Stored).stored } in
      let more : List Message = sent (map (output_to asker) e.outputs) in (
        b.0 ++ (b.2 ∷ Store (SentinelAt i) ∷ Release (SentinelAt i) ∷ []),
        s.0,
        steps_join roster group g s.0 b.0 (b.2 ∷ Store (SentinelAt i) ∷ Release (SentinelAt i) ∷ []) b.3 s.1,
        one_moved roster stores all messages (messages ++ more) g s.0 i p s.4 (sent_more g s.0 messages more s.3.0 stands.sent_are)
            (record { file = s.2.file is.0; left = λ _. s.2 })
            (λ _. own_after roster i w e Stored own is) stands,
        s.5 ∙ ap (λ (l : List Election). l ++ elected_by i (wins_of (next_of w e.input).core.won)) b.6,
        s.3.1 ∙ ((λ j. b.7 j ++ said_by i (advertised_to roster asker e.outputs j))),
      )
  takes Refused is =
      let g : Group = b.1 in
      let stands = b.4 in
      let own = stands.own i low runs in
      let mine = (stands.each i low).left runs in
      let s = refused_at_place roster i w e left g b.2 own is mine b.5 in
      let after' : World = after_outcome w e.input e.failures Refused in
      let p : Process = record { runs = true; world = after'; file = kept_left left (all i).file after'.core.kept } in
      let nothing : sent (map (output_to asker) e.outputs) ≡ [] = none_sent asker e.outputs is.1 in (
        b.0 ++ (b.2 ∷ StoreRefused (SentinelAt i) left ∷ []),
        s.0,
        steps_join roster group g s.0 b.0 (b.2 ∷ StoreRefused (SentinelAt i) left ∷ []) b.3 s.1,
        one_moved roster stores all messages (messages ++ sent (map (output_to asker) e.outputs)) g s.0 i p s.4
            (λ x c. subst (λ (l : List Message). Contains l x) (sym s.3.0)
            (stands.sent_are x (subst (λ (l : List Message). Contains l x) (more_none messages (sent (map (output_to asker) e.outputs)) nothing) c)))
            (record { file = s.6 ∙ ap (λ (k : Kept). kept_left left k after'.core.kept) (stands.each i low).file; left = λ _. s.2 })
            (λ _. own_after roster i w e Refused own is) stands,
        s.5 ∙ (b.6 ∙ sym (append-nil group.elected)),
        s.3.1 ∙ (b.7 ∙ sym (more_none group.said (said_by i (advertised_by roster e.outputs)) (none_said roster i e.outputs is.1))),
      )
  takes Halted is =
      let own = h.own i low runs in
      let mine = (h.each i low).left runs in
      let after' : World = after_outcome w e.input e.failures Halted in
      let p : Process = record { runs = true; world = after'; file = (all i).file } in
      let nothing : sent (map (output_to asker) e.outputs) ≡ [] = none_sent asker e.outputs is.1 in
      let alone : MovesAlone i group group = record { count = refl; others = λ j apart. refl; stores = refl; clients = refl } in
      let stays' : IsAsLeft i after' group = record { inside = mine.inside; state = mine.state; file = mine.file; parts = mine.parts; cards = mine.cards } in (
        [],
        group,
        refl,
        one_moved roster stores all messages (messages ++ sent (map (output_to asker) e.outputs)) group group i p alone
            (λ x c. h.sent_are x (subst (λ (l : List Message). Contains l x) (more_none messages (sent (map (output_to asker) e.outputs)) nothing) c))
            (record { file = (h.each i low).file; left = λ _. stays' })
            (λ _. own_after roster i w e Halted own is) h,
        sym (append-nil group.elected),
        sym (more_none group.said (said_by i (advertised_by roster e.outputs)) (none_said roster i e.outputs is.1)),
      )

-- An input of which no notice is taken does what one does that no message brings, and of which none is taken either

abbrev instead : Input → Input
instead input = record { now = input.now; event = Become 0 0 0 }

not_flushed : (plan : Plan) (event : Event) → is_noticed plan event ≡ false → is_flush event ≡ false
not_flushed plan (Tick m random) h = absurd (true≢false h)
not_flushed plan (Command sender command) h = absurd (true≢false h)
not_flushed plan (Answered voter m addr down leader epoch) h = refl
not_flushed plan (Pinged node reply) h = refl
not_flushed plan (InfoRead node text) h = refl
not_flushed plan (HelloRead text) h = refl
not_flushed plan (Refused node) h = refl
not_flushed plan (Disconnected node) h = refl
not_flushed plan (Become priority offset link_down) h = refl
not_flushed plan (Handed message) h = refl

same_next : (w : World) (input : Input) → is_noticed w.plan input.event ≡ false → next_of w input ≡ next_of w (instead input)
same_next w input h = ignored_changes_nothing w.plan w.core input.now input.event h ∙ sym (ignored_changes_nothing w.plan w.core input.now (Become 0 0 0) refl)

-- what an input gives, and whether it is one that is always stored
abbrev given : World → Input → Next × Bool
given w input = (next_of w input, is_flush input.event)

same_given : (w : World) (input : Input) → is_noticed w.plan input.event ≡ false → given w (instead input) ≡ given w input
same_given w input h = λ j. (sym (same_next w input h) j, sym (not_flushed w.plan input.event h) j)

abbrev must_store_of : World → Next × Bool → Bool
must_store_of w x = not (same_kept x.0.core.kept w.core.kept) || x.1

same_after : (w : World) (input : Input) (failures : ℕ) (o : Outcome) → is_noticed w.plan input.event ≡ false →
    after_outcome w (instead input) failures o ≡ after_outcome w input failures o
same_after w input failures Stored h = ap
    (λ (x : Next × Bool).
    let v : World = record {
      plan = w.plan;
      core = x.0.core;
      stored = x.0.core.kept;
      halted = w.halted;
      change = changed_card w.core.kept x.0.core.kept;
      text = cond (must_store_of w x) (Some (rewritten w.plan.conf x.0.core.kept)) w.text;
      refused = w.refused;
      failures = failures;
    } in v)
    (same_given w input h)
same_after w input failures Refused h = ap
    (λ (x : Next × Bool).
    let v : World = record {
      plan = w.plan;
      core = x.0.core;
      stored = w.stored;
      halted = true;
      change = changed_card w.core.kept x.0.core.kept;
      text = w.text;
      refused = Some (rewritten w.plan.conf x.0.core.kept);
      failures = failures;
    } in v)
    (same_given w input h)
same_after w input failures Halted h = refl

same_outcome : (w : World) (input : Input) (outputs : List Output) (failures : ℕ) (o : Outcome) → is_noticed w.plan input.event ≡ false →
    IsOutcome w input outputs failures o → IsOutcome w (instead input) outputs failures o
same_outcome w input outputs failures Stored h is = (is.0, is.1 ∙ ap (λ (n : Next). n.outputs) (same_next w input h), is.2, tt)
same_outcome w input outputs failures Refused h is = (is.0, is.1, is.2, tt, ap (must_store_of w) (same_given w input h) ∙ is.4)
same_outcome w input outputs failures Halted h is = is

-- what the entry does, by the world after it
abbrev filed_with : Outcome → KeptText → Process → World → Kept
filed_with Stored left p v = v.stored
filed_with Refused left p v = kept_left left p.file v.core.kept
filed_with Halted left p v = p.file

abbrev GoesTo : Roster → (stores : ℕ) → (ℕ → Process) → List Message → (i : ℕ) → List Output → NodeName → KeptText → Group → Outcome → World → Type 0
GoesTo roster stores all messages i outputs asker left group o v =
    (steps : List Step) × (last : Group) × Run roster steps group last
    × Stands roster stores (with_process all i (record { runs = true; world = v; file = filed_with o left (all i) v }))
    (messages ++ sent (map (output_to asker) outputs)) last
    × (last.elected ≡ group.elected ++ elected_at o i v) × (last.said ≡ group.said ++ said_by i (advertised_by roster outputs))

unnoticed : (roster : Roster) (stores : ℕ) (all : ℕ → Process) (messages : List Message) (i : ℕ) (e : Entry) (asker : NodeName) (left : KeptText) (group : Group) (o : Outcome) →
    is_noticed (all i).world.plan e.input.event ≡ false
    → Goes roster stores all messages (Took i (record e { input = instead e.input; outcome = o }) asker left) group
    → Goes roster stores all messages (Took i (record e { outcome = o }) asker left) group
unnoticed roster stores all messages i e asker left group Stored h g =
    subst (GoesTo roster stores all messages i e.outputs asker left group Stored) (same_after (all i).world e.input e.failures Stored h) g
unnoticed roster stores all messages i e asker left group Refused h g =
    subst (GoesTo roster stores all messages i e.outputs asker left group Refused) (same_after (all i).world e.input e.failures Refused h) g
unnoticed roster stores all messages i e asker left group Halted h g =
    subst (GoesTo roster stores all messages i e.outputs asker left group Halted) (same_after (all i).world e.input e.failures Halted h) g

-- an entry, by what its event is heard from
takes_heard : (roster : Roster) (stores : ℕ) (all : ℕ → Process) (messages : List Message) (i : ℕ) (e : Entry) (asker : NodeName) (left : KeptText) (group : Group) →
    Stands roster stores all messages group → i < size roster → (all i).runs ≡ true → IsStep (all i).world e
    → IsHeard (all i).world.plan stores messages i e.input.event → Goes roster stores all messages (Took i e asker left) group
takes_heard roster stores all messages i e asker left group h low runs is heard = ⊎_elim
    (λ (alone : IsFree e.input.event ⊎ (is_noticed (all i).world.plan e.input.event ≡ false)). ⊎_elim
    (λ (free : IsFree e.input.event).
    takes roster stores all messages i e asker left group h low runs (free_comes roster stores all messages i e.input group h free) e.outcome is)
    (λ (no : is_noticed (all i).world.plan e.input.event ≡ false).
    let f : Entry = record e { input = instead e.input } in
    unnoticed roster stores all messages i e asker left group e.outcome no
    (takes roster stores all messages i f asker left group h low runs (free_comes roster stores all messages i f.input group h tt) e.outcome
    (same_outcome (all i).world e.input e.outputs e.failures e.outcome no is)))
    alone)
    (λ (came : IsSentTo messages i e.input.event ⊎ IsPublished stores messages e.input.event).
    takes roster stores all messages i e asker left group h low runs (comes roster stores all messages i e.input group h came) e.outcome is)
    heard

one_action : (roster : Roster) (stores : ℕ) (all : ℕ → Process) (messages : List Message) (d : Action) (group : Group) → Stands roster stores all messages group →
    IsAction roster stores all messages d → Goes roster stores all messages d group
one_action roster stores all messages (Opened i w now) group h d = opens roster stores all messages i w now group h d.0 d.1
one_action roster stores all messages (Took i e asker left) group h d = takes_heard roster stores all messages i e asker left group h d.0 d.1 d.2 d.3
one_action roster stores all messages (Told i m) group h d = tells roster stores all messages i m group h d.0 d.1 d.2

-- all actions

abbrev pub AllGo : Roster → (stores : ℕ) → (ℕ → Process) → List Message → List Action → Group → Type 0
AllGo roster stores all messages ds group =
    (steps : List Step) × (last : Group) × Run roster steps group last × Stands roster stores (actions_after all ds) (messages ++ all_sent ds) last
    × (last.elected ≡ group.elected ++ all_elected all ds) × (last.said ≡ group.said ++ all_said roster all ds)

pub merged : (roster : Roster) (stores : ℕ) (all : ℕ → Process) (messages : List Message) (ds : List Action) (group : Group) → Stands roster stores all messages group →
    AreActions roster stores all messages ds → AllGo roster stores all messages ds group
merged roster stores all messages [] group h a =
    ([], group, refl, subst (λ (l : List Message). Stands roster stores all l group) (sym (append-nil messages)) h, sym (append-nil group.elected), sym (append-nil group.said))
merged roster stores all messages (d ∷ ds) group h a =
    let one = one_action roster stores all messages d group h a.0 in
    let rest = merged roster stores (action_after all d) (messages ++ sent_by d) ds one.1 one.3 a.1 in (
      one.0 ++ rest.0,
      rest.1,
      steps_join roster group one.1 rest.1 one.0 rest.0 one.2 rest.2,
      subst (λ (l : List Message). Stands roster stores (actions_after (action_after all d) ds) l rest.1) (append_assoc messages (sent_by d) (all_sent ds)) rest.3,
      rest.4 ∙ (ap (λ (l : List Election). l ++ all_elected (action_after all d) ds) one.4 ∙ append_assoc group.elected (elected_in all d) (all_elected (action_after all d) ds)),
      rest.5 ∙ (ap (λ (l : List Advertisement). l ++ all_said roster (action_after all d) ds) one.5 ∙
          append_assoc group.said (said_in roster all d) (all_said roster (action_after all d) ds)),
    )

pub stands_at_first : (roster : Roster) (start : Group) → IsStart roster start → Stands roster (length start.stores) (at_first start) [] start
stands_at_first roster start is = record {
  count = is.count;
  stores_are = refl;
  sent_are = λ x c. absurd (let low : c.0 < 0 = c.1 in omega arith);
  each = λ i low. record { file = refl; left = λ (r : false ≡ true). absurd (true≢false (sym r)) };
  own = λ i low (r : false ≡ true). absurd (true≢false (sym r));
}

pub processes_are_a_run : ProcessesAreARun
processes_are_a_run roster start actions is a =
    let m = merged roster (length start.stores) (at_first start) [] actions start (stands_at_first roster start is) a in (
      m.0,
      m.1,
      m.2,
      m.4 ∙ ap (λ (l : List Election). l ++ all_elected (at_first start) actions) is.elected,
      m.5 ∙ ap (λ (l : List Advertisement). l ++ all_said roster (at_first start) actions) is.said,
      m.3.sent_are,
      m.3.each,
    )
