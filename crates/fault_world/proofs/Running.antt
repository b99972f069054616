-- A call on one member of a group is a step of the model's world.
use Rattle.std.proofs.Common.{inl, inr, ◌≡◌, ◌≢◌, ℕ, Bool, true, false, Option, Some, List, [], ◌∷◌, ◌++◌, slice_get, set, refl, sym, ◌∙◌, ap, subst, append-nil, is_ok, cond}
use Rattle.std.specs.List.{AllByRecursion}
use Rattle.ballot_law.specs.declared.events.Event.{Event}
use Rattle.ballot_law.specs.declared.events.Input.{Input}
use Rattle.ballot_law.specs.declared.messages.Message.{Message}
use Rattle.ballot_law.specs.declared.messages.NodeName.{NodeName}
use Rattle.ballot_law.specs.declared.messages.NodeName.TheVariants.{SentinelAt, StoreAt, ClientAt, PortAt}
use Rattle.ballot_law.specs.declared.messages.Output.{Output}
use Rattle.ballot_law.specs.declared.messages.Output.TheVariants.{Send, Tell}
use Rattle.ballot_law.specs.declared.records.Election.{Election}
use Rattle.ballot_law.specs.declared.records.Advertisement.{Advertisement}
use Rattle.ballot_law.specs.declared.steps.KeptText.{KeptText}
use Rattle.ballot_law.specs.declared.steps.KeptText.TheVariants.{Old, New}
use Rattle.ballot_law.specs.declared.steps.Step.{Step}
use Rattle.ballot_law.specs.declared.steps.Step.TheVariants as step
use Rattle.ballot_law.specs.Rosters.{Roster}
use Rattle.ballot_law.specs.Messages.{sent, Delivers, IsFor}
use Rattle.ballot_law.specs.Worlds.{World, Ready, IsNode, IsFree, Steps}
use Rattle.boxed_nodes.specs.declared.calls.HowStored.TheVariants as how
use Rattle.boxed_nodes.specs.Images.{Image, OfSentinel, OfOther, IsOfKind, image_at, state_of, held_of, how_left, after_store, stored_image, refused_image, released_image, stopped_image, started_image, wins_of, has_text, refusal}
use Rattle.boxed_nodes.specs.Moves.{Stops, wins_told}
use Rattle.boxed_nodes.specs.Sendable.{IsSendable, IsSendableOutput}
use Rattle.fault_world.specs.Standing.{IsShown}
use Rattle.fault_world.specs.Seats.{SeatTakes, SeatStores, SeatReleases, SeatStarts, wins_stored}
use Rattle.fault_world.specs.declared.entry.Entry.{Entry}
use Rattle.fault_world.specs.News.{news_of, elected_told, said_told}
use Rattle.fault_world.specs.Runs.{mover_of, Stepped, RunsTo}
use Rattle.fault_world.proofs.NodeKinds.{kind_at, kind_stored, kind_refused, kind_stopped, kind_started, kind_released, kind_taken}
use Rattle.ballot_law.proofs.States.{ready_or_not, pending_or_not, stored_or_not, stopped_or_not}
use Rattle.fault_world.proofs.Seen.{elected_of, said_of, unchanged, image_there}
use Rattle.fault_world.proofs.Standing.{shown_after}
use Rattle.fault_world.proofs.Stepping.{Applied, take_steps, store_steps, refused_steps, elected_unless, release_steps, stop_steps, start_steps, deliver_steps, no_take, no_store, no_refused, no_release, no_start, no_delivery}

-- elections, by the node's name
told_elected : (name : NodeName) (image : Image) → IsOfKind name image → elected_told name (wins_of image) ≡ elected_of name image
told_elected (SentinelAt i) (OfSentinel s) k = refl
told_elected (StoreAt i) (OfOther o) k = refl
told_elected (ClientAt i) (OfOther o) k = refl
told_elected (SentinelAt i) (OfOther o) k = absurd k
told_elected (StoreAt i) (OfSentinel s) k = absurd k
told_elected (ClientAt i) (OfSentinel s) k = absurd k
told_elected (PortAt i) image k = absurd k

told_none : (name : NodeName) → elected_told name [] ≡ []
told_none (SentinelAt i) = refl
told_none (StoreAt i) = refl
told_none (ClientAt i) = refl
told_none (PortAt i) = refl

told_refused : (must_store : Bool) (name : NodeName) (image : Image) → IsOfKind name image →
    elected_told name (cond (is_ok (refusal must_store)) (wins_of image) []) ≡ elected_unless must_store name image
told_refused true name image k = told_none name
told_refused false name image k = told_elected name image k

-- advertisements, by the node's name
said_held : (roster : Roster) (name : NodeName) (image : Image) → IsOfKind name image → said_told roster name (held_of image) ≡ said_of roster name image
said_held roster (SentinelAt i) (OfSentinel s) k = refl
said_held roster (StoreAt i) (OfOther o) k = refl
said_held roster (ClientAt i) (OfOther o) k = refl
said_held roster (SentinelAt i) (OfOther o) k = absurd k
said_held roster (StoreAt i) (OfSentinel s) k = absurd k
said_held roster (ClientAt i) (OfSentinel s) k = absurd k
said_held roster (PortAt i) image k = absurd k

-- One step

one_step : (roster : Roster) (s : Step) (w w2 : World) (news : List Entry) (shown : World → Type 0) → Stepped roster s w news w2 → shown w2 → RunsTo roster (s ∷ []) w news shown
one_step roster s w w2 news shown st g = record { last = w2; ran = (w2, news, [], st, (refl, refl), sym (append-nil news)); shows = g }

-- the part of every step that applies
pub moved : {M : Type 0} (name : M → NodeName) (seat : M → Roster → Image → Type 0) (roster : Roster) (members : List M) (messages more : List Message) (elected : List Election)
    (said : List Advertisement) (w : World) (k : ℕ) (m m2 : M) (image : Image) (s : Step) →
    IsShown name seat roster members messages w → slice_get members k ≡ Some m → name m2 ≡ name m → IsOfKind (name m) image → seat m2 roster image →
    AllByRecursion IsSendable more → mover_of w s ≡ Some (name m) → Applied roster s w (name m) image more elected said →
    RunsTo roster (s ∷ []) w (news_of roster elected said) (IsShown name seat roster (set members k m2) (messages ++ more))
moved name seat roster members messages more elected said w k m m2 image s g at' named kind seated fine mover st =
    one_step roster s w st.next_world (news_of roster elected said) (IsShown name seat roster (set members k m2) (messages ++ more))
    (record {
      steps = st.steps;
      still = λ node apart. image_there w st.next_world (name m) image node (λ same. apart (ap Some same ∙ sym mover)) st.changed.sentinels st.changed.stores st.changed.clients;
      elected = elected;
      said = said;
      elected_are = st.changed.elected_are;
      said_are = st.changed.said_are;
      news_are = refl;
    })
    (shown_after name seat roster members messages more elected said w st.next_world k m m2 image g at' named kind seated fine st.changed)

-- one that sends nothing
pub moved_silently : {M : Type 0} (name : M → NodeName) (seat : M → Roster → Image → Type 0) (roster : Roster) (members : List M) (messages : List Message)
    (elected : List Election) (said : List Advertisement) (w : World) (k : ℕ) (m m2 : M) (image : Image) (s : Step) →
    IsShown name seat roster members messages w → slice_get members k ≡ Some m → name m2 ≡ name m → IsOfKind (name m) image → seat m2 roster image → mover_of w s ≡ Some (name m) →
    Applied roster s w (name m) image [] elected said →
    RunsTo roster (s ∷ []) w (news_of roster elected said) (IsShown name seat roster (set members k m2) messages)
moved_silently name seat roster members messages elected said w k m m2 image s g at' named kind seated mover st =
    subst (λ xs. RunsTo roster (s ∷ []) w (news_of roster elected said) (IsShown name seat roster (set members k m2) xs)) (append-nil messages)
    (moved name seat roster members messages [] elected said w k m m2 image s g at' named kind seated tt mover st)

-- a step that changes nothing
unmoved : (roster : Roster) (s : Step) (w : World) → Steps roster s w w → Stepped roster s w [] w
unmoved roster s w st =
    record {
      steps = st;
      still = λ node apart. refl;
      elected = [];
      said = [];
      elected_are = sym (append-nil w.elected);
      said_are = sym (append-nil w.said);
      news_are = refl;
    }

pub still : (roster : Roster) (w : World) (s : Step) (shown : World → Type 0) → shown w → Steps roster s w w → RunsTo roster (s ∷ []) w [] shown
still roster w s shown g st = one_step roster s w w [] shown (unmoved roster s w st) g

-- the group where its member k stands for what it stood for
pub shown_still : {M : Type 0} (name : M → NodeName) (seat : M → Roster → Image → Type 0) (roster : Roster) (members : List M) (messages : List Message) (w : World) (k : ℕ)
    (m m2 : M) →
    IsShown name seat roster members messages w → slice_get members k ≡ Some m → name m2 ≡ name m → seat m2 roster (image_at w (name m)) →
    IsShown name seat roster (set members k m2) messages w
shown_still name seat roster members messages w k m m2 g at' named seated =
    let here = (g.each k m at').0 in
    subst (λ xs. IsShown name seat roster (set members k m2) xs w) (append-nil messages)
    (shown_after name seat roster members messages [] [] [] w w k m m2 (image_at w (name m)) g at' named (kind_at w (name m) here) seated tt (unchanged w (name m) here))

pub stayed : {M : Type 0} (name : M → NodeName) (seat : M → Roster → Image → Type 0) (roster : Roster) (members : List M) (messages : List Message) (w : World) (k : ℕ) (m m2 : M)
    (s : Step) →
    IsShown name seat roster members messages w → slice_get members k ≡ Some m → name m2 ≡ name m → seat m2 roster (image_at w (name m)) → Steps roster s w w →
    RunsTo roster (s ∷ []) w [] (IsShown name seat roster (set members k m2) messages)
stayed name seat roster members messages w k m m2 s g at' named seated st =
    still roster w s (IsShown name seat roster (set members k m2) messages) (shown_still name seat roster members messages w k m m2 g at' named seated) st

-- By the call that the step makes on a member

pub take_runs : {M : Type 0} (name : M → NodeName) (seat : M → Roster → Image → Type 0) (roster : Roster) (members : List M) (messages : List Message) (w : World) (k : ℕ)
    (m m2 : M) (input : Input) →
    IsFree input.event → SeatTakes (name m) input.event (seat m) (seat m2) → IsShown name seat roster members messages w → slice_get members k ≡ Some m → name m2 ≡ name m →
    RunsTo roster (step.Take (name m) input ∷ []) w [] (IsShown name seat roster (set members k m2) messages)
take_runs name seat roster members messages w k m m2 input free takes g at' named =
    let here = g.each k m at' in let image = image_at w (name m) in
    elim (ready_or_not (state_of image)) as (λ _. RunsTo roster (step.Take (name m) input ∷ []) w [] (IsShown name seat roster (set members k m2) messages)) [
      | inl ready ↦ (let t = takes.ready roster image here.1 ready in
          moved_silently name seat roster members messages [] [] w k m m2 t.after (step.Take (name m) input) g at' named
          (kind_taken roster (name m) input.event image t.held t.after t.moved) t.shows refl (take_steps roster w (name m) input t.held t.after here.0 ready free t.moved))
      | inr other ↦ stayed name seat roster members messages w k m m2 (step.Take (name m) input) g at' named (takes.other roster image here.1 other)
          (no_take roster w (name m) input other)
    ]

pub deliver_runs : {M : Type 0} (name : M → NodeName) (seat : M → Roster → Image → Type 0) (roster : Roster) (members : List M) (messages : List Message) (w : World) (k : ℕ)
    (m m2 : M) (number now : ℕ) (message : Message) (event : Event) →
    slice_get messages number ≡ Some message → name m ≡ message.target → IsFor message.target message.body → Delivers message event → SeatTakes (name m) event (seat m) (seat m2) →
    IsShown name seat roster members messages w → slice_get members k ≡ Some m → name m2 ≡ name m →
    RunsTo roster (step.Deliver number now ∷ []) w [] (IsShown name seat roster (set members k m2) messages)
deliver_runs name seat roster members messages w k m m2 number now message event found target for delivers takes g at' named =
    let here = g.each k m at' in let image = image_at w (name m) in
    let sent_it : slice_get w.messages number ≡ Some message = ap (λ xs. slice_get xs number) g.messages_are ∙ found in
    elim (ready_or_not (state_of image)) as (λ _. RunsTo roster (step.Deliver number now ∷ []) w [] (IsShown name seat roster (set members k m2) messages)) [
      | inl ready ↦ (let t = takes.ready roster image here.1 ready in
          moved_silently name seat roster members messages [] [] w k m m2 t.after (step.Deliver number now) g at' named
          (kind_taken roster (name m) event image t.held t.after t.moved) t.shows
          (ap (λ x. Rattle.std.specs.Option.option_map (λ (p : Message). p.target) x) sent_it ∙ ap Some (sym target))
          (subst (λ n. Applied roster (step.Deliver number now) w n t.after [] [] []) (sym target)
          (deliver_steps roster w number now message event t.held t.after sent_it (subst (IsNode w) target here.0) (subst (λ n. state_of (image_at w n) ≡ Ready) target ready) for
          delivers (subst (λ n. Rattle.boxed_nodes.specs.Images.TakenTo roster n event (image_at w n) t.held t.after) target t.moved))))
      | inr other ↦ stayed name seat roster members messages w k m m2 (step.Deliver number now) g at' named (takes.other roster image here.1 other)
          (no_delivery roster w number now message sent_it (subst (λ n. state_of (image_at w n) ≢ Ready) target other))
    ]

pub stop_runs : {M : Type 0} (name : M → NodeName) (seat : M → Roster → Image → Type 0) (roster : Roster) (members : List M) (messages : List Message) (w : World) (k : ℕ)
    (m m2 : M) (left : KeptText) →
    Stops left (seat m) (seat m2) → IsShown name seat roster members messages w → slice_get members k ≡ Some m → name m2 ≡ name m →
    RunsTo roster (step.Stop (name m) left ∷ []) w [] (IsShown name seat roster (set members k m2) messages)
stop_runs name seat roster members messages w k m m2 left stops g at' named =
    let here = g.each k m at' in let image = image_at w (name m) in
    moved_silently name seat roster members messages [] [] w k m m2 (stopped_image left image) (step.Stop (name m) left) g at' named
    (kind_stopped left (name m) image (kind_at w (name m) here.0)) (stops.each roster image here.1) refl (stop_steps roster w (name m) left here.0)

pub start_runs : {M : Type 0} (name : M → NodeName) (seat : M → Roster → Image → Type 0) (roster : Roster) (members : List M) (messages : List Message) (w : World) (k : ℕ)
    (m m2 : M) (now : ℕ) →
    SeatStarts (seat m) (seat m2) → IsShown name seat roster members messages w → slice_get members k ≡ Some m → name m2 ≡ name m →
    RunsTo roster (step.Start (name m) now ∷ []) w [] (IsShown name seat roster (set members k m2) messages)
start_runs name seat roster members messages w k m m2 now starts g at' named =
    let here = g.each k m at' in let image = image_at w (name m) in
    elim (stopped_or_not (state_of image)) as (λ _. RunsTo roster (step.Start (name m) now ∷ []) w [] (IsShown name seat roster (set members k m2) messages)) [
      | inl stopped ↦ moved_silently name seat roster members messages [] [] w k m m2 (started_image roster image) (step.Start (name m) now) g at' named
          (kind_started roster (name m) image (kind_at w (name m) here.0)) (starts.stopped roster image here.1 stopped) refl (start_steps roster w (name m) now here.0 stopped)
      | inr other ↦ stayed name seat roster members messages w k m m2 (step.Start (name m) now) g at' named (starts.other roster image here.1 other)
          (no_start roster w (name m) now other)
    ]

-- the elections of a store are told; where nothing waits to be stored, none is
pub store_runs : {M : Type 0} (name : M → NodeName) (seat : M → Roster → Image → Type 0) (roster : Roster) (members : List M) (messages : List Message) (w : World) (k : ℕ)
    (m m2 : M) (won : Option (ℕ × ℕ)) →
    SeatStores how.Done won (seat m) (seat m2) → IsShown name seat roster members messages w → slice_get members k ≡ Some m → name m2 ≡ name m →
    RunsTo roster (step.Store (name m) ∷ []) w (news_of roster (elected_told (name m) (wins_told won)) []) (IsShown name seat roster (set members k m2) messages)
store_runs name seat roster members messages w k m m2 won stores g at' named =
    let here = g.each k m at' in let image = image_at w (name m) in let kind = kind_at w (name m) here.0 in
    elim (pending_or_not (state_of image)) as (λ _. RunsTo roster (step.Store (name m) ∷ []) w (news_of roster (elected_told (name m) (wins_told won)) [])
    (IsShown name seat roster (set members k m2) messages)) [
      | inl pending ↦ (let t = stores.pending roster image here.1 pending in
          subst (λ es. RunsTo roster (step.Store (name m) ∷ []) w (news_of roster es []) (IsShown name seat roster (set members k m2) messages))
          (sym (ap (elected_told (name m)) t.1 ∙ told_elected (name m) image kind))
          (moved_silently name seat roster members messages (elected_of (name m) image) [] w k m m2 (stored_image image) (step.Store (name m)) g at' named
          (kind_stored (name m) image kind) t.0 refl (store_steps roster w (name m) here.0 pending)))
      | inr other ↦ (let t = stores.other roster image here.1 other in
          subst (λ es. RunsTo roster (step.Store (name m) ∷ []) w (news_of roster es []) (IsShown name seat roster (set members k m2) messages))
          (sym (ap (λ x. elected_told (name m) (wins_told x)) t.1 ∙ told_none (name m)))
          (stayed name seat roster members messages w k m m2 (step.Store (name m)) g at' named t.0 (no_store roster w (name m) other)))
    ]

after_left : (left : KeptText) (image : Image) → after_store (how_left left) image ≡ refused_image left image
after_left Old image = refl
after_left New image = refl

wins_left : (left : KeptText) (image : Image) → wins_stored (how_left left) image ≡ cond (is_ok (refusal (has_text image))) (wins_of image) []
wins_left Old image = refl
wins_left New image = refl

pub refused_runs : {M : Type 0} (name : M → NodeName) (seat : M → Roster → Image → Type 0) (roster : Roster) (members : List M) (messages : List Message) (w : World) (k : ℕ)
    (m m2 : M) (left : KeptText) (won : Option (ℕ × ℕ)) →
    SeatStores (how_left left) won (seat m) (seat m2) → IsShown name seat roster members messages w → slice_get members k ≡ Some m → name m2 ≡ name m →
    RunsTo roster (step.StoreRefused (name m) left ∷ []) w (news_of roster (elected_told (name m) (wins_told won)) []) (IsShown name seat roster (set members k m2) messages)
refused_runs name seat roster members messages w k m m2 left won stores g at' named =
    let here = g.each k m at' in let image = image_at w (name m) in let kind = kind_at w (name m) here.0 in
    elim (pending_or_not (state_of image)) as (λ _. RunsTo roster (step.StoreRefused (name m) left ∷ []) w (news_of roster (elected_told (name m) (wins_told won)) [])
    (IsShown name seat roster (set members k m2) messages)) [
      | inl pending ↦ (let t = stores.pending roster image here.1 pending in
          subst (λ es. RunsTo roster (step.StoreRefused (name m) left ∷ []) w (news_of roster es []) (IsShown name seat roster (set members k m2) messages))
          (sym (ap (elected_told (name m)) (t.1 ∙ wins_left left image) ∙ told_refused (has_text image) (name m) image kind))
          (moved_silently name seat roster members messages (elected_unless (has_text image) (name m) image) [] w k m m2 (refused_image left image)
          (step.StoreRefused (name m) left) g at' named (kind_refused left (name m) image kind) (subst (seat m2 roster) (after_left left image) t.0) refl
          (refused_steps roster w (name m) left here.0 pending)))
      | inr other ↦ (let t = stores.other roster image here.1 other in
          subst (λ es. RunsTo roster (step.StoreRefused (name m) left ∷ []) w (news_of roster es []) (IsShown name seat roster (set members k m2) messages))
          (sym (ap (λ x. elected_told (name m) (wins_told x)) t.1 ∙ told_none (name m)))
          (stayed name seat roster members messages w k m m2 (step.StoreRefused (name m) left) g at' named t.0 (no_refused roster w (name m) left other)))
    ]

sent_sendable : (xs : List Output) → AllByRecursion IsSendableOutput xs → AllByRecursion IsSendable (sent xs)
sent_sendable [] fine = tt
sent_sendable (Send message ∷ xs) fine = (fine.0, sent_sendable xs fine.1)
sent_sendable (Tell note ∷ xs) fine = sent_sendable xs fine.1

said_none : (roster : Roster) (name : NodeName) → said_told roster name [] ≡ []
said_none roster (SentinelAt i) = refl
said_none roster (StoreAt i) = refl
said_none roster (ClientAt i) = refl
said_none roster (PortAt i) = refl

-- what was released is sent, and what it advertises is told
pub release_runs : {M : Type 0} (name : M → NodeName) (seat : M → Roster → Image → Type 0) (roster : Roster) (members : List M) (messages : List Message) (out : List Output)
    (w : World) (k : ℕ) (m m2 : M) →
    SeatReleases [] out (seat m) (seat m2) → ((image : Image) → seat m roster image → AllByRecursion IsSendableOutput (held_of image)) →
    IsShown name seat roster members messages w → slice_get members k ≡ Some m → name m2 ≡ name m →
    RunsTo roster (step.Release (name m) ∷ []) w (news_of roster [] (said_told roster (name m) out)) (IsShown name seat roster (set members k m2) (messages ++ sent out))
release_runs name seat roster members messages out w k m m2 releases fine g at' named =
    let here = g.each k m at' in let image = image_at w (name m) in let kind = kind_at w (name m) here.0 in
    elim (stored_or_not (state_of image)) as (λ _. RunsTo roster (step.Release (name m) ∷ []) w (news_of roster [] (said_told roster (name m) out))
    (IsShown name seat roster (set members k m2) (messages ++ sent out))) [
      | inl stored ↦ (let t = releases.stored roster image here.1 stored in
          subst (λ (os : List Output). RunsTo roster (step.Release (name m) ∷ []) w (news_of roster [] (said_told roster (name m) os))
          (IsShown name seat roster (set members k m2) (messages ++ sent os))) (sym t.1)
          (subst (λ ss. RunsTo roster (step.Release (name m) ∷ []) w (news_of roster [] ss) (IsShown name seat roster (set members k m2) (messages ++ sent (held_of image))))
          (sym (said_held roster (name m) image kind))
          (moved name seat roster members messages (sent (held_of image)) [] (said_of roster (name m) image) w k m m2 (released_image image) (step.Release (name m)) g at' named
          (kind_released (name m) image kind) t.0 (sent_sendable (held_of image) (fine image here.1)) refl (release_steps roster w (name m) here.0 stored))))
      | inr other ↦ (let t = releases.other roster image here.1 other in
          subst (λ (os : List Output). RunsTo roster (step.Release (name m) ∷ []) w (news_of roster [] (said_told roster (name m) os))
          (IsShown name seat roster (set members k m2) (messages ++ sent os))) (sym t.1)
          (subst (λ ss. RunsTo roster (step.Release (name m) ∷ []) w (news_of roster [] ss) (IsShown name seat roster (set members k m2) (messages ++ [])))
          (sym (said_none roster (name m)))
          (subst (λ xs. RunsTo roster (step.Release (name m) ∷ []) w [] (IsShown name seat roster (set members k m2) xs)) (sym (append-nil messages))
          (stayed name seat roster members messages w k m m2 (step.Release (name m)) g at' named t.0 (no_release roster w (name m) other)))))
    ]
