-- The invariant of the whole world, and how the steps keep it.
use Rattle.std.proofs.Common.{◌≡◌, ◌≢◌, ℕ, zero, suc, ◌<◌, ◌≤◌, Bool, true, false, Option, Some, None, List, [], ◌∷◌, ◌++◌, length, get_or, set, refl, sym, ap, subst, ◌∙◌, inl, inr, ⊎_elim, arith, length-set, get_or-set_same, get_or-set_other}
use Rattle.std.specs.Prelude.{All, IsSome, slice_get, unwrap_or}
use Rattle.std.proofs.lemmas.Bool.{cases_eq}
use Rattle.std.proofs.lemmas.Option.{slice_get_within, get_or_from_slice_get}
use Rattle.std.proofs.lemmas.List.Elements.{All-nil, All-cons, All-head, All-tail, All-weaker, All-push, All-append, All-map, All-get_or}
use Rattle.ballot_law.specs.declared.messages.Body.{Body}
use Rattle.ballot_law.specs.declared.messages.Message.{Message}
use Rattle.ballot_law.specs.declared.messages.Output.{Output}
use Rattle.ballot_law.specs.declared.messages.Output.TheVariants.{Send, Tell}
use Rattle.ballot_law.specs.declared.events.Event.{Event}
use Rattle.ballot_law.specs.declared.steps.Step.{Step}
use Rattle.ballot_law.specs.declared.steps.Step.TheVariants.{Take, Deliver, Store, StoreRefused, Release, Stop, Start, Answer}
use Rattle.ballot_law.specs.declared.messages.NodeName.{NodeName}
use Rattle.ballot_law.specs.declared.messages.NodeName.TheVariants.{SentinelAt, StoreAt, ClientAt, PortAt}
use Rattle.ballot_law.specs.declared.steps.KeptText.{KeptText}
use Rattle.ballot_law.specs.declared.steps.KeptText.TheVariants.{Old, New}
use Rattle.ballot_law.specs.Rosters.{size}
use Rattle.ballot_law.specs.Messages.{Vote, vote_shown, published, sent, advertised_by}
use Rattle.ballot_law.specs.Ballots.{card_of}
use Rattle.ballot_law.specs.declared.cards.Kept.{Kept}
use Rattle.ballot_law.specs.Worlds.{State, Ready, Pending, Stored, Halted, Stopped, Sentinel, Other, World, no_sentinel, no_other, sentinel_at, with_sentinel, IsSentinel, IsAt, IsNode, Choice, IsChoice, taken, elected_by, said_by, filed, after_store, after_refused, after_release, after_stop, after_answer, started, stores_of, card_after, other_at, IsOther, with_other, IsPassable, Takes, Stores, IsRefused, Releases, Stops, Starts, Answers, AnswersNow, IsDelivered, Steps, Move, StepOf, LateAnswer, Moves}
use Rattle.ballot_law.specs.declared.records.Election.{Election}
use Rattle.ballot_law.specs.declared.records.Advertisement.{Advertisement}
use Rattle.ballot_law.specs.Law.{FallsNowhere}
use Rattle.ballot_law.proofs.History.{Pick, History, Group, Backed, CardOk, Within, Grows, Grows-same, Grows-others, Backed-grows, CardOk-grows, grown, Within-grown}
use Rattle.ballot_law.proofs.Takes.{MessageOk, MessageOk-grows, EventOk, WinOk}
use Rattle.ballot_law.proofs.Nodes.{sent_ok, advertised_ok, LiveOk, StoredOk, NodeOk, NodeOk-grows, takes_ok, stores_ok, ends_new, ends_old, releases_ok, starts_ok, PassedOk, PassedOutput, OtherOk, OtherOk-grows, all_passable, delivered_event, free_event}

abbrev pub history : World → List Pick → History
history w picks = record { votes = w.votes; picks = picks }

abbrev pub ElectedOk : Group → History → Election → Type 0
ElectedOk t g e = (e.sentinel < size t.roster) × Backed t g e.master e.epoch e.sentinel

abbrev pub SaidOk : Group → History → Advertisement → Type 0
SaidOk t g s = CardOk t g s.master s.card

pub record Holds (t : Group) (picks : List Pick) (w : World) : Type 0 where
  pub count : length w.sentinels ≡ size t.roster
  pub nodes : (i : ℕ) → i < size t.roster → NodeOk t (history w picks) i (sentinel_at w i)
  pub stores : (k : ℕ) → OtherOk t (history w picks) (StoreAt k) (get_or w.stores k no_other)
  pub clients : (k : ℕ) → OtherOk t (history w picks) (ClientAt k) (other_at w (ClientAt k))
  pub messages : All (MessageOk t (history w picks)) w.messages
  pub elected : All (ElectedOk t (history w picks)) w.elected
  pub said : All (SaidOk t (history w picks)) w.said

-- One Sentinel changed, with what it adds to the history

set_here : (w : World) (i j : ℕ) (node : Sentinel) → i < length w.sentinels → j ≡ i → node ≡ sentinel_at (with_sentinel w i node) j
set_here w i j node inside e =
    sym (ap (λ (k : ℕ). get_or (set w.sentinels i node) k no_sentinel) e ∙ get_or-set_same w.sentinels i node no_sentinel inside)

set_there : (w : World) (i j : ℕ) (node : Sentinel) → j ≢ i → sentinel_at w j ≡ sentinel_at (with_sentinel w i node) j
set_there w i j node apart = sym (get_or-set_other w.sentinels i j node no_sentinel apart)

replaced : (t : Group) (picks picks2 : List Pick) (w : World) (i : ℕ) (node : Sentinel) (votes : List Vote) → Holds t picks w → i < size t.roster →
    Within (history w picks) (record { votes = votes; picks = picks2 }) → ((j m : ℕ) → j ≢ i → Grows j m (history w picks) (record { votes = votes; picks = picks2 })) →
    NodeOk t (record { votes = votes; picks = picks2 }) i node → Holds t picks2 (record (with_sentinel w i node) { votes = votes })
replaced t picks picks2 w i node votes ok place within others new =
    record {
      count = length-set w.sentinels i node ∙ ok.count;
      nodes = λ j l. ⊎_elim (here j) (there j l) (cases_eq j i);
      stores = λ k. OtherOk-grows t (history w picks) g2 (StoreAt k) (get_or w.stores k no_other) within (ok.stores k);
      clients = λ k. OtherOk-grows t (history w picks) g2 (ClientAt k) (other_at w (ClientAt k)) within (ok.clients k);
      messages = All-weaker (MessageOk t (history w picks)) (MessageOk t g2) (λ m x. MessageOk-grows t (history w picks) g2 m within x) w.messages ok.messages;
      elected = All-weaker (ElectedOk t (history w picks)) (ElectedOk t g2) (λ e x. (x.0, Backed-grows t (history w picks) g2 e.master e.epoch e.sentinel within x.1)) w.elected
          ok.elected;
      said = All-weaker (SaidOk t (history w picks)) (SaidOk t g2) (λ s x. CardOk-grows t (history w picks) g2 s.master s.card within x) w.said ok.said;
    }
  where
    g2 : History
    g2 = record { votes = votes; picks = picks2 }

    here : (j : ℕ) → j ≡ i → NodeOk t g2 j (sentinel_at (with_sentinel w i node) j)
    here j e =
        subst
        (λ (s : Sentinel). NodeOk t g2 j s)
        (set_here w i j node (subst (λ (n : ℕ). i < n) (sym ok.count) place) e)
        (subst (λ (k : ℕ). NodeOk t g2 k node) (sym e) new)

    there : (j : ℕ) → j < size t.roster → j ≢ i → NodeOk t g2 j (sentinel_at (with_sentinel w i node) j)
    there j l apart =
        subst
        (λ (s : Sentinel). NodeOk t g2 j s)
        (set_there w i j node apart)
        (NodeOk-grows t (history w picks) g2 j (sentinel_at w j) (λ m. others j m apart) (ok.nodes j l))

-- with nothing added
replaced_same : (t : Group) (picks : List Pick) (w : World) (i : ℕ) (node : Sentinel) → Holds t picks w → i < size t.roster → NodeOk t (history w picks) i node →
    Holds t picks (with_sentinel w i node)
replaced_same t picks w i node ok place new =
    replaced t picks picks w i node w.votes ok place (record { votes = λ v x. x; picks = λ p x. x }) (λ j m _. Grows-same j m (history w picks)) new

-- with the casts of its take
replaced_filed : (t : Group) (picks : List Pick) (w : World) (i : ℕ) (node : Sentinel) (fresh : List Pick) → Holds t picks w → i < size t.roster →
    All (λ (v : Vote). v.voter ≡ i) node.parts.casts → All (λ (p : Pick). p.sentinel ≡ i) fresh → NodeOk t (grown (history w picks) node.parts.casts fresh) i node →
    Holds t (picks ++ fresh) (filed w i node)
replaced_filed t picks w i node fresh ok place casts_by picks_by new =
    replaced t picks (picks ++ fresh) w i node (w.votes ++ node.parts.casts) ok place (Within-grown (history w picks) node.parts.casts fresh)
    (λ j m apart. Grows-others i j m (history w picks) node.parts.casts fresh apart casts_by picks_by) new

-- Messages, elections and what was said, with more behind them

with_lists : (t : Group) (picks : List Pick) (w : World) (messages : List Message) (elected : List Election) (said : List Advertisement) → Holds t picks w →
    All (MessageOk t (history w picks)) messages → All (ElectedOk t (history w picks)) elected → All (SaidOk t (history w picks)) said →
    Holds t picks (record w { messages = messages; elected = elected; said = said })
with_lists t picks w messages elected said ok sent led told =
    record { count = ok.count; nodes = ok.nodes; stores = ok.stores; clients = ok.clients; messages = sent; elected = led; said = told }

more_elected : (t : Group) (picks : List Pick) (w : World) (new : List Election) → Holds t picks w → All (ElectedOk t (history w picks)) new →
    Holds t picks (record w { elected = w.elected ++ new })
more_elected t picks w new ok more =
    with_lists t picks w w.messages (w.elected ++ new) w.said ok ok.messages (All-append (ElectedOk t (history w picks)) w.elected new ok.elected more) ok.said

more_said : (t : Group) (picks : List Pick) (w : World) (new : List Advertisement) → Holds t picks w → All (SaidOk t (history w picks)) new →
    Holds t picks (record w { said = w.said ++ new })
more_said t picks w new ok more =
    with_lists t picks w w.messages w.elected (w.said ++ new) ok ok.messages ok.elected (All-append (SaidOk t (history w picks)) w.said new ok.said more)

more_messages : (t : Group) (picks : List Pick) (w : World) (new : List Message) → Holds t picks w → All (MessageOk t (history w picks)) new →
    Holds t picks (record w { messages = w.messages ++ new })
more_messages t picks w new ok more =
    with_lists t picks w (w.messages ++ new) w.elected w.said ok (All-append (MessageOk t (history w picks)) w.messages new ok.messages more) ok.elected ok.said

-- Files

-- no file falls where one is replaced by one that is no lower
falls_set : (w : World) (i : ℕ) (node : Sentinel) → i < length w.sentinels → ((m : ℕ) → (card_of (sentinel_at w i).file m).epoch ≤ (card_of node.file m).epoch) →
    FallsNowhere w (with_sentinel w i node)
falls_set w i node inside up j m = ⊎_elim here there (cases_eq j i)
  where
    here : j ≡ i → (card_of (sentinel_at w j).file m).epoch ≤ (card_of (sentinel_at (with_sentinel w i node) j).file m).epoch
    here e =
        subst
        (λ (s : Sentinel). (card_of (sentinel_at w j).file m).epoch ≤ (card_of s.file m).epoch)
        (set_here w i j node inside e)
        (subst (λ (k : ℕ). (card_of (sentinel_at w k).file m).epoch ≤ (card_of node.file m).epoch) (sym e) (up m))

    there : j ≢ i → (card_of (sentinel_at w j).file m).epoch ≤ (card_of (sentinel_at (with_sentinel w i node) j).file m).epoch
    there apart =
        subst
        (λ (s : Sentinel). (card_of (sentinel_at w j).file m).epoch ≤ (card_of s.file m).epoch)
        (set_there w i j node apart)
        (omega arith)

-- The steps

-- the invariant after a step, and no file fell
pub record Kept_by (t : Group) (w w2 : World) : Type 0 where
  pub picks : List Pick
  pub holds : Holds t picks w2
  pub falls : FallsNowhere w w2

kept_same : (t : Group) (picks : List Pick) (w w2 : World) → Holds t picks w → w2 ≡ w → Kept_by t w w2
kept_same t picks w w2 ok e =
    subst (λ (x : World). Kept_by t w x) (sym e) (record { picks = picks; holds = ok; falls = λ i m. omega arith })

-- an effect that is an equation
kept_as : (t : Group) (w w2 w3 : World) → w2 ≡ w3 → Kept_by t w w3 → Kept_by t w w2
kept_as t w w2 w3 e k = subst (λ (x : World). Kept_by t w x) (sym e) k

place_of : (t : Group) (picks : List Pick) (w : World) (i : ℕ) → Holds t picks w → i < length w.sentinels → i < size t.roster
place_of t picks w i ok inside = subst (λ (n : ℕ). i < n) ok.count inside

-- a Sentinel's change that leaves its file and adds nothing
step_same : (t : Group) (picks : List Pick) (w : World) (i : ℕ) (node : Sentinel) → Holds t picks w → i < length w.sentinels → node.file ≡ (sentinel_at w i).file →
    NodeOk t (history w picks) i node → Kept_by t w (with_sentinel w i node)
step_same t picks w i node ok inside same new =
    record {
      picks = picks;
      holds = replaced_same t picks w i node ok (place_of t picks w i ok inside) new;
      falls = falls_set w i node inside (λ m. subst (λ (k : Kept). (card_of (sentinel_at w i).file m).epoch ≤ (card_of k m).epoch) (sym same) (omega arith));
    }

pending : (t : Group) (picks : List Pick) (w : World) (i : ℕ) → Holds t picks w → IsSentinel w i Pending → LiveOk t (history w picks) i (sentinel_at w i) Pending
pending t picks w i ok at = subst (LiveOk t (history w picks) i (sentinel_at w i)) at.1 (ok.nodes i (place_of t picks w i ok at.0)).live

take_kept : (t : Group) (picks : List Pick) (w : World) (i : ℕ) (event : Event) (choice : Choice) → Holds t picks w → IsSentinel w i Ready → EventOk t (history w picks) event →
    IsChoice t.roster i event (sentinel_at w i) choice → Kept_by t w (with_sentinel w i (taken (sentinel_at w i) choice))
take_kept t picks w i event choice ok at delivered chosen =
    let place : i < size t.roster = place_of t picks w i ok at.0 in
    step_same t picks w i (taken (sentinel_at w i) choice) ok at.0 refl
    (takes_ok t (history w picks) i (sentinel_at w i) event choice place delivered (ok.nodes i place) at.1 chosen)

store_kept : (t : Group) (picks : List Pick) (w : World) (i : ℕ) → Holds t picks w → IsSentinel w i Pending → Kept_by t w (after_store w i (sentinel_at w i))
store_kept t picks w i ok at =
    let node : Sentinel = sentinel_at w i in
    let new : Sentinel = record node { file = node.parts.kept; state = Stored; stored = node.stored ++ node.parts.kept ∷ [] } in
    let place : i < size t.roster = place_of t picks w i ok at.0 in
    let live : LiveOk t (history w picks) i node Pending = pending t picks w i ok at in
    let h : History = grown (history w picks) node.parts.casts live.0 in
    record {
      picks = picks ++ live.0;
      holds = more_elected t (picks ++ live.0) (filed w i new) (elected_by i node.parts.wins)
          (replaced_filed t picks w i new live.0 ok place (live.1).casts_by (live.1).picks_by (stores_ok t (history w picks) i node live.0 (ok.nodes i place) live.1 live.2))
          (All-map (ElectedOk t h) (λ win. record { sentinel = i; master = win.master; epoch = win.epoch }) node.parts.wins
          (All-weaker (WinOk t h i) (λ win. ElectedOk t h (record { sentinel = i; master = win.master; epoch = win.epoch })) (λ win b. (place, b)) node.parts.wins
          (live.1).wins));
      falls = falls_set w i new at.0 (live.1).climbs;
    }

-- a halt or a stop with the new text
end_kept : (t : Group) (picks : List Pick) (w : World) (i : ℕ) (state : State) →
    ((h : History) → LiveOk t h i (record (sentinel_at w i) { file = (sentinel_at w i).parts.kept; state = state }) state) → Holds t picks w → IsSentinel w i Pending →
    Kept_by t w (filed w i (record (sentinel_at w i) { file = (sentinel_at w i).parts.kept; state = state }))
end_kept t picks w i state idle ok at =
    let node : Sentinel = sentinel_at w i in
    let new : Sentinel = record node { file = node.parts.kept; state = state } in
    let place : i < size t.roster = place_of t picks w i ok at.0 in
    let live : LiveOk t (history w picks) i node Pending = pending t picks w i ok at in
    record {
      picks = picks ++ live.0;
      holds = replaced_filed t picks w i new live.0 ok place (live.1).casts_by (live.1).picks_by
          (ends_new t (history w picks) i node live.0 state (idle (grown (history w picks) node.parts.casts live.0)) (ok.nodes i place) live.1);
      falls = falls_set w i new at.0 (live.1).climbs;
    }

-- with the old text
old_kept : (t : Group) (picks : List Pick) (w : World) (i : ℕ) (state : State) → LiveOk t (history w picks) i (record (sentinel_at w i) { state = state }) state →
    Holds t picks w → i < length w.sentinels → Kept_by t w (with_sentinel w i (record (sentinel_at w i) { state = state }))
old_kept t picks w i state idle ok inside =
    step_same t picks w i (record (sentinel_at w i) { state = state }) ok inside refl
    (ends_old t (history w picks) i (sentinel_at w i) state idle (ok.nodes i (place_of t picks w i ok inside)))

refused_kept : (t : Group) (picks : List Pick) (w : World) (i : ℕ) (must_store : Bool) (left : KeptText) → Holds t picks w → IsSentinel w i Pending →
    Kept_by t w (after_refused w i (sentinel_at w i) must_store left)
refused_kept t picks w i false left ok at = store_kept t picks w i ok at
refused_kept t picks w i true Old ok at = old_kept t picks w i Halted tt ok at.0
refused_kept t picks w i true New ok at = end_kept t picks w i Halted (λ h. tt) ok at

stop_kept : (t : Group) (picks : List Pick) (w : World) (i : ℕ) (state : State) (left : KeptText) → Holds t picks w → i < length w.sentinels → (sentinel_at w i).state ≡ state →
    Kept_by t w (after_stop w i (sentinel_at w i) state left)
stop_kept t picks w i Pending New ok inside e = end_kept t picks w i Stopped (λ h. tt) ok (inside, e)
stop_kept t picks w i _ _ ok inside e = old_kept t picks w i Stopped tt ok inside

release_kept : (t : Group) (picks : List Pick) (w : World) (i : ℕ) → Holds t picks w → IsSentinel w i Stored → Kept_by t w (after_release t.roster w i (sentinel_at w i))
release_kept t picks w i ok at =
    let node : Sentinel = sentinel_at w i in
    let g : History = history w picks in
    let place : i < size t.roster = place_of t picks w i ok at.0 in
    let live : LiveOk t g i node Stored = subst (LiveOk t g i node) at.1 (ok.nodes i place).live in
    let w1 : World = with_sentinel w i (record node { state = Ready; held = [] }) in
    let k : Kept_by t w w1 = step_same t picks w i (record node { state = Ready; held = [] }) ok at.0 refl (releases_ok t g i node (ok.nodes i place) at.1) in
    let holds1 : Holds t picks w1 = replaced_same t picks w i (record node { state = Ready; held = [] }) ok place (releases_ok t g i node (ok.nodes i place) at.1) in
    record {
      picks = picks;
      holds = more_said t picks (record w1 { messages = w1.messages ++ sent node.held }) (said_by i (advertised_by t.roster node.held))
          (more_messages t picks w1 (sent node.held) holds1 (sent_ok t g node.held live.2))
          (All-map (SaidOk t g) (λ s. record { sentinel = i; master = s.master; card = s.card }) (advertised_by t.roster node.held) (advertised_ok t g node.held live.2));
      falls = k.falls;
    }

start_kept : (t : Group) (picks : List Pick) (w : World) (i : ℕ) → Holds t picks w → i < length w.sentinels →
    Kept_by t w (with_sentinel w i (started t.roster (sentinel_at w i).file))
start_kept t picks w i ok inside =
    step_same t picks w i (started t.roster (sentinel_at w i).file) ok inside refl
    (starts_ok t (history w picks) i (sentinel_at w i).file (ok.nodes i (place_of t picks w i ok inside)).file)

answer_kept : (t : Group) (picks : List Pick) (w : World) (i m k : ℕ) → Holds t picks w → i < length w.sentinels → k < length (sentinel_at w i).stored →
    Kept_by t w (after_answer w i m k)
answer_kept t picks w i m k ok inside before =
    let g : History = history w picks in
    let node : NodeOk t g i (sentinel_at w i) = ok.nodes i (place_of t picks w i ok inside) in
    record {
      picks = picks;
      holds = more_said t picks w ((record { sentinel = i; master = m; card = card_after (sentinel_at w i) m k }) ∷ []) ok
          (All-push (SaidOk t g) [] (record { sentinel = i; master = m; card = card_after (sentinel_at w i) m k }) (All-nil (SaidOk t g))
          (All-get_or (StoredOk t g) (sentinel_at w i).stored k (record { current = 0; masters = [] }) before node.stored m));
      falls = λ j n. omega arith;
    }

answers_kept : (t : Group) (picks : List Pick) (w w2 : World) (i m k : ℕ) → Holds t picks w → Answers t.roster i m k w w2 → Kept_by t w w2
answers_kept t picks w w2 i m k ok (inr x) = kept_same t picks w w2 ok x.1
answers_kept t picks w w2 i m k ok (inl x) = kept_as t w w2 (after_answer w i m k) x.1 (answer_kept t picks w i m k ok (x.0).0 (x.0).3)

-- Other nodes

other_ok : (t : Group) (picks : List Pick) (w : World) (name : NodeName) → Holds t picks w → IsOther w name → OtherOk t (history w picks) name (other_at w name)
other_ok t picks w (StoreAt k) ok there = ok.stores k
other_ok t picks w (ClientAt k) ok there = ok.clients k
other_ok t picks w (SentinelAt k) ok there = absurd there
other_ok t picks w (PortAt k) ok there = absurd there

nodes_set : {X : Type 0} (d : X) (P : ℕ → X → Type 0) (xs : List X) (k : ℕ) (node : X) → k < length xs → P k node → ((j : ℕ) → P j (get_or xs j d)) → (j : ℕ) →
    P j (get_or (set xs k node) j d)
nodes_set {X} d P xs k node inside new before j = ⊎_elim here there (cases_eq j k)
  where
    here : j ≡ k → P j (get_or (set xs k node) j d)
    here e =
        subst (λ (n : ℕ). P n (get_or (set xs k node) n d)) (sym e)
        (subst (P k) (sym (get_or-set_same xs k node d inside)) new)

    there : j ≢ k → P j (get_or (set xs k node) j d)
    there apart = subst (P j) (sym (get_or-set_other xs k j node d apart)) (before j)

pub client_within : (clients : List (Option Other)) (k : ℕ) → IsSome (get_or clients k None) → k < length clients
client_within [] k there = absurd (cc)
client_within (client ∷ clients) zero there = omega arith
client_within (client ∷ clients) (suc k) there = let l = client_within clients k there in omega arith

with_other_ok : (t : Group) (picks : List Pick) (w : World) (name : NodeName) (node : Other) → Holds t picks w → IsOther w name → OtherOk t (history w picks) name node →
    Holds t picks (with_other w name node)
with_other_ok t picks w (StoreAt k) node ok there new =
    record {
      count = ok.count;
      nodes = ok.nodes;
      stores = nodes_set no_other (λ j. OtherOk t (history w picks) (StoreAt j)) w.stores k node there new ok.stores;
      clients = ok.clients;
      messages = ok.messages;
      elected = ok.elected;
      said = ok.said;
    }
with_other_ok t picks w (ClientAt k) node ok there new =
    record {
      count = ok.count;
      nodes = ok.nodes;
      stores = ok.stores;
      clients = nodes_set None (λ j client. OtherOk t (history w picks) (ClientAt j) (unwrap_or client no_other)) w.clients k (Some node) (client_within w.clients k there) new
          ok.clients;
      messages = ok.messages;
      elected = ok.elected;
      said = ok.said;
    }
with_other_ok t picks w (SentinelAt k) node ok there new = absurd there
with_other_ok t picks w (PortAt k) node ok there new = absurd there

with_other_falls : (w : World) (name : NodeName) (node : Other) → FallsNowhere w (with_other w name node)
with_other_falls w (StoreAt k) node i m = omega arith
with_other_falls w (ClientAt k) node i m = omega arith
with_other_falls w (SentinelAt k) node i m = omega arith
with_other_falls w (PortAt k) node i m = omega arith

other_kept : (t : Group) (picks : List Pick) (w w2 : World) (name : NodeName) (node : Other) → Holds t picks w → IsOther w name → w2 ≡ with_other w name node →
    OtherOk t (history w picks) name node → Kept_by t w w2
other_kept t picks w w2 name node ok there e new =
    kept_as t w w2 (with_other w name node) e
    (record { picks = picks; holds = with_other_ok t picks w name node ok there new; falls = with_other_falls w name node })

-- only Sentinels show votes
no_vote : (w : World) (name : NodeName) (body : Body) (v : Vote) → IsOther w name → vote_shown name body ≡ Some v → ⊥
no_vote w (StoreAt k) body v there e = cc
no_vote w (ClientAt k) body v there e = cc
no_vote w (SentinelAt k) body v there e = there
no_vote w (PortAt k) body v there e = there

other_sent : (t : Group) (g : History) (w : World) (name : NodeName) → IsOther w name → (held : List Output) → All (PassedOutput t g name) held → All (MessageOk t g) (sent held)
other_sent t g w name there [] ok = All-nil (MessageOk t g)
other_sent t g w name there (Send message ∷ held) ok =
    let passed : PassedOk t g name message = All-head (PassedOutput t g name) (Send message) held ok in
    All-cons
    (MessageOk t g)
    message
    (sent held)
    (record {
      vote = λ v e. absurd (no_vote w name message.body v there (subst (λ (n : NodeName). vote_shown n message.body ≡ Some v) passed.sender e));
      publishes = λ hello e. let none : published message.body ≡ None = passed.no_publish in absurd (cc);
      passes = λ hello e. passed.passes hello e;
    })
    (other_sent t g w name there held (All-tail (PassedOutput t g name) (Send message) held ok))
other_sent t g w name there (Tell note ∷ held) ok = other_sent t g w name there held (All-tail (PassedOutput t g name) (Tell note) held ok)

abbrev fresh_other : Other
fresh_other = record { state = Ready; held = [] }

fresh_ok : (t : Group) (picks : List Pick) (w : World) (name : NodeName) → Holds t picks w → IsOther w name → Holds t picks (with_other w name fresh_other)
fresh_ok t picks w name ok there = with_other_ok t picks w name fresh_other ok there (All-nil (PassedOutput t (history w picks) name))

abbrev after_other : World → NodeName → World
after_other w name = record (with_other w name (record { state = Ready; held = [] })) { messages = w.messages ++ sent (other_at w name).held }

-- a release of a node at which this is known
other_releases : (t : Group) (picks : List Pick) (w : World) (name : NodeName) → Holds t picks w → IsOther w name → Kept_by t w (after_other w name)
other_releases t picks w (StoreAt k) ok there =
    record {
      picks = picks;
      holds = more_messages t picks (with_other w (StoreAt k) fresh_other) (sent (other_at w (StoreAt k)).held) (fresh_ok t picks w (StoreAt k) ok there)
          (other_sent t (history w picks) w (StoreAt k) there (other_at w (StoreAt k)).held (other_ok t picks w (StoreAt k) ok there));
      falls = λ i m. omega arith;
    }
other_releases t picks w (ClientAt k) ok there =
    record {
      picks = picks;
      holds = more_messages t picks (with_other w (ClientAt k) fresh_other) (sent (other_at w (ClientAt k)).held) (fresh_ok t picks w (ClientAt k) ok there)
          (other_sent t (history w picks) w (ClientAt k) there (other_at w (ClientAt k)).held (other_ok t picks w (ClientAt k) ok there));
      falls = λ i m. omega arith;
    }
other_releases t picks w (SentinelAt k) ok there = absurd there
other_releases t picks w (PortAt k) ok there = absurd there

-- Each kind of step, by the kind of its node

other_takes : (t : Group) (picks : List Pick) (w w2 : World) (name : NodeName) (event : Event) (held : List Output) → Holds t picks w → IsOther w name →
    EventOk t (history w picks) event → All (IsPassable name event) held → w2 ≡ with_other w name (record { state = Pending; held = held }) → Kept_by t w w2
other_takes t picks w w2 name event held ok there delivered passes e =
    other_kept t picks w w2 name (record { state = Pending; held = held }) ok there e (all_passable t (history w picks) name event held delivered passes)

takes_kept : (t : Group) (picks : List Pick) (w w2 : World) (name : NodeName) (event : Event) → Holds t picks w → IsAt w name Ready → EventOk t (history w picks) event →
    Takes t.roster name event w w2 → Kept_by t w w2
takes_kept t picks w w2 (SentinelAt i) event ok at delivered x =
    kept_as t w w2 (with_sentinel w i (taken (sentinel_at w i) x.0)) x.2 (take_kept t picks w i event x.0 ok at delivered x.1)
takes_kept t picks w w2 (StoreAt k) event ok at delivered x = other_takes t picks w w2 (StoreAt k) event x.0 ok at.0 delivered x.1 x.2
takes_kept t picks w w2 (ClientAt k) event ok at delivered x = other_takes t picks w w2 (ClientAt k) event x.0 ok at.0 delivered x.1 x.2
takes_kept t picks w w2 (PortAt k) event ok at delivered x = absurd at.0

-- another state of another node
other_turns : (t : Group) (picks : List Pick) (w w2 : World) (name : NodeName) (state : State) → Holds t picks w → IsOther w name →
    w2 ≡ with_other w name (record (other_at w name) { state = state }) → Kept_by t w w2
other_turns t picks w w2 name state ok there e =
    other_kept t picks w w2 name (record (other_at w name) { state = state }) ok there e (other_ok t picks w name ok there)

stores_kept : (t : Group) (picks : List Pick) (w w2 : World) (name : NodeName) → Holds t picks w → IsAt w name Pending → Stores name w w2 → Kept_by t w w2
stores_kept t picks w w2 (SentinelAt i) ok at e = kept_as t w w2 (after_store w i (sentinel_at w i)) e (store_kept t picks w i ok at)
stores_kept t picks w w2 (StoreAt k) ok at e = other_turns t picks w w2 (StoreAt k) Stored ok at.0 e
stores_kept t picks w w2 (ClientAt k) ok at e = other_turns t picks w w2 (ClientAt k) Stored ok at.0 e
stores_kept t picks w w2 (PortAt k) ok at e = absurd at.0

refusals_kept : (t : Group) (picks : List Pick) (w w2 : World) (name : NodeName) (left : KeptText) → Holds t picks w → IsAt w name Pending → IsRefused name left w w2 →
    Kept_by t w w2
refusals_kept t picks w w2 (SentinelAt i) left ok at e =
    kept_as t w w2 (after_refused w i (sentinel_at w i) (sentinel_at w i).must_store left) e (refused_kept t picks w i (sentinel_at w i).must_store left ok at)
refusals_kept t picks w w2 (StoreAt k) left ok at e = other_turns t picks w w2 (StoreAt k) Stored ok at.0 e
refusals_kept t picks w w2 (ClientAt k) left ok at e = other_turns t picks w w2 (ClientAt k) Stored ok at.0 e
refusals_kept t picks w w2 (PortAt k) left ok at e = absurd at.0

releases_kept : (t : Group) (picks : List Pick) (w w2 : World) (name : NodeName) → Holds t picks w → IsAt w name Stored → Releases t.roster name w w2 → Kept_by t w w2
releases_kept t picks w w2 (SentinelAt i) ok at e = kept_as t w w2 (after_release t.roster w i (sentinel_at w i)) e (release_kept t picks w i ok at)
releases_kept t picks w w2 (StoreAt k) ok at e = kept_as t w w2 (after_other w (StoreAt k)) e (other_releases t picks w (StoreAt k) ok at.0)
releases_kept t picks w w2 (ClientAt k) ok at e = kept_as t w w2 (after_other w (ClientAt k)) e (other_releases t picks w (ClientAt k) ok at.0)
releases_kept t picks w w2 (PortAt k) ok at e = absurd at.0

stops_kept : (t : Group) (picks : List Pick) (w w2 : World) (name : NodeName) (left : KeptText) → Holds t picks w → IsNode w name → Stops name left w w2 → Kept_by t w w2
stops_kept t picks w w2 (SentinelAt i) left ok there e =
    kept_as t w w2 (after_stop w i (sentinel_at w i) (sentinel_at w i).state left) e (stop_kept t picks w i (sentinel_at w i).state left ok there refl)
stops_kept t picks w w2 (StoreAt k) left ok there e = other_turns t picks w w2 (StoreAt k) Stopped ok there e
stops_kept t picks w w2 (ClientAt k) left ok there e = other_turns t picks w w2 (ClientAt k) Stopped ok there e
stops_kept t picks w w2 (PortAt k) left ok there e = absurd there

starts_kept : (t : Group) (picks : List Pick) (w w2 : World) (name : NodeName) → Holds t picks w → IsAt w name Stopped → Starts t.roster name w w2 → Kept_by t w w2
starts_kept t picks w w2 (SentinelAt i) ok at e =
    kept_as t w w2 (with_sentinel w i (started t.roster (sentinel_at w i).file)) e (start_kept t picks w i ok at.0)
starts_kept t picks w w2 (StoreAt k) ok at e =
    other_kept t picks w w2 (StoreAt k) fresh_other ok at.0 e (All-nil (PassedOutput t (history w picks) (StoreAt k)))
starts_kept t picks w w2 (ClientAt k) ok at e =
    other_kept t picks w w2 (ClientAt k) fresh_other ok at.0 e (All-nil (PassedOutput t (history w picks) (ClientAt k)))
starts_kept t picks w w2 (PortAt k) ok at e = absurd at.0

now_kept : (t : Group) (picks : List Pick) (w w2 : World) (name : NodeName) (m : ℕ) → Holds t picks w → AnswersNow t.roster name m w w2 → Kept_by t w w2
now_kept t picks w w2 (SentinelAt i) m ok x = answers_kept t picks w w2 i m (stores_of (sentinel_at w i)) ok x
now_kept t picks w w2 (StoreAt k) m ok e = kept_same t picks w w2 ok e
now_kept t picks w w2 (ClientAt k) m ok e = kept_same t picks w w2 ok e
now_kept t picks w w2 (PortAt k) m ok e = kept_same t picks w w2 ok e

delivered_kept : (t : Group) (picks : List Pick) (w w2 : World) (found : Option Message) → Holds t picks w →
    ((message : Message) → found ≡ Some message → MessageOk t (history w picks) message) → IsDelivered t.roster found w w2 → Kept_by t w w2
delivered_kept t picks w w2 None ok right e = kept_same t picks w w2 ok e
delivered_kept t picks w w2 (Some message) ok right (inr x) = kept_same t picks w w2 ok x.1
delivered_kept t picks w w2 (Some message) ok right (inl x) =
    takes_kept t picks w w2 message.target (x.1).0 ok (x.0).0 (delivered_event t (history w picks) message (x.1).0 (right message refl) (x.1).1) (x.1).2

message_ok : (P : Message → Type 0) (messages : List Message) (k : ℕ) (message : Message) → All P messages → slice_get messages k ≡ Some message → P message
message_ok P messages k message all e =
    subst P (get_or_from_slice_get messages k message message e) (All-get_or P messages k message (slice_get_within messages k message e) all)

step_kept : (t : Group) (picks : List Pick) (w w2 : World) (step : Step) → Holds t picks w → Steps t.roster step w w2 → Kept_by t w w2
step_kept t picks w w2 (Take node input) ok (inr x) = kept_same t picks w w2 ok x.1
step_kept t picks w w2 (Take node input) ok (inl x) =
    takes_kept t picks w w2 node input.event ok (x.0).0 (free_event t (history w picks) input.event (x.0).1) x.1
step_kept t picks w w2 (Deliver k now) ok x =
    delivered_kept t picks w w2 (slice_get w.messages k) ok (λ message e. message_ok (MessageOk t (history w picks)) w.messages k message ok.messages e) x
step_kept t picks w w2 (Store node) ok (inr x) = kept_same t picks w w2 ok x.1
step_kept t picks w w2 (Store node) ok (inl x) = stores_kept t picks w w2 node ok x.0 x.1
step_kept t picks w w2 (StoreRefused node left) ok (inr x) = kept_same t picks w w2 ok x.1
step_kept t picks w w2 (StoreRefused node left) ok (inl x) = refusals_kept t picks w w2 node left ok x.0 x.1
step_kept t picks w w2 (Release node) ok (inr x) = kept_same t picks w w2 ok x.1
step_kept t picks w w2 (Release node) ok (inl x) = releases_kept t picks w w2 node ok x.0 x.1
step_kept t picks w w2 (Stop node left) ok (inr x) = kept_same t picks w w2 ok x.1
step_kept t picks w w2 (Stop node left) ok (inl x) = stops_kept t picks w w2 node left ok x.0 x.1
step_kept t picks w w2 (Start node now) ok (inr x) = kept_same t picks w w2 ok x.1
step_kept t picks w w2 (Start node now) ok (inl x) = starts_kept t picks w w2 node ok x.0 x.1
step_kept t picks w w2 (Answer node m) ok x = now_kept t picks w w2 node m ok x

-- each move keeps the invariant
pub moves_kept : (t : Group) (picks : List Pick) (w w2 : World) (move : Move) → Holds t picks w → Moves t.roster move w w2 → Kept_by t w w2
moves_kept t picks w w2 (StepOf step) ok x = step_kept t picks w w2 step ok x
moves_kept t picks w w2 (LateAnswer i m k) ok x = answers_kept t picks w w2 i m k ok x
