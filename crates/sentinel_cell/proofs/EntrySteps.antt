-- An entry of a history by steps of the model of the whole group.
use Rattle.std.proofs.Common.{◌≡◌, ◌≢◌, ◌↔◌, ◌⊎◌, ℕ, ◌+◌, ◌-◌, ◌<◌, Bool, true, false, cond, List, [], ◌∷◌, ◌++◌, length, length-set, get_or-set_same, get_or-set_other, Some, Option, refl, sym, ap, ◌∙◌, subst, inl, inr, ⊎_elim, arith, true≢false}
use Rattle.std.specs.Prelude.{not, slice_index_or, slice_get, slice_set, All}
use Rattle.std.proofs.lemmas.Bool.{or_cases, or_left, or_right}
use Rattle.std.proofs.lemmas.List.{length-append}
use Rattle.ballot_law.specs.declared.cards.Kept.{Kept}
use Rattle.ballot_law.specs.declared.events.Input.{Input}
use Rattle.ballot_law.specs.declared.messages.Message.{Message}
use Rattle.ballot_law.specs.declared.messages.NodeName.{NodeName}
use Rattle.ballot_law.specs.declared.messages.Output.{Output}
use Rattle.ballot_law.specs.declared.messages.NodeName.TheVariants.{SentinelAt}
use Rattle.ballot_law.specs.declared.steps.KeptText.{KeptText}
use Rattle.ballot_law.specs.declared.steps.KeptText.TheVariants.{Old, New}
use Rattle.ballot_law.specs.declared.steps.Step.{Step}
use Rattle.ballot_law.specs.declared.records.Win.{Win}
use Rattle.ballot_law.specs.declared.steps.Step.TheVariants.{Take, Deliver, Store, Release, Answer}
use Rattle.ballot_law.specs.Ballots.{card_of}
use Rattle.ballot_law.specs.Messages.{sent, advertised_by, Delivers, IsFor}
use Rattle.ballot_law.specs.Rosters.{Roster}
use Rattle.ballot_law.specs.Worlds.{World as Group, Sentinel, State, Ready, Stored as IsStored, Halted as IsHalted, Stopped, no_sentinel, sentinel_at, with_sentinel, IsFlush, IsFree, Choice, IsChoice, taken, stored_now, released, ended, ended_new, filed, after_store, after_refused, after_release, said_by, elected_by, IsRightOutput, stores_of, card_after, IsAt, Takes, Run, Steps}
use Rattle.sentinel_rules.specs.Plans.{Plan, roster_of}
use Rattle.ballot_law.specs.Limits.{IsWithinEvent}
use Rattle.sentinel_rules.specs.Steps.{IsPartsOf, IsTake, wins_of}
use Rattle.sentinel_rules.proofs.InputSteps.{inputs_are_steps}
use Rattle.sentinel_core.specs.Sentinels.{is_flush}
use Rattle.sentinel_core.proofs.Flushes.{flush_told, flush_is}
use Rattle.sentinel_cell.specs.declared.entry.Entry.{Entry}
use Rattle.sentinel_cell.specs.declared.entry.Outcome.{Outcome}
use Rattle.sentinel_cell.specs.declared.entry.Outcome.TheVariants.{Stored, Refused, Halted}
use Rattle.sentinel_cell.specs.Histories.{World, IsGood, IsOutcome, IsStep, after_outcome, replay, next_of, must_store, same_kept}
use Rattle.sentinel_cell.specs.EntrySteps.{IsAsLeft, IsStoredAt, Brings, IsSent, IsSilent, MovesAlone, IsDone, told, EntryIsSteps, AnswerShowsStored, StoredIsAnswered, StoredIsReleased}
use Rattle.sentinel_cell.proofs.Cards.{good_replay, same_plan}
use Rattle.sentinel_cell.proofs.Acts.{last_step, first_steps}
use Rattle.sentinel_cell.proofs.Keeping.{kept_true, kept_same}

-- what has to be stored

differ : (a b : Kept) (s : Bool) → same_kept a b ≡ s → not s ≡ true → a ≢ b
differ a b true e h = absurd (true≢false (sym h))
differ a b false e h = λ same. true≢false (sym (kept_same a b same) ∙ e)

not_same : (a b : Kept) (s : Bool) → same_kept a b ≡ s → a ≢ b → not s ≡ true
not_same a b true e apart = absurd (apart (kept_true a b e))
not_same a b false e apart = refl

stores_something : (v : World) (input : Input) (kept was : Kept) → kept ≡ (next_of v input).core.kept → was ≡ v.core.kept →
    (must_store v input ≡ true) ↔ (IsFlush input.event ⊎ (kept ≢ was))
stores_something v input kept was k w =
    let new : Kept = (next_of v input).core.kept in
    let old : Kept = v.core.kept in (
      λ e. ⊎_elim
          (λ (n : not (same_kept new old) ≡ true). inr (λ same. differ new old (same_kept new old) refl n (sym k ∙ (same ∙ w))))
          (λ (f : is_flush input.event ≡ true). inl (flush_is input.event f))
          (or_cases (not (same_kept new old)) (is_flush input.event) e),
      λ h. ⊎_elim
          (λ (f : IsFlush input.event). or_right (not (same_kept new old)) (is_flush input.event) (flush_told input.event f))
          (λ (apart : kept ≢ was). or_left (not (same_kept new old)) (is_flush input.event) (not_same new old (same_kept new old) refl (λ same. apart (k ∙ (same ∙ sym w)))))
          h,
    )

-- one Sentinel of a group

pub at_self : (group : Group) (i : ℕ) (node : Sentinel) → i < length group.sentinels → sentinel_at (with_sentinel group i node) i ≡ node
at_self group i node lt = get_or-set_same group.sentinels i node no_sentinel lt

pub still_alone : (group last : Group) (i : ℕ) (node : Sentinel) → last.sentinels ≡ slice_set group.sentinels i node → last.stores ≡ group.stores → last.clients ≡ group.clients →
    MovesAlone i group last
still_alone group last i node is stores clients = record {
  count = ap (λ (l : List Sentinel). length l) is ∙ length-set group.sentinels i node;
  others = λ j apart. ap (λ (l : List Sentinel). slice_index_or l j no_sentinel) is ∙ get_or-set_other group.sentinels i j node no_sentinel apart;
  stores = stores;
  clients = clients;
}

pub alone_through : (i : ℕ) (a b d : Group) → MovesAlone i a b → MovesAlone i b d → MovesAlone i a d
alone_through i a b d one two = record {
  count = two.count ∙ one.count;
  others = λ j apart. two.others j apart ∙ one.others j apart;
  stores = two.stores ∙ one.stores;
  clients = two.clients ∙ one.clients;
}

pub still_inside : (group : Group) (i : ℕ) (node : Sentinel) → i < length group.sentinels → i < length (with_sentinel group i node).sentinels
still_inside group i node lt = subst (λ (n : ℕ). i < n) (sym (length-set group.sentinels i node)) lt

-- the first step is a take of the input
taken_by : (roster : Roster) (i : ℕ) (input : Input) (group last : Group) (first : Step) → i < length group.sentinels → (sentinel_at group i).state ≡ Ready →
    Brings i input group first
    → Takes roster (SentinelAt i) input.event group last → Steps roster first group last
taken_by roster i input group last first inside ready brings takes = ⊎_elim
    (λ (free : (first ≡ Take (SentinelAt i) input) × IsFree input.event). subst (λ (s : Step). Steps roster s group last) (sym free.0) (inl (((inside, ready), free.1), takes)))
    (λ (came : (k : ℕ) × (message : Message) × (first ≡ Deliver k input.now) × (slice_get group.messages k ≡ Some message) × (message.target ≡ SentinelAt i) ×
    IsFor message.target message.body × Delivers message input.event).
    subst (λ (s : Step). Steps roster s group last) (sym came.2)
    (subst (λ (m : Option Message). Rattle.ballot_law.specs.Worlds.IsDelivered roster m group last) (sym came.3)
    (inl (
      (subst (λ (name : NodeName). IsAt group name Ready) (sym came.4) (inside, ready), came.5),
      (input.event, came.6, subst (λ (name : NodeName). Takes roster name input.event group last) (sym came.4) takes),
    ))))
    brings

module _ (v : World) (e : Entry) (group : Group) (first : Step) (good : IsGood v) (is : IsAsLeft v.plan.place v group) (brings : Brings v.plan.place e.input group first) where
  abbrev place : ℕ
  place = v.plan.place

  abbrev node : Sentinel
  node = sentinel_at group place

  abbrev name : NodeName
  name = SentinelAt place

  abbrev Takes' : Type 0
  Takes' = IsTake v.plan v.core node.parts e.input.event (next_of v e.input).core (next_of v e.input).outputs

  abbrev choice_of : Takes' → Bool → List Output → Choice
  choice_of t must held = record { ballots = t.ballots; parts = t.moved_to; must_store = must; held = held }

  -- outputs that rest on the parts at the end of the take
  abbrev pub AreRight : List Output → Type 0
  AreRight held = (t : Takes') → All (IsRightOutput (roster_of v.plan) place t.moved_to) held

  chosen : (t : Takes') (must : Bool) (held : List Output) → AreRight held → must_store v e.input ≡ must →
      IsChoice (roster_of v.plan) place e.input.event node (choice_of t must held)
  chosen t must held right is_must =
      let both = stores_something v e.input t.moved_to.kept node.parts.kept t.parts_after.kept is.parts.kept in
      record { moved = t.moved; must_store = subst (λ (b : Bool). (b ≡ true) ↔ (IsFlush e.input.event ⊎ (t.moved_to.kept ≢ node.parts.kept))) is_must both; held = right t }

  begins : (t : Takes') (must : Bool) (held : List Output) → AreRight held → must_store v e.input ≡ must → v.halted ≡ false →
      Steps (roster_of v.plan) first group (with_sentinel group place (taken node (choice_of t must held)))
  begins t must held right is_must running =
      taken_by (roster_of v.plan) place e.input group (with_sentinel group place (taken node (choice_of t must held))) first is.inside
      (is.state ∙ ap (λ (b : Bool). cond b IsHalted Ready) running) brings
      (choice_of t must held, chosen t must held right is_must, refl)

  -- an entry that is stored, where the Sentinel holds these outputs
  abbrev pub IsStoredWith : List Output → Type 0
  IsStoredWith held =
      (last : Group) × Run (roster_of v.plan) (first ∷ Store name ∷ Release name ∷ []) group last × IsAsLeft place (after_outcome v e.input e.failures Stored) last
      × IsSent (roster_of v.plan) place held group last × MovesAlone place group last × (last.elected ≡ group.elected ++ elected_by place (wins_of (next_of v e.input).core.won))
      × ((mid : Group) × Run (roster_of v.plan) (first ∷ Store name ∷ []) group mid × Steps (roster_of v.plan) (Release name) mid last
      × IsStoredAt place (after_outcome v e.input e.failures Stored) held mid × IsSilent group mid)

  pub stored_with : (held : List Output) → AreRight held → v.halted ≡ false → IsWithinEvent e.input.event → IsStoredWith held
  stored_with held right running within =
      let t : Takes' = inputs_are_steps v.plan v.core node.parts e.input.now e.input.event good.plan good.core is.parts within in
      let must : Bool = must_store v e.input in
      let n1 : Sentinel = taken node (choice_of t must held) in
      let g1 : Group = with_sentinel group place n1 in
      let at1 : sentinel_at g1 place ≡ n1 = at_self group place n1 is.inside in
      let in1 = still_inside group place n1 is.inside in
      let n2 : Sentinel = stored_now n1 in
      let g2 : Group = after_store g1 place n1 in
      let at2 : sentinel_at g2 place ≡ n2 = at_self g1 place n2 in1 in
      let in2 = still_inside g1 place n2 in1 in
      let n3 : Sentinel = released n2 in
      let g3 : Group = after_release (roster_of v.plan) g2 place n2 in
      let at3 : sentinel_at g3 place ≡ n3 = at_self g2 place n3 in2 in
      let in3 = still_inside g2 place n3 in2 in
      let taking = begins t must held right refl running in
      let storing : Steps (roster_of v.plan) (Store name) g1 g2 = inl ((in1, ap (λ (n : Sentinel). n.state) at1), ap (after_store g1 place) (sym at1)) in
      let releasing : Steps (roster_of v.plan) (Release name) g2 g3 = inl ((in2, ap (λ (n : Sentinel). n.state) at2), ap (after_release (roster_of v.plan) g2 place) (sym at2)) in (
        g3,
        (g1, taking, (g2, storing, (g3, releasing, refl))),
        record {
          inside = in3;
          state = ap (λ (n : Sentinel). n.state) at3 ∙ ap (λ (b : Bool). cond b IsHalted Ready) (sym running);
          file = λ _. ap (λ (n : Sentinel). n.file) at3 ∙ t.parts_after.kept;
          parts = subst (λ (n : Sentinel). IsPartsOf (next_of v e.input).core n.parts) (sym at3) t.parts_after;
          cards = (node.stored, ap (λ (n : Sentinel). n.stored) at3 ∙ ap (λ (k : Kept). node.stored ++ k ∷ []) t.parts_after.kept);
        },
        (refl, refl),
        alone_through place group g2 g3 (alone_through place group g1 g2 (still_alone group g1 place n1 refl refl refl) (still_alone g1 g2 place n2 refl refl refl))
            (still_alone g2 g3 place n3 refl refl refl),
        ap (λ (wins : List Win). group.elected ++ elected_by place wins) t.parts_after.wins,
        (
          g2,
          (g1, taking, (g2, storing, refl)),
          releasing,
          record {
            inside = in2;
            state = ap (λ (n : Sentinel). n.state) at2;
            file = ap (λ (n : Sentinel). n.file) at2 ∙ t.parts_after.kept;
            parts = subst (λ (n : Sentinel). IsPartsOf (next_of v e.input).core n.parts) (sym at2) t.parts_after;
            held = ap (λ (n : Sentinel). n.held) at2;
            cards = (node.stored, ap (λ (n : Sentinel). n.stored) at2 ∙ ap (λ (k : Kept). node.stored ++ k ∷ []) t.parts_after.kept);
          },
          (refl, refl),
        ),
      )

  pub stored_steps : (left : KeptText) → IsOutcome v e.input e.outputs e.failures Stored → IsDone (roster_of v.plan) place group first left v (record e { outcome = Stored }) Stored
  stored_steps left h = subst IsStoredWith (sym h.1) (stored_with (next_of v e.input).outputs (λ t. t.right) h.0 h.3)

  refused_as : (t : Takes') (n2 : Sentinel) (last : Group) → place < length last.sentinels → sentinel_at last place ≡ n2 → n2.state ≡ IsHalted → n2.parts ≡ t.moved_to →
      n2.stored ≡ node.stored
      → IsAsLeft place (after_outcome v e.input e.failures Refused) last
  refused_as t n2 last inside at halted parts stored =
      record {
        inside = inside;
        state = ap (λ (n : Sentinel). n.state) at ∙ halted;
        file = λ (f : true ≡ false). absurd (true≢false f);
        parts = subst (IsPartsOf (next_of v e.input).core) (sym (ap (λ (n : Sentinel). n.parts) at ∙ parts)) t.parts_after;
        cards = (is.cards.0, ap (λ (n : Sentinel). n.stored) at ∙ (stored ∙ is.cards.1));
      }

  pub refused_steps : (left : KeptText) → IsOutcome v e.input e.outputs e.failures Refused →
      IsDone (roster_of v.plan) place group first left v (record e { outcome = Refused }) Refused
  refused_steps Old h =
      let t : Takes' = inputs_are_steps v.plan v.core node.parts e.input.now e.input.event good.plan good.core is.parts h.3 in
      let n1 : Sentinel = taken node (choice_of t true (next_of v e.input).outputs) in
      let g1 : Group = with_sentinel group place n1 in
      let at1 : sentinel_at g1 place ≡ n1 = at_self group place n1 is.inside in
      let in1 = still_inside group place n1 is.inside in
      let n2 : Sentinel = ended n1 IsHalted in
      let g2 : Group = with_sentinel g1 place n2 in (
        g2,
        (
          g1,
          begins t true (next_of v e.input).outputs (λ u. u.right) h.4 h.0,
          (g2, inl ((in1, ap (λ (n : Sentinel). n.state) at1), ap (λ (n : Sentinel). after_refused g1 place n n.must_store Old) (sym at1)), refl),
        ),
        refused_as t n2 g2 (still_inside g1 place n2 in1) (at_self g1 place n2 in1) refl refl refl,
        (refl, refl),
        alone_through place group g1 g2 (still_alone group g1 place n1 refl refl refl) (still_alone g1 g2 place n2 refl refl refl),
        refl,
        ap (λ (n : Sentinel). n.file) (at_self g1 place n2 in1),
      )
  refused_steps New h =
      let t : Takes' = inputs_are_steps v.plan v.core node.parts e.input.now e.input.event good.plan good.core is.parts h.3 in
      let n1 : Sentinel = taken node (choice_of t true (next_of v e.input).outputs) in
      let g1 : Group = with_sentinel group place n1 in
      let at1 : sentinel_at g1 place ≡ n1 = at_self group place n1 is.inside in
      let in1 = still_inside group place n1 is.inside in
      let n2 : Sentinel = ended_new n1 IsHalted in
      let g2 : Group = filed g1 place n2 in (
        g2,
        (
          g1,
          begins t true (next_of v e.input).outputs (λ u. u.right) h.4 h.0,
          (g2, inl ((in1, ap (λ (n : Sentinel). n.state) at1), ap (λ (n : Sentinel). after_refused g1 place n n.must_store New) (sym at1)), refl),
        ),
        refused_as t n2 g2 (still_inside g1 place n2 in1) (at_self g1 place n2 in1) refl refl refl,
        (refl, refl),
        alone_through place group g1 g2 (still_alone group g1 place n1 refl refl refl) (still_alone g1 g2 place n2 refl refl refl),
        refl,
        ap (λ (n : Sentinel). n.file) (at_self g1 place n2 in1) ∙ t.parts_after.kept,
      )

  done : (left : KeptText) (o : Outcome) → IsOutcome v e.input e.outputs e.failures o → IsDone (roster_of v.plan) place group first left v (record e { outcome = o }) o
  done left Stored h = stored_steps left h
  done left Refused h = refused_steps left h
  done left Halted h = record { inside = is.inside; state = is.state; file = is.file; parts = is.parts; cards = is.cards }

pub entry_is_steps : EntryIsSteps
entry_is_steps start history e group first left legal is brings =
    let v : World = replay start history in
    let plan : v.plan ≡ start.plan = same_plan start history in
    let good : IsGood v = good_replay start history legal.0 (first_steps start history (e ∷ []) legal.1) in
    let step : IsStep v e = last_step start history e legal.1 in
    let P : Plan → Type 0 = λ p. IsAsLeft p.place v group → Brings p.place e.input group first → IsDone (roster_of p) p.place group first left v e e.outcome in
    let at : P v.plan = λ x y. done v e group first good x y left e.outcome step in
    subst P plan at is brings

last_of : (xs : List Kept) (x d : Kept) → slice_index_or (xs ++ x ∷ []) (length (xs ++ x ∷ []) - 1) d ≡ x
last_of xs x d =
    let long : length (xs ++ x ∷ []) ≡ length xs + 1 = length-append xs (x ∷ []) in
    let at : length (xs ++ x ∷ []) - 1 ≡ length xs = omega arith in
    subst (λ (k : ℕ). slice_index_or (xs ++ x ∷ []) k d ≡ x) (sym at) (seam xs)
  where
    seam : (ys : List Kept) → slice_index_or (ys ++ x ∷ []) (length ys) d ≡ x
    seam [] = refl
    seam (y ∷ ys) = seam ys

pub not_stopped : (b : Bool) (s : State) → s ≡ cond b IsHalted Ready → s ≢ Stopped
not_stopped true s e f = let no : IsHalted ≡ Stopped = sym e ∙ f in cc
not_stopped false s e f = let no : Ready ≡ Stopped = sym e ∙ f in cc

-- a Sentinel that isn't stopped tells what it stored last
pub tells_stored : (roster : Roster) (i m : ℕ) (kept : Kept) (group : Group) → i < length group.sentinels → m < length roster.masters → (sentinel_at group i).state ≢ Stopped
    → ((before : List Kept) × ((sentinel_at group i).stored ≡ before ++ kept ∷ [])) → Steps roster (Answer (SentinelAt i) m) group (told i m kept group)
tells_stored roster i m kept group inside lt runs cards =
    let node : Sentinel = sentinel_at group i in
    let none : Kept = record { current = 0; masters = [] } in
    let card : card_after node m (stores_of node) ≡ card_of kept m =
    ap (λ (xs : List Kept). card_of (slice_index_or xs (length xs - 1) none) m) cards.1 ∙ ap (λ (k : Kept). card_of k m) (last_of cards.0 kept none) in
    let long : length node.stored ≡ length cards.0 + 1 = ap (λ (xs : List Kept). length xs) cards.1 ∙ length-append cards.0 (kept ∷ []) in
    inl (
      (inside, lt, runs, omega arith),
      ap (λ c. let g : Group = record group { said = group.said ++ (record { sentinel = i; master = m; card = c }) ∷ [] } in g) (sym card),
    )

pub answer_shows_stored : AnswerShowsStored
answer_shows_stored start history group m is lt =
    let v : World = replay start history in
    tells_stored (roster_of start.plan) start.plan.place m v.stored group is.inside lt (not_stopped v.halted (sentinel_at group start.plan.place).state is.state) is.cards

pub stored_is_answered : StoredIsAnswered
stored_is_answered roster i v outputs group m is lt = (
  tells_stored roster i m v.stored group is.inside lt (λ e. let no : IsStored ≡ Stopped = sym is.state ∙ e in cc) is.cards,
  record { inside = is.inside; state = is.state; file = is.file; parts = is.parts; held = is.held; cards = is.cards },
)

pub stored_is_released : StoredIsReleased
stored_is_released roster i v outputs group running is =
    let node : Sentinel = sentinel_at group i in
    let last : Group = after_release roster group i node in
    let at : sentinel_at last i ≡ released node = at_self group i (released node) is.inside in (
      last,
      inl ((is.inside, is.state), refl),
      record {
        inside = still_inside group i (released node) is.inside;
        state = ap (λ (n : Sentinel). n.state) at ∙ ap (λ (b : Bool). cond b IsHalted Ready) (sym running);
        file = λ _. ap (λ (n : Sentinel). n.file) at ∙ is.file;
        parts = subst (λ (n : Sentinel). IsPartsOf v.core n.parts) (sym at) is.parts;
        cards = (is.cards.0, ap (λ (n : Sentinel). n.stored) at ∙ is.cards.1);
      },
      (ap (λ (xs : List Output). group.messages ++ sent xs) is.held, ap (λ (xs : List Output). group.said ++ said_by i (advertised_by roster xs)) is.held),
    )
