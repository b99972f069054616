-- Each call of a Sentinel in memory moves the Sentinel of the model for which it stands.
use Rattle.std.proofs.Common.{inl, inr, ◌≡◌, ◌≢◌, ◌↔◌, ◌⊎◌, ℕ, ◌≤◌, ◌<◌, ◌||◌, Bool, true, false, Option, Some, None, List, [], ◌∷◌, ◌++◌, length, refl, sym, ◌∙◌, ap, subst, arith, Result, Ok, Err, is_ok, OnOk, IsOk, IfOk, IfSome, IsErrOf, IsTrue, IsFalse}
use Rattle.std.specs.Prelude.{All}
use Rattle.std.specs.List.{AllByRecursion}
use Rattle.std.proofs.lemmas.Bool.{le-ltb, or_cases, or_left, or_right, or_parts}
use Rattle.ballot_law.specs.declared.cards.Kept.{Kept}
use Rattle.ballot_law.specs.declared.events.Event.{Event}
use Rattle.ballot_law.specs.declared.messages.NodeName.TheVariants.{SentinelAt}
use Rattle.ballot_law.specs.declared.messages.Output.{Output}
use Rattle.ballot_law.specs.declared.steps.KeptText.TheVariants.{Old, New}
use Rattle.ballot_law.specs.Rosters.{Roster, id_of, size}
use Rattle.ballot_law.specs.Ballots.{Parts, Moved, restored}
use Rattle.ballot_law.specs.Worlds.{Sentinel, State, Ready, Pending, Stored, Halted, Stopped, IsFlush, Choice, IsRightOutput, taken, stored_now, ended, ended_new, started}
use Rattle.ballot_law.proofs.States.{pending_or_not}
use Rattle.sentinel_conf.specs.Meaning.{ConfPlan}
use Rattle.sentinel_conf.specs.Reading.{FILE_MAX, conf_of_bytes}
use Rattle.sentinel_conf.specs.Rewritten.{rewritten, IsKeptPart}
use Rattle.sentinel_rules.specs.Plans.{Plan, roster_of}
use Rattle.sentinel_rules.specs.States.{Core, opened}
use Rattle.sentinel_rules.specs.Steps.{IsPartsOf, IsTake, OpenedIsSound}
use Rattle.sentinel_rules.specs.Takes.{next}
use Rattle.sentinel_core.specs.Sentinels.{Whole, IsWhole, is_flush, is_pending}
use Rattle.sentinel_core.proofs.Flushes.{flush_told, flush_is}
use Rattle.sentinel_outbox.specs.declared.phase.Phase.{Phase}
use Rattle.sentinel_outbox.specs.declared.phase.Phase.TheVariants as phase
use Rattle.sentinel_outbox.specs.declared.faults.StoreFault.{StoreFault}
use Rattle.sentinel_outbox.specs.declared.faults.StoreFault.TheVariants as store_fault
use Rattle.boxed_nodes.specs.declared.calls.HowStored.{HowStored}
use Rattle.boxed_nodes.specs.declared.calls.HowStored.TheVariants as how
use Rattle.sentinel_conf.specs.Store.Stores.{Outcome, Stored as File, outcome_of, due, within}
use Rattle.boxed_nodes.specs.Sentinels.Files.{FitsAFile, outcome_with, refusal_of, text_at_stop, text_left}
use Rattle.boxed_nodes.specs.Images.{Image, OfSentinel, OfOther, state_of, after_store, store_answer, stopped_image, stopped_sentinel, started_image, refused_sentinel, refusal}
use Rattle.boxed_nodes.specs.Sendable.{IsListed}
use Rattle.boxed_nodes.specs.Moves.{Taken, Takes, Stores, Stops, Starts, IsNamed, IsFresh}
use Rattle.sentinel_outbox.specs.declared.took.Took.{Took}
use Rattle.sentinel_outbox.specs.declared.faults.TakeFault.{TakeFault}
use Rattle.boxed_nodes.specs.Sentinels.Kinds.{IsSentinelImage, IsImageOf, IsPendingAs, IsWinOf, state_in, is_running}
use Rattle.boxed_nodes.proofs.SentinelsLemmas.Fresh.{well_formed}
use Rattle.boxed_nodes.proofs.SentinelsLemmas.Listed.{outputs_listed}
use Rattle.boxed_nodes.proofs.SentinelsLemmas.Wins.{won_of, parts_within}

-- A take

-- what the model stores, and what the Sentinel does
must_store_is : (event : Event) (changed : Bool) (old new old_kept new_kept : Kept) → (IsTrue changed ↔ (new ≢ old)) → old_kept ≡ old → new_kept ≡ new →
    (changed || is_flush event ≡ true) ↔ (IsFlush event ⊎ (new_kept ≢ old_kept))
must_store_is event changed old new old_kept new_kept told e f = (
  λ h. (elim (or_cases changed (is_flush event) h) as (λ _. IsFlush event ⊎ (new_kept ≢ old_kept)) [
    | inl t ↦ inr (λ same. told.0 t (sym f ∙ same ∙ e))
    | inr t ↦ inl (flush_is event t)
  ]),
  λ h. (elim h as (λ _. changed || is_flush event ≡ true) [
    | inl t ↦ or_right changed (is_flush event) (flush_told event t)
    | inr t ↦ or_left changed (is_flush event) (told.1 (λ same. t (f ∙ same ∙ sym e)))
  ]),
)

pub record TookAs (before after : Whole) (now : ℕ) (event : Event) (changed : Bool) (outputs : List Output) : Type 0 where
  pub ready : before.phase ≡ phase.Ready
  pub whole : IsWhole after
  pub core : after.core ≡ (next before.plan before.core now event).core
  pub outputs_are : outputs ≡ (next before.plan before.core now event).outputs
  pub changed_is : IsTrue changed ↔ (after.core.kept ≢ before.core.kept)
  pub unchanged : IsFalse changed → after.core.kept ≡ before.core.kept
  pub phase_is : after.phase ≡ phase.Pending (changed || is_flush event)
  pub plan : after.plan ≡ before.plan
  pub stored : after.stored ≡ before.stored
  pub steps : (parts : Parts) → IsPartsOf before.core parts → IsTake before.plan before.core parts event after.core outputs

pending_as : (whole : Whole) (s : Sentinel) (p : Phase) (b : Bool) → p ≡ phase.Pending b → s.must_store ≡ b → (b ≡ false → whole.core.kept ≡ whole.stored) → IsPendingAs p whole s
pending_as whole s p b e told same = subst (λ q. IsPendingAs q whole s) (sym e) (told, same)

taken_sentinel : (before after : Whole) (text : List ℕ) (now : ℕ) (event : Event) (changed : Bool) (outputs : List Output) → TookAs before after now event changed outputs →
    (roster : Roster) (s : Sentinel) → IsSentinelImage before text roster s → Taken roster (SentinelAt before.plan.place) event (OfSentinel s) outputs (IsImageOf after text roster)
taken_sentinel before after text now event changed outputs took roster s h =
    let t = took.steps s.parts h.parts_of in
    let same : before.core.kept ≡ before.stored = subst (λ p. Rattle.sentinel_core.specs.Sentinels.IsSettled p before.core before.stored) took.ready h.whole_ok.settled in
    let running : is_running before.phase ≡ true = ap is_running took.ready in
    let choice : Choice = record { ballots = t.ballots; parts = t.moved_to; must_store = changed || is_flush event; held = outputs } in
    record {
      ready = h.state_is ∙ ap state_in took.ready;
      after = OfSentinel (taken s choice);
      moved = (
        choice,
        record {
          moved = subst (λ r. Moved r before.plan.place event t.ballots (record s.parts { casts = []; wins = [] }) t.moved_to) h.has_roster t.moved;
          must_store = must_store_is event changed before.core.kept after.core.kept s.parts.kept t.moved_to.kept took.changed_is h.parts_of.kept t.parts_after.kept;
          held = subst (λ r. All (IsRightOutput r before.plan.place t.moved_to) outputs) h.has_roster t.right;
        },
        refl,
        refl,
      );
      listed = subst (λ r. AllByRecursion (IsListed r) outputs) h.has_roster
          (subst (AllByRecursion (IsListed (roster_of before.plan))) (sym took.outputs_are) (outputs_listed before.plan before.core now event));
      shows = record {
        whole_ok = took.whole;
        has_roster = ap roster_of took.plan ∙ h.has_roster;
        state_is = ap state_in (sym took.phase_is);
        read = subst (λ p. conf_of_bytes text ≡ Ok (record p.conf { kept = s.file })) (sym took.plan) h.read;
        file_is = λ _. h.file_is running ∙ sym took.stored;
        before = h.before;
        stored_is = λ _. h.stored_is (λ e. (let f : phase.Ready ≡ phase.Stopped = sym took.ready ∙ e in cc)) ∙ ap (λ k. h.before ++ k ∷ []) (sym took.stored);
        parts_of = t.parts_after;
        won = won_of roster before.plan.place event t.ballots s.parts t.moved_to after.core
            (subst (λ r. Moved r before.plan.place event t.ballots (record s.parts { casts = []; wins = [] }) t.moved_to) h.has_roster t.moved) t.parts_after
            (parts_within before.plan before.core s.parts h.whole_ok.core h.parts_of);
        pending = pending_as after (taken s choice) after.phase (changed || is_flush event) took.phase_is refl
            (λ none. took.unchanged (or_parts changed (is_flush event) none).0 ∙ same ∙ sym took.stored);
      };
    }

pub taken_image : (before after : Whole) (text : List ℕ) (now : ℕ) (event : Event) (changed : Bool) (outputs : List Output) → TookAs before after now event changed outputs →
    (roster : Roster) (image : Image) → IsImageOf before text roster image → Taken roster (SentinelAt before.plan.place) event image outputs (IsImageOf after text roster)
taken_image before after text now event changed outputs took roster (OfSentinel s) h = taken_sentinel before after text now event changed outputs took roster s h
taken_image before after text now event changed outputs took roster (OfOther o) h = elim h [ ]

-- A file

-- the rewritten file is read as the conf with what was stored
abbrev pub AgainOf : Kept → Type 0
AgainOf kept = (bytes : List ℕ) (conf : ConfPlan) → conf_of_bytes bytes ≡ Ok conf → IsKeptPart conf kept → conf_of_bytes (rewritten conf kept) ≡ Ok (record conf { kept = kept })

kept_part : (conf : ConfPlan) (file kept : Kept) → IsKeptPart conf kept → IsKeptPart (record conf { kept = file }) kept
kept_part conf file kept part = record { current = part.current; masters = part.masters }

read_again : (kept : Kept) → AgainOf kept → (text : List ℕ) (conf : ConfPlan) (file : Kept) → conf_of_bytes text ≡ Ok (record conf { kept = file }) → IsKeptPart conf kept →
    conf_of_bytes (rewritten conf kept) ≡ Ok (record conf { kept = kept })
read_again kept again text conf file read part = again text (record conf { kept = file }) read (kept_part conf file kept part)

-- A store

-- what the Sentinel says of the store
pub record StoredAs (before after : Whole) (file file2 : File) (result : Result (Unit {0}) StoreFault) : Type 0 where
  pub whole : IsWhole after
  pub nothing : IsErrOf result store_fault.Nothing ↔ (is_pending before.phase ≡ false)
  pub nothing_left : IsErrOf result store_fault.Nothing → (after ≡ before) × (file2 ≡ file)
  pub stored : OnOk result (after ≡ record before { stored = before.core.kept; phase = phase.Stored })
  pub untouched : before.phase ≡ phase.Pending false → OnOk result (file2 ≡ file) × IsOk result
  pub halted : IsErrOf result store_fault.Refused → after ≡ record before { phase = phase.Halted }
  pub known : before.phase ≡ phase.Pending true → IfSome (outcome_of file (rewritten before.plan.conf before.core.kept))
      (λ known. (is_ok result ≡ known.is_stored) × (Some file2.text ≡ Some known.text))

-- a file as it is before a store that ends so: it was asked for that, and has room
pub record IsAsked (w : HowStored) (file : File) : Type 0 where
  pub asked : file.refusal ≡ refusal_of w
  pub roomy : FILE_MAX ≤ file.room

-- where there is room, the file answers by its refusal
within_is : (room : ℕ) (text : List ℕ) (outcome : Outcome) → length text ≤ room → within room text outcome ≡ Some outcome
within_is room text outcome h = ap (λ b. elim b as (λ _. Option Outcome) [ true ↦ None | false ↦ Some outcome ]) (le-ltb room (length text) h)

asked_is : (w : HowStored) (file : File) (text : List ℕ) → length text ≤ file.room → outcome_of (record file { refusal = refusal_of w }) text ≡ Some (outcome_with w file.text text)
asked_is how.Done file text h = within_is file.room text (outcome_with how.Done file.text text) h
asked_is how.RefusedOld file text h = refl
asked_is how.RefusedNew file text h = within_is file.room text (outcome_with how.RefusedNew file.text text) h

answers : (w : HowStored) (file : File) (text : List ℕ) → IsAsked w file → length text ≤ FILE_MAX → outcome_of file text ≡ Some (outcome_with w file.text text)
answers w file text is h = ap (λ r. outcome_of (record file { refusal = r }) text) is.asked ∙ asked_is w file text (omega (arith, h, is.roomy))

same_text : {x y : List ℕ} → Some x ≡ Some y → x ≡ y
same_text {x} {y} e = cc

-- a store that has something to store ends as it was asked to
pub known_of : (w : HowStored) (before after : Whole) → FitsAFile before.plan.conf → IsKeptPart before.plan.conf before.core.kept →
    (file file2 : File) (result : Result (Unit {0}) StoreFault) → IsAsked w file → StoredAs before after file file2 result → before.phase ≡ phase.Pending true →
    (is_ok result ≡ (outcome_with w file.text (rewritten before.plan.conf before.core.kept)).is_stored) ×
    (file2.text ≡ (outcome_with w file.text (rewritten before.plan.conf before.core.kept)).text)
known_of w before after fits part file file2 result is st p =
    let new = rewritten before.plan.conf before.core.kept in
    let known = subst (λ o. IfSome o (λ (known : Outcome). (is_ok result ≡ known.is_stored) × (Some file2.text ≡ Some known.text)))
    (answers w file new is (fits before.core.kept part)) (st.known p) in
    (known.0, same_text known.1)

-- a store that ends well
stored_image_of : (before after : Whole) (text text2 : List ℕ) (roster : Roster) (s : Sentinel) → IsSentinelImage before text roster s → is_pending before.phase ≡ true →
    IsWhole after → after ≡ record before { stored = before.core.kept; phase = phase.Stored } →
    conf_of_bytes text2 ≡ Ok (record before.plan.conf { kept = before.core.kept }) → IsImageOf after text2 roster (OfSentinel (stored_now s))
stored_image_of before after text text2 roster s h p whole e read =
    record {
      whole_ok = whole;
      has_roster = ap (λ (w : Whole). roster_of w.plan) e ∙ h.has_roster;
      state_is = sym (ap (λ (w : Whole). state_in w.phase) e);
      read = subst (λ (w : Whole). conf_of_bytes text2 ≡ Ok (record w.plan.conf { kept = s.parts.kept })) (sym e)
          (subst (λ k. conf_of_bytes text2 ≡ Ok (record before.plan.conf { kept = k })) (sym h.parts_of.kept) read);
      file_is = λ _. h.parts_of.kept ∙ sym (ap (λ (w : Whole). w.stored) e);
      before = s.stored;
      stored_is = λ _. ap (λ k. s.stored ++ k ∷ []) (h.parts_of.kept ∙ sym (ap (λ (w : Whole). w.stored) e));
      parts_of = subst (λ (w : Whole). IsPartsOf w.core s.parts) (sym e) h.parts_of;
      won = subst (λ (w : Whole). IsWinOf roster w.core.won) (sym e) h.won;
      pending = subst (λ (w : Whole). IsPendingAs w.phase w (stored_now s)) (sym e) tt;
    }

-- a store that is refused
halted_image_of : (before after : Whole) (text text2 : List ℕ) (roster : Roster) (s : Sentinel) (s2 : Sentinel) → IsSentinelImage before text roster s →
    before.phase ≡ phase.Pending true → IsWhole after → after ≡ record before { phase = phase.Halted } →
    s2.state ≡ Halted → s2.stored ≡ s.stored → s2.parts ≡ s.parts → conf_of_bytes text2 ≡ Ok (record before.plan.conf { kept = s2.file }) →
    IsImageOf after text2 roster (OfSentinel s2)
halted_image_of before after text text2 roster s s2 h p whole e state stored parts read =
    record {
      whole_ok = whole;
      has_roster = ap (λ (w : Whole). roster_of w.plan) e ∙ h.has_roster;
      state_is = state ∙ sym (ap (λ (w : Whole). state_in w.phase) e);
      read = subst (λ (w : Whole). conf_of_bytes text2 ≡ Ok (record w.plan.conf { kept = s2.file })) (sym e) read;
      file_is = λ r. (let f : false ≡ true = sym (ap (λ (w : Whole). is_running w.phase) e) ∙ r in cc);
      before = h.before;
      stored_is = λ _. stored ∙ h.stored_is (λ x. (let f : phase.Pending true ≡ phase.Stopped = sym p ∙ x in cc)) ∙
          ap (λ k. h.before ++ k ∷ []) (sym (ap (λ (w : Whole). w.stored) e));
      parts_of = subst (λ (w : Whole). IsPartsOf w.core s2.parts) (sym e) (subst (IsPartsOf before.core) (sym parts) h.parts_of);
      won = subst (λ (w : Whole). IsWinOf roster w.core.won) (sym e) h.won;
      pending = subst (λ (w : Whole). IsPendingAs w.phase w s2) (sym e) tt;
    }

on_ok_in : {T E : Type 0} {P : Type 0} (r : Result T E) → OnOk r P → is_ok r ≡ true → P
on_ok_in (Ok x) p e = p
on_ok_in (Err x) p e = cc

is_ok_told : {T E : Type 0} (r : Result T E) → IsOk r → is_ok r ≡ true
is_ok_told (Ok x) h = refl
is_ok_told (Err x) h = cc

ok_unit : {E : Type 0} (r : Result (Unit {0}) E) → is_ok r ≡ true → r ≡ Ok tt
ok_unit (Ok tt) e = refl
ok_unit (Err x) e = cc

-- a refusal of a pending Sentinel is `Refused`
refused_is : (r : Result (Unit {0}) StoreFault) (b : Bool) → (IsErrOf r store_fault.Nothing ↔ (b ≡ false)) → b ≡ true → is_ok r ≡ false → r ≡ Err store_fault.Refused
refused_is (Ok x) b n e f = cc
refused_is (Err store_fault.Nothing) b n e f = absurd (let g : true ≡ false = sym e ∙ n.0 refl in cc)
refused_is (Err store_fault.Refused) b n e f = refl

abbrev pub StoreEnds : HowStored → Sentinel → (after : Whole) (text2 : List ℕ) (roster : Roster) (result : Result (Unit {0}) StoreFault) → Type 0
StoreEnds h s after text2 roster result = (result ≡ store_answer h (OfSentinel s)) × IsImageOf after text2 roster (after_store h (OfSentinel s))

-- with nothing to store, the store ends well however it is to end
store_free : (w : HowStored) (before after : Whole) (file file2 : File) (result : Result (Unit {0}) StoreFault) → StoredAs before after file file2 result →
    before.phase ≡ phase.Pending false →
    (roster : Roster) (s : Sentinel) → IsSentinelImage before file.text roster s → s.must_store ≡ false → before.core.kept ≡ before.stored →
    (result ≡ Ok tt) × IsImageOf after file2.text roster (OfSentinel (stored_now s))
store_free w before after file file2 result st p roster s h none same =
    let ok : is_ok result ≡ true = is_ok_told result (st.untouched p).1 in
    let file_same : file2 ≡ file = on_ok_in result (st.untouched p).0 ok in
    let file_is : s.file ≡ before.core.kept = h.file_is (ap is_running p) ∙ sym same in (
      ok_unit result ok,
      stored_image_of before after file.text file2.text roster s h (ap is_pending p) st.whole (on_ok_in result st.stored ok)
          (ap (λ (f : File). conf_of_bytes f.text) file_same ∙ subst (λ k. conf_of_bytes file.text ≡ Ok (record before.plan.conf { kept = k })) file_is h.read),
    )

store_free_ends : (w : HowStored) (s : Sentinel) (after : Whole) (text2 : List ℕ) (roster : Roster) (result : Result (Unit {0}) StoreFault) → (b : Bool) → b ≡ false →
    s.must_store ≡ b → (result ≡ Ok tt) × IsImageOf after text2 roster (OfSentinel (stored_now s)) → StoreEnds w s after text2 roster result
store_free_ends how.Done s after text2 roster result b e m ends = ends
store_free_ends how.RefusedOld s after text2 roster result b e m ends =
    subst (λ x. (result ≡ refusal x) × IsImageOf after text2 roster (OfSentinel (refused_sentinel s x Old))) (sym (m ∙ e)) ends
store_free_ends how.RefusedNew s after text2 roster result b e m ends =
    subst (λ x. (result ≡ refusal x) × IsImageOf after text2 roster (OfSentinel (refused_sentinel s x New))) (sym (m ∙ e)) ends

store_due : (w : HowStored) (before after : Whole) → AgainOf before.core.kept → FitsAFile before.plan.conf → (file file2 : File) (result : Result (Unit {0}) StoreFault) →
    IsAsked w file → StoredAs before after file file2 result → before.phase ≡ phase.Pending true →
    (roster : Roster) (s : Sentinel) → IsSentinelImage before file.text roster s → s.must_store ≡ true → StoreEnds w s after file2.text roster result
store_due how.Done before after again fits file file2 result asked st p roster s h due =
    let known = known_of how.Done before after fits h.whole_ok.core.kept file file2 result asked st p in (
      ok_unit result known.0,
      stored_image_of before after file.text file2.text roster s h (ap is_pending p) st.whole (on_ok_in result st.stored known.0)
          (ap conf_of_bytes known.1 ∙ read_again before.core.kept again file.text before.plan.conf s.file h.read h.whole_ok.core.kept),
    )
store_due how.RefusedOld before after again fits file file2 result asked st p roster s h due =
    let known = known_of how.RefusedOld before after fits h.whole_ok.core.kept file file2 result asked st p in
    let r : result ≡ Err store_fault.Refused = refused_is result (is_pending before.phase) st.nothing (ap is_pending p) known.0 in
    subst (λ x. (result ≡ refusal x) × IsImageOf after file2.text roster (OfSentinel (refused_sentinel s x Old))) (sym due) (
      r,
      halted_image_of before after file.text file2.text roster s (ended s Halted) h p st.whole (st.halted r) refl refl refl (ap conf_of_bytes known.1 ∙ h.read),
    )
store_due how.RefusedNew before after again fits file file2 result asked st p roster s h due =
    let known = known_of how.RefusedNew before after fits h.whole_ok.core.kept file file2 result asked st p in
    let r : result ≡ Err store_fault.Refused = refused_is result (is_pending before.phase) st.nothing (ap is_pending p) known.0 in
    subst (λ x. (result ≡ refusal x) × IsImageOf after file2.text roster (OfSentinel (refused_sentinel s x New))) (sym due) (
      r,
      halted_image_of before after file.text file2.text roster s (ended_new s Halted) h p st.whole (st.halted r) refl refl refl
          (ap conf_of_bytes known.1 ∙ subst (λ k. conf_of_bytes (rewritten before.plan.conf before.core.kept) ≡ Ok (record before.plan.conf { kept = k })) (sym h.parts_of.kept)
          (read_again before.core.kept again file.text before.plan.conf s.file h.read h.whole_ok.core.kept)),
    )

store_pending : (w : HowStored) (before after : Whole) → AgainOf before.core.kept → FitsAFile before.plan.conf → (file file2 : File) (result : Result (Unit {0}) StoreFault) →
    IsAsked w file → StoredAs before after file file2 result →
    (roster : Roster) (s : Sentinel) → IsSentinelImage before file.text roster s → (b : Bool) → before.phase ≡ phase.Pending b → StoreEnds w s after file2.text roster result
store_pending w before after again fits file file2 result asked st roster s h b p =
    let due = subst (λ q. IsPendingAs q before s) p h.pending in
    elim b as (λ x. b ≡ x → StoreEnds w s after file2.text roster result) [
      | true ↦ λ e. store_due w before after again fits file file2 result asked st (p ∙ ap phase.Pending e) roster s h (due.0 ∙ e)
      | false ↦ λ e. store_free_ends w s after file2.text roster result false refl (due.0 ∙ e)
          (store_free w before after file file2 result st (p ∙ ap phase.Pending e) roster s h (due.0 ∙ e) (due.1 e))
    ] refl

-- a phase that the model calls pending
pending_phase : (p : Phase) → Pending ≡ state_in p → (b : Bool) × (p ≡ phase.Pending b)
pending_phase phase.Ready e = cc
pending_phase (phase.Pending b) e = (b, refl)
pending_phase phase.Stored e = cc
pending_phase phase.Halted e = cc
pending_phase phase.Stopped e = cc

not_pending : (p : Phase) → Pending ≢ state_in p → is_pending p ≡ false
not_pending phase.Ready e = refl
not_pending (phase.Pending b) e = absurd (e refl)
not_pending phase.Stored e = refl
not_pending phase.Halted e = refl
not_pending phase.Stopped e = refl

pub store_moves : (w : HowStored) (before after : Whole) → AgainOf before.core.kept → FitsAFile before.plan.conf → (file file2 : File) (result : Result (Unit {0}) StoreFault) →
    IsAsked w file → StoredAs before after file file2 result →
    (roster : Roster) (image : Image) → IsImageOf before file.text roster image → state_of image ≡ Pending →
    (result ≡ store_answer w image) × IsImageOf after file2.text roster (after_store w image)
store_moves w before after again fits file file2 result asked st roster (OfSentinel s) h pending =
    let p = pending_phase before.phase (sym pending ∙ h.state_is) in
    store_pending w before after again fits file file2 result asked st roster s h p.0 p.1
store_moves w before after again fits file file2 result asked st roster (OfOther o) h pending = elim h [ ]

err_of : (r : Result (Unit {0}) StoreFault) (f : StoreFault) → IsErrOf r f → r ≡ Err f
err_of r f h = h

pub store_nothing : (before after : Whole) (file file2 : File) (result : Result (Unit {0}) StoreFault) → StoredAs before after file file2 result →
    (roster : Roster) (image : Image) → IsImageOf before file.text roster image → state_of image ≢ Pending →
    (result ≡ Err store_fault.Nothing) × IsImageOf after file2.text roster image
store_nothing before after file file2 result st roster (OfSentinel s) h other =
    let none = st.nothing.1 (not_pending before.phase (λ e. other (h.state_is ∙ sym e))) in
    let same = st.nothing_left none in (
      err_of result store_fault.Nothing none,
      subst (λ f. IsImageOf after f roster (OfSentinel s)) (sym (ap (λ (f : File). f.text) same.1)) (subst (λ w. IsImageOf w file.text roster (OfSentinel s)) (sym same.0) h),
    )
store_nothing before after file file2 result st roster (OfOther o) h other = elim h [ ]

-- A stop

stopped_as : (before after : Whole) (text text2 : List ℕ) (roster : Roster) (s s2 : Sentinel) → IsSentinelImage before text roster s → IsWhole after → after.plan ≡ before.plan →
    after.core ≡ before.core → after.phase ≡ phase.Stopped →
    s2.state ≡ Stopped → s2.parts ≡ s.parts → conf_of_bytes text2 ≡ Ok (record before.plan.conf { kept = s2.file }) → IsSentinelImage after text2 roster s2
stopped_as before after text text2 roster s s2 h whole plan core p state parts read =
    record {
      whole_ok = whole;
      has_roster = ap roster_of plan ∙ h.has_roster;
      state_is = state ∙ sym (ap state_in p);
      read = subst (λ (q : Plan). conf_of_bytes text2 ≡ Ok (record q.conf { kept = s2.file })) (sym plan) read;
      file_is = λ r. (let f : false ≡ true = sym (ap is_running p) ∙ r in cc);
      before = [];
      stored_is = λ r. absurd (r p);
      parts_of = subst (λ c. IsPartsOf c s2.parts) (sym core) (subst (IsPartsOf before.core) (sym parts) h.parts_of);
      won = subst (λ (c : Core). IsWinOf roster c.won) (sym core) h.won;
      pending = subst (λ q. IsPendingAs q after s2) (sym p) tt;
    }

-- with the old text
stop_old_at : (s : Sentinel) (state : State) → stopped_sentinel s state Old ≡ ended s Stopped
stop_old_at s Ready = refl
stop_old_at s Pending = refl
stop_old_at s Stored = refl
stop_old_at s Halted = refl
stop_old_at s Stopped = refl

pub stop_old : (before after : Whole) (text : List ℕ) (roster : Roster) (image : Image) → after ≡ record before { phase = phase.Stopped } → IsWhole after →
    IsImageOf before text roster image → IsImageOf after text roster (stopped_image Old image)
stop_old before after text roster (OfSentinel s) e whole h =
    subst (λ x. IsSentinelImage after text roster x) (sym (stop_old_at s s.state))
    (stopped_as before after text text roster s (ended s Stopped) h whole (ap (λ (w : Whole). w.plan) e) (ap (λ (w : Whole). w.core) e) (ap (λ (w : Whole). w.phase) e) refl refl
    h.read)
stop_old before after text roster (OfOther o) e whole h = elim h [ ]

-- with the new text, where there is one
stop_new_at : (s : Sentinel) (state : State) → state ≢ Pending → stopped_sentinel s state New ≡ ended s Stopped
stop_new_at s Ready e = refl
stop_new_at s Pending e = absurd (e refl)
stop_new_at s Stored e = refl
stop_new_at s Halted e = refl
stop_new_at s Stopped e = refl

-- the Sentinel was stored before it was stopped
pub record StoppedNew (before middle after : Whole) (file file2 : File) (result : Result (Unit {0}) StoreFault) : Type 0 where
  pub asked : IsAsked how.Done file
  pub stored : StoredAs before middle file file2 result
  pub stopped : after ≡ record middle { phase = phase.Stopped }
  pub whole : IsWhole after

stop_new_sentinel : (before middle after : Whole) → AgainOf before.core.kept → FitsAFile before.plan.conf →
    (file file2 : File) (result : Result (Unit {0}) StoreFault) (roster : Roster) (s : Sentinel) → StoppedNew before middle after file file2 result →
    IsSentinelImage before file.text roster s →
    ((s.state ≡ Pending) ⊎ (s.state ≢ Pending)) → IsSentinelImage after file2.text roster (stopped_sentinel s s.state New)
stop_new_sentinel before middle after again fits file file2 result roster s n h (inl pending) =
    let m = (store_moves how.Done before middle again fits file file2 result n.asked n.stored roster (OfSentinel s) h pending).1 in
    let e = n.stopped in
    subst (λ state. IsSentinelImage after file2.text roster (stopped_sentinel s state New)) (sym pending)
    (stopped_as middle after file2.text file2.text roster (stored_now s) (ended_new s Stopped) m n.whole (ap (λ (w : Whole). w.plan) e) (ap (λ (w : Whole). w.core) e)
    (ap (λ (w : Whole). w.phase) e) refl refl m.read)
stop_new_sentinel before middle after again fits file file2 result roster s n h (inr other) =
    let m = (store_nothing before middle file file2 result n.stored roster (OfSentinel s) h other).1 in
    let e = n.stopped in
    subst (IsSentinelImage after file2.text roster) (sym (stop_new_at s s.state other))
    (stopped_as middle after file2.text file2.text roster s (ended s Stopped) m n.whole (ap (λ (w : Whole). w.plan) e) (ap (λ (w : Whole). w.core) e)
    (ap (λ (w : Whole). w.phase) e) refl refl m.read)

pub stop_new : (before middle after : Whole) → AgainOf before.core.kept → FitsAFile before.plan.conf →
    (file file2 : File) (result : Result (Unit {0}) StoreFault) (roster : Roster) (image : Image) →
    StoppedNew before middle after file file2 result → IsImageOf before file.text roster image →
    IsImageOf after file2.text roster (stopped_image New image)
stop_new before middle after again fits file file2 result roster (OfSentinel s) n h =
    stop_new_sentinel before middle after again fits file file2 result roster s n h (pending_or_not s.state)
stop_new before middle after again fits file file2 result roster (OfOther o) n h = elim h [ ]

-- A start

pub record StartedAs (after : Whole) (text : List ℕ) (conf : ConfPlan) (now : ℕ) : Type 0 where
  pub read : conf_of_bytes text ≡ Ok conf
  pub plan : after.plan.conf ≡ conf
  pub core : after.core ≡ opened after.plan now
  pub stored : after.stored ≡ conf.kept
  pub phase_is : after.phase ≡ phase.Ready
  pub whole : IsWhole after

ok_same : {T E : Type 0} {x y : T} → (let r : Result T E = Ok x in r) ≡ Ok y → x ≡ y
ok_same {T} {E} {x} {y} e = cc

kept_eta : (c : ConfPlan) (k : Kept) → c.kept ≡ k → c ≡ record c { kept = k }
kept_eta c k e = ap (λ x. record c { kept = x }) e

pub started_moves : OpenedIsSound → (before after : Whole) (text : List ℕ) (conf : ConfPlan) (now : ℕ) → StartedAs after text conf now →
    (roster : Roster) (image : Image) → IsImageOf before text roster image → state_of image ≡ Stopped → IsImageOf after text roster (started_image roster image)
started_moves open_ok before after text conf now st roster (OfSentinel s) h stopped =
    let same : conf ≡ record before.plan.conf { kept = s.file } = ok_same (sym st.read ∙ h.read) in
    let kept : conf.kept ≡ s.file = ap (λ (c : ConfPlan). c.kept) same in
    let has : roster_of after.plan ≡ roster = ap (λ (c : ConfPlan). c.roster) (st.plan ∙ same) ∙ h.has_roster in
    record {
      whole_ok = st.whole;
      has_roster = has;
      state_is = sym (ap state_in st.phase_is);
      read = st.read ∙ ap Ok (sym st.plan ∙ kept_eta after.plan.conf s.file (ap (λ (c : ConfPlan). c.kept) st.plan ∙ kept));
      file_is = λ _. sym kept ∙ sym st.stored;
      before = [];
      stored_is = λ _. ap (λ k. k ∷ []) (sym kept ∙ sym st.stored);
      won = subst (λ (c : Core). IsWinOf roster c.won) (sym st.core) tt;
      parts_of = subst (λ c. IsPartsOf c (restored roster s.file)) (sym st.core)
          (subst (λ r. IsPartsOf (opened after.plan now) (restored r s.file)) has
          (subst (λ k. IsPartsOf (opened after.plan now) (restored (roster_of after.plan) k)) (ap (λ (c : ConfPlan). c.kept) st.plan ∙ kept)
          (open_ok after.plan now st.whole.plan).1));
      pending = subst (λ q. IsPendingAs q after (started roster s.file)) (sym st.phase_is) tt;
    }
started_moves open_ok before after text conf now st roster (OfOther o) h stopped = elim h [ ]

-- the place is that of the run id
pub started_name : (before after : Whole) (text : List ℕ) (conf : ConfPlan) (now : ℕ) → StartedAs after text conf now → (roster : Roster) (image : Image) →
    IsImageOf before text roster image → SentinelAt after.plan.place ≡ SentinelAt before.plan.place
started_name before after text conf now st roster (OfSentinel s) h =
    let same : after.plan.conf ≡ record before.plan.conf { kept = s.file } = st.plan ∙ ok_same (sym st.read ∙ h.read) in
    let r : roster_of after.plan ≡ roster_of before.plan = ap (λ (c : ConfPlan). c.roster) same in
    let a = st.whole.plan in let b = h.whole_ok.plan in
    ap SentinelAt (a.conf.ids after.plan.place before.plan.place a.place (subst (λ x. before.plan.place < size x) (sym r) b.place)
    (a.own ∙ ap (λ (c : ConfPlan). c.id) same ∙ sym b.own ∙ ap (λ x. id_of x before.plan.place) (sym r)))
started_name before after text conf now st roster (OfOther o) h = elim h [ ]

-- In the words of the contracts

pub takes_of : (result : Result Took TakeFault) (before after : Whole) (text : List ℕ) (now : ℕ) (event : Event) (held : List Output) → IsWhole after →
    OnOk result (before.phase ≡ phase.Ready) →
    OnOk result (after.core ≡ (next before.plan before.core now event).core) →
    OnOk result (held ≡ (next before.plan before.core now event).outputs) →
    IfOk result (λ took. IsTrue took.changed ↔ (after.core.kept ≢ before.core.kept)) →
    IfOk result (λ took. IsFalse took.changed → after.core.kept ≡ before.core.kept) →
    IfOk result (λ took. after.phase ≡ phase.Pending (took.changed || is_flush event)) →
    OnOk result (after.plan ≡ before.plan) →
    OnOk result (after.stored ≡ before.stored) →
    OnOk result ((parts : Parts) → IsPartsOf before.core parts → IsTake before.plan before.core parts event after.core held) →
    OnOk result (Takes (SentinelAt before.plan.place) event held (IsImageOf before text) (IsImageOf after text))
takes_of (Ok took) before after text now event held whole ready core outputs changed unchanged p plan stored steps =
    record {
      each = taken_image before after text now event took.changed held
          (record {
            ready = ready;
            whole = whole;
            core = core;
            outputs_are = outputs;
            changed_is = changed;
            unchanged = unchanged;
            phase_is = p;
            plan = plan;
            stored =
                stored;
            steps = steps;
          });
    }
takes_of (Err fault) before after text now event held whole ready core outputs changed unchanged p plan stored steps = tt

-- a file with room, once it was asked
asked_of : (w : HowStored) (first file : File) → FILE_MAX ≤ first.room → file ≡ record first { refusal = refusal_of w } → IsAsked w file
asked_of w first file roomy e = record { asked = ap (λ (f : File). f.refusal) e; roomy = subst (λ (f : File). FILE_MAX ≤ f.room) (sym e) roomy }

pub stores_of : (w : HowStored) (before after : Whole) → AgainOf before.core.kept → FitsAFile before.plan.conf → (first file file2 : File) (result : Result (Unit {0}) StoreFault) →
    FILE_MAX ≤ first.room → file ≡ record first { refusal = refusal_of w } → StoredAs before after file file2 result →
    Stores w result (IsImageOf before first.text) (IsImageOf after file2.text)
stores_of w before after again fits first file file2 result roomy e st =
    let text : file.text ≡ first.text = ap (λ (f : File). f.text) e in
    let asked : IsAsked w file = asked_of w first file roomy e in
    record {
      pending = λ roster image h p. store_moves w before after again fits file file2 result asked st roster image
          (subst (λ t. IsImageOf before t roster image) (sym text) h) p;
      nothing = λ roster image h p. store_nothing before after file file2 result st roster image (subst (λ t. IsImageOf before t roster image) (sym text) h) p;
    }

-- what it answers, and the text that stands then
pub answered : (w : HowStored) (before after : Whole) → FitsAFile before.plan.conf → IsKeptPart before.plan.conf before.core.kept →
    (first file file2 : File) (result : Result (Unit {0}) StoreFault) → FILE_MAX ≤ first.room → file ≡ record first { refusal = refusal_of w } →
    StoredAs before after file file2 result → before.phase ≡ phase.Pending true →
    (is_ok result ≡ (outcome_with w first.text (rewritten before.plan.conf before.core.kept)).is_stored) ×
    (file2.text ≡ (outcome_with w first.text (rewritten before.plan.conf before.core.kept)).text)
answered w before after fits part first file file2 result roomy e st p =
    subst (λ t. (is_ok result ≡ (outcome_with w t (rewritten before.plan.conf before.core.kept)).is_stored) ×
    (file2.text ≡ (outcome_with w t (rewritten before.plan.conf before.core.kept)).text)) (ap (λ (f : File). f.text) e)
    (known_of w before after fits part file file2 result (asked_of w first file roomy e) st p)

pub stops_old : (before after : Whole) (text : List ℕ) → after ≡ record before { phase = phase.Stopped } → IsWhole after → Stops Old (IsImageOf before text) (IsImageOf after text)
stops_old before after text e whole = record { each = λ roster image h. stop_old before after text roster image e whole h }

pub stops_new : (before middle after : Whole) → AgainOf before.core.kept → FitsAFile before.plan.conf → (first file file2 : File) (result : Result (Unit {0}) StoreFault) →
    FILE_MAX ≤ first.room → file ≡ record first { refusal = None } → StoredAs before middle file file2 result → after ≡ record middle { phase = phase.Stopped } → IsWhole after →
    Stops New (IsImageOf before first.text) (IsImageOf after file2.text)
stops_new before middle after again fits first file file2 result roomy e st stopped whole =
    let text : file.text ≡ first.text = ap (λ (f : File). f.text) e in
    record {
      each = λ roster image h. stop_new before middle after again fits file file2 result roster image
          (record { asked = asked_of how.Done first file roomy e; stored = st; stopped = stopped; whole = whole })
          (subst (λ t. IsImageOf before t roster image) (sym text) h);
    }

-- the text that such a stop leaves
same_left : (before middle : Whole) (first file file2 : File) (result : Result (Unit {0}) StoreFault) → file ≡ record first { refusal = None } →
    StoredAs before middle file file2 result → is_pending before.phase ≡ false → file2.text ≡ first.text
same_left before middle first file file2 result e st none = ap (λ (f : File). f.text) ((st.nothing_left (st.nothing.1 none)).1 ∙ e)

left_at : (before middle : Whole) → FitsAFile before.plan.conf → IsKeptPart before.plan.conf before.core.kept →
    (first file file2 : File) (result : Result (Unit {0}) StoreFault) → FILE_MAX ≤ first.room → file ≡ record first { refusal = None } →
    StoredAs before middle file file2 result → (p : Phase) → before.phase ≡ p → file2.text ≡ text_at_stop p New first.text (rewritten before.plan.conf before.core.kept)
left_at before middle fits part first file file2 result roomy e st phase.Ready q = same_left before middle first file file2 result e st (ap is_pending q)
left_at before middle fits part first file file2 result roomy e st (phase.Pending true) q =
    (answered how.Done before middle fits part first file file2 result roomy e st q).1
left_at before middle fits part first file file2 result roomy e st (phase.Pending false) q =
    let same = st.untouched q in ap (λ (f : File). f.text) (on_ok_in result same.0 (is_ok_told result same.1) ∙ e)
left_at before middle fits part first file file2 result roomy e st phase.Stored q = same_left before middle first file file2 result e st (ap is_pending q)
left_at before middle fits part first file file2 result roomy e st phase.Halted q = same_left before middle first file file2 result e st (ap is_pending q)
left_at before middle fits part first file file2 result roomy e st phase.Stopped q = same_left before middle first file file2 result e st (ap is_pending q)

pub left_of : (before middle : Whole) → FitsAFile before.plan.conf → IsKeptPart before.plan.conf before.core.kept →
    (first file file2 : File) (result : Result (Unit {0}) StoreFault) → FILE_MAX ≤ first.room → file ≡ record first { refusal = None } →
    StoredAs before middle file file2 result → file2.text ≡ text_left New before first.text
left_of before middle fits part first file file2 result roomy e st = left_at before middle fits part first file file2 result roomy e st before.phase refl

pub starts_of : OpenedIsSound → (before after : Whole) (text text2 : List ℕ) (conf : ConfPlan) (now : ℕ) → StartedAs after text conf now → text2 ≡ text →
    Starts (IsImageOf before text) (IsImageOf after text2)
starts_of sound before after text text2 conf now st e =
    record {
      each = λ roster image h p. subst (λ t. IsImageOf after t roster (started_image roster image)) (sym e)
          (started_moves sound before after text conf now st roster image h p);
    }

pub named_of : (before after : Whole) (text : List ℕ) (conf : ConfPlan) (now : ℕ) → StartedAs after text conf now →
    IsNamed (IsImageOf before text) (SentinelAt before.plan.place) (SentinelAt after.plan.place)
named_of before after text conf now st = record { each = started_name before after text conf now st }

-- A new one

pub fresh_of : OpenedIsSound → (node : Whole) (text text2 : List ℕ) (conf : ConfPlan) (now : ℕ) → StartedAs node text conf now → text2 ≡ text →
    IsFresh (λ roster. roster_of node.plan ≡ roster) (IsImageOf node text2)
fresh_of open_ok node text text2 conf now st e =
    record {
      each = λ roster has. (
        OfSentinel (started roster conf.kept),
        (
          refl,
          subst (λ r. Rattle.ballot_law.specs.Law.IsWellFormed r conf.kept) (ap (λ (c : ConfPlan). c.roster) (sym st.plan) ∙ has)
              (subst (λ (c : ConfPlan). Rattle.ballot_law.specs.Law.IsWellFormed c.roster c.kept) st.plan (well_formed node.plan.conf node.plan.conf.kept st.whole.plan.conf.kept)),
        ),
        record {
          whole_ok = st.whole;
          has_roster = has;
          state_is = sym (ap state_in st.phase_is);
          read = ap conf_of_bytes e ∙ st.read ∙ ap Ok (sym st.plan ∙ kept_eta node.plan.conf conf.kept (ap (λ (c : ConfPlan). c.kept) st.plan));
          file_is = λ _. sym st.stored;
          before = [];
          stored_is = λ _. ap (λ k. k ∷ []) (sym st.stored);
          won = subst (λ (c : Core). IsWinOf roster c.won) (sym st.core) tt;
          parts_of = subst (λ c. IsPartsOf c (restored roster conf.kept)) (sym st.core)
              (subst (λ r. IsPartsOf (opened node.plan now) (restored r conf.kept)) has
              (subst (λ k. IsPartsOf (opened node.plan now) (restored (roster_of node.plan) k)) (ap (λ (c : ConfPlan). c.kept) st.plan)
              (open_ok node.plan now st.whole.plan).1));
          pending = subst (λ q. IsPendingAs q node (started roster conf.kept)) (sym st.phase_is) tt;
        },
      );
    }
