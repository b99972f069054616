-- What a turn of a shared Sentinel shows may be sent.
use Rattle.std.proofs.Common.{◌≡◌, ℕ, ◌+◌, List, [], ◌∷◌, ◌++◌, refl, sym, ap, ◌∙◌, subst, drop, length, append_assoc, length-append, arith}
use Rattle.std.specs.List.{AllByRecursion}
use Rattle.std.specs.Prelude.{All}
use Rattle.ballot_law.specs.declared.events.Input.{Input}
use Rattle.ballot_law.specs.declared.messages.Output.{Output}
use Rattle.ballot_law.specs.declared.messages.Message.{Message}
use Rattle.ballot_law.specs.declared.messages.Note.{Note}
use Rattle.ballot_law.specs.declared.messages.Output.TheVariants.{Send, Tell}
use Rattle.boxed_nodes.specs.Sendable.{IsSendableOutput}
use Rattle.ballot_law.specs.Limits.{IsWithinEvent}
use Rattle.sentinel_rules.specs.Limits.{OutputsAreWithin, EpochsAreWithin}
use Rattle.ballot_law.specs.Limits.{IsWithinOutput, ShowsWithin}
use Rattle.sentinel_conf.specs.Rewritten.{IsKeptPart}
use Rattle.boxed_nodes.proofs.Sending.{outputs_sendable}
use Rattle.sentinel_core.proofs.ServingLemmas.Writing.{outputs_writable}
use Rattle.sentinel_cell.specs.declared.entry.Entry.{Entry}
use Rattle.sentinel_cell.specs.declared.entry.Outcome.TheVariants.{Stored}
use Rattle.sentinel_cell.specs.declared.view.View.{View}
use Rattle.sentinel_cell.specs.Histories.{World, IsGood, IsOutcome, IsStep, IsLegal, after_outcome, replay, next_of}
use Rattle.sentinel_cell.specs.declared.fault.ActFault.{ActFault}
use Rattle.sentinel_cell.specs.Standing.{Adds, Faulted}
use Rattle.sentinel_runtime.specs.Saying.{IsNoted, IsReleased, IsSaid, MayNote}
use Rattle.sentinel_cell.proofs.Acts.{first_steps, last_step}
use Rattle.sentinel_cell.proofs.Cards.{good_after, good_replay}

-- of a good world a stored entry
entry_sendable : OutputsAreWithin → EpochsAreWithin → (w : World) (e : Entry) → IsGood w → IsStep w e → e.outcome ≡ Stored → IsWithinEvent e.input.event →
    AllByRecursion IsSendableOutput e.outputs
entry_sendable within limits w e good step stored takeable =
    let is : IsOutcome w e.input e.outputs e.failures Stored = subst (IsOutcome w e.input e.outputs e.failures) stored step in
    let kept : IsKeptPart w.plan.conf (next_of w e.input).core.kept =
    subst (λ (v : World). IsKeptPart v.plan.conf v.core.kept) (ap (after_outcome w e.input e.failures) stored) (good_after w e good step).core.kept in
    let numbers : All IsWithinOutput (next_of w e.input).outputs = within w.plan w.core e.input.now e.input.event good.plan good.core takeable in
    let epochs : All ShowsWithin (next_of w e.input).outputs = limits w.plan w.core e.input.now e.input.event good.plan good.core takeable in
    subst (AllByRecursion IsSendableOutput) (sym is.1) (outputs_sendable (next_of w e.input).outputs numbers epochs
    (outputs_writable w.plan w.core e.input.now e.input.event kept numbers))

pub added_sendable : OutputsAreWithin → EpochsAreWithin → (start : World) (v w : View) (input : Input) (outputs : List Output) → Adds start v input Stored outputs w →
    IsWithinEvent input.event → AllByRecursion IsSendableOutput outputs
added_sendable within limits start v w input outputs a takeable =
    let e = a.1 in
    let history : List Entry = v.front ++ a.0 in
    let legal : IsLegal start (history ++ e ∷ []) = subst (IsLegal start) a.2 a.3 in
    let good : IsGood (replay start history) = good_replay start history legal.0 (first_steps start history (e ∷ []) legal.1) in
    let step : IsStep (replay start history) e = last_step start history e legal.1 in
    let event : IsWithinEvent e.input.event = subst (λ (i : Input). IsWithinEvent i.event) (sym a.6) takeable in
    subst (AllByRecursion IsSendableOutput) a.8 (entry_sendable within limits (replay start history) e good step a.7 event)

-- where nothing was shown before, all that is shown is what was added
pub shown_sendable : OutputsAreWithin → EpochsAreWithin → (start : World) (v w : View) (input : Input) (before shown : List Output) → before ≡ [] →
    Adds start v input Stored (drop (length before) shown) w → IsWithinEvent input.event → AllByRecursion IsSendableOutput shown
shown_sendable within limits start v w input before shown none a event =
    added_sendable within limits start v w input shown (subst (λ (b : List Output). Adds start v input Stored (drop (length b) shown) w) none a) event

-- where nothing was shown before, all that a stored turn shows is its own
pub added_shown : (start : World) (v w : View) (input : Input) (before shown : List Output) → before ≡ [] → Adds start v input Stored (drop (length before) shown) w →
    Adds start v input Stored shown w
added_shown start v w input before shown none a = subst (λ (b : List Output). Adds start v input Stored (drop (length b) shown) w) none a

-- so it is at a fault
pub faulted_shown : (start : World) (v w : View) (input : Input) (fault : ActFault) (before shown : List Output) → before ≡ [] →
    Faulted start v input (drop (length before) shown) w fault → Faulted start v input shown w fault
faulted_shown start v w input fault before shown none f = subst (λ (b : List Output). Faulted start v input (drop (length b) shown) w fault) none f

-- each message among outputs may be said, where what stands anywhere among them may
all_said : (said : Message → Type 0) (before outputs : List Output)
    → ((message : Message) (first rest : List Output) → before ++ outputs ≡ first ++ Send message ∷ rest → ∥ said message ∥₁) → AllByRecursion (IsSaid said) outputs
all_said said before [] says = tt
all_said said before (Send message ∷ outputs) says = (
  says message before outputs refl,
  all_said said (before ++ Send message ∷ []) outputs
      (λ m first rest is. says m first rest (sym (append_assoc before (Send message ∷ []) outputs) ∙ is)),
)
all_said said before (Tell note ∷ outputs) says =
    (tt, all_said said (before ++ Tell note ∷ []) outputs (λ m first rest is. says m first rest (sym (append_assoc before (Tell note ∷ []) outputs) ∙ is)))

-- what a stored turn shows is released by its entry
added_said : (said : Message → Type 0) (start : World) (v w : View) (input : Input) (outputs : List Output)
    → ((message : Message) → IsReleased start message → ∥ said message ∥₁) → Adds start v input Stored outputs w → AllByRecursion (IsSaid said) outputs
added_said said start v w input outputs says a =
    let e = a.1 in
    let history : List Entry = v.front ++ a.0 in
    let legal : IsLegal start (history ++ e ∷ []) = subst (IsLegal start) a.2 a.3 in
    all_said said [] outputs (λ m first rest is. says m (record {
      earlier = history;
      entry = e;
      legal = legal;
      stored = a.7;
      before = first;
      after = rest;
      among = a.8 ∙ is;
    }))

-- where nothing was shown before, all that is shown may be said
pub shown_said : (said : Message → Type 0) (start : World) (v w : View) (input : Input) (before shown : List Output)
    → ((message : Message) → IsReleased start message → ∥ said message ∥₁) → before ≡ [] → Adds start v input Stored (drop (length before) shown) w
    → AllByRecursion (IsSaid said) shown
shown_said said start v w input before shown says none a =
    added_said said start v w input shown says (subst (λ (b : List Output). Adds start v input Stored (drop (length b) shown) w) none a)

-- each note among outputs may be told, where what stands anywhere among them may
all_noted : (noted : Note → ℕ → Type 0) (number : ℕ) (before outputs : List Output)
    → ((note : Note) (first rest : List Output) → before ++ outputs ≡ first ++ Tell note ∷ rest → ∥ noted note number ∥₁) → AllByRecursion (MayNote noted number) outputs
all_noted noted number before [] notes = tt
all_noted noted number before (Send message ∷ outputs) notes = (
  tt,
  all_noted noted number (before ++ Send message ∷ []) outputs
      (λ n first rest is. notes n first rest (sym (append_assoc before (Send message ∷ []) outputs) ∙ is)),
)
all_noted noted number before (Tell note ∷ outputs) notes = (
  notes note before outputs refl,
  all_noted noted number (before ++ Tell note ∷ []) outputs
      (λ n first rest is. notes n first rest (sym (append_assoc before (Tell note ∷ []) outputs) ∙ is)),
)

-- so many entries stand before the last one
number_of : (number : ℕ) (front earlier : List Entry) (e : Entry) → number + 1 ≡ length front → front ≡ earlier ++ e ∷ [] → number ≡ length earlier
number_of number front earlier e counted is = omega (arith, counted ∙ (ap (λ (es : List Entry). length es) is ∙ length-append earlier (e ∷ [])))

-- what a stored turn shows is noted by its entry
added_noted : (noted : Note → ℕ → Type 0) (start : World) (v w : View) (input : Input) (outputs : List Output) (number : ℕ)
    → ((note : Note) (n : ℕ) → IsNoted start note n → ∥ noted note n ∥₁) → Adds start v input Stored outputs w → number + 1 ≡ length w.front
    → AllByRecursion (MayNote noted number) outputs
added_noted noted start v w input outputs number notes a counted =
    let e = a.1 in
    let history : List Entry = v.front ++ a.0 in
    let legal : IsLegal start (history ++ e ∷ []) = subst (IsLegal start) a.2 a.3 in
    all_noted noted number [] outputs (λ n first rest is. notes n number (record {
      earlier = history;
      entry = e;
      legal = legal;
      stored = a.7;
      numbered = number_of number w.front history e counted a.2;
      before = first;
      after = rest;
      among = a.8 ∙ is;
    }))

-- where nothing was shown before, all notes that are shown may be told
pub shown_noted : (noted : Note → ℕ → Type 0) (start : World) (v w : View) (input : Input) (before shown : List Output) (number : ℕ)
    → ((note : Note) (n : ℕ) → IsNoted start note n → ∥ noted note n ∥₁) → before ≡ [] → Adds start v input Stored (drop (length before) shown) w
    → number + 1 ≡ length w.front → AllByRecursion (MayNote noted number) shown
shown_noted noted start v w input before shown number notes none a counted =
    added_noted noted start v w input shown number notes (subst (λ (b : List Output). Adds start v input Stored (drop (length b) shown) w) none a) counted
