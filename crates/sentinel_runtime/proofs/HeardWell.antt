-- What the calls of a seat took is what the Sentinel may take.
use Rattle.std.proofs.Common.{◌≡◌, ℕ, ◌⊎◌, inl, inr, ⊎_elim, eqb, Bool, true, false, cond, List, [], ◌∷◌, ◌++◌, refl, sym, ap, ◌∙◌, subst, eq-eqb}
use Rattle.std.specs.Prelude.{◌≤◌, ◌+◌, Option, Result, Ok, Err, IfSome, IfOk, OnOk}
use Rattle.std.specs.Result.{result_ok}
use Rattle.std.proofs.lemmas.List.Elements.{All-head, All-tail}
use mathlib.Core.Logic.{∥∥₁_map, ∥∥₁_map₂}
use Rattle.ballot_law.specs.declared.events.Event.{Event}
use Rattle.ballot_law.specs.declared.events.Input.{Input}
use Rattle.ballot_law.specs.declared.messages.Output.{Output}
use Rattle.courteous_sessions.specs.Clients.{TakesSome}
use Rattle.courteous_sessions.proofs.SeatCalls.{acted_heard, taken_heard}
use Rattle.courteous_sessions.specs.declared.client_session.ClientSession.{ClientSession}
use Rattle.port_sessions.specs.declared.limit.Reach.{Reach}
use Rattle.sentinel_cell.specs.declared.entry.Entry.{Entry}
use Rattle.sentinel_cell.specs.declared.entry.Outcome.{Outcome}
use Rattle.sentinel_cell.specs.declared.fault.ActFault.{ActFault}
use Rattle.sentinel_cell.specs.declared.fault.Reply.{Reply}
use Rattle.sentinel_cell.specs.declared.view.View.{View}
use Rattle.sentinel_cell.specs.declared.keeper.Keeper.{Keeper}
use Rattle.sentinel_cell.specs.Calls.{Has, calls_by, AreUnder, AreOf}
use Rattle.sentinel_cell.specs.Histories.{World, IsLegal, IsLeft, replay, stored_at}
use Rattle.sentinel_cell.specs.Standing.{Adds, Acted}
use Rattle.sentinel_cell.proofs.Fronts.{calls-append}
use Rattle.sentinel_core.specs.declared.serving.fault.ServeFault.{ServeFault}
use Rattle.sentinel_runtime.specs.Hearing.{MayTake, MayTakeAll, HeardWell}
use Rattle.sentinel_runtime.specs.Running.{IsLeftByTurns}

module _ (told : Event → Type 0) where
  abbrev Well : View → Type 0
  Well v = HeardWell told v

  -- ---- one call

  both : (xs ys : List Entry) → MayTakeAll told xs → MayTakeAll told ys → MayTakeAll told (xs ++ ys)
  both [] ys a b = b
  both (x ∷ xs) ys a b = (a.0, both xs ys a.1 b)

  one_more : (test : Bool) (e : Entry) → MayTake told e.input.event → MayTakeAll told (cond test (e ∷ []) [])
  one_more true e may = (may, tt)
  one_more false e may = tt

  -- nothing new
  pub same_heard : (v w : View) → w.front ≡ v.front → w.numbers ≡ v.numbers → Well v → Well w
  same_heard v w front numbers well n has =
      subst (λ (l : List Entry). MayTakeAll told (calls_by n l)) (sym front) (well n (subst (Has n) numbers has))

  module _ (start : World) where
    pub added_heard : (v w : View) (input : Input) (outcome : Outcome) (outputs : List Output) → MayTake told input.event → Adds start v input outcome outputs w → Well v
        → Well w
    added_heard v w input outcome outputs may a well n has =
        let e = a.1 in
        let own : Has n v.numbers = subst (Has n) a.9 has in
        let last : MayTakeAll told (calls_by n (e ∷ [])) = one_more (eqb n e.number) e (subst (λ (i : Input). MayTake told i.event) (sym a.6) may) in
        let between : MayTakeAll told (calls_by n a.0) = subst (MayTakeAll told) (sym (a.4 n own)) tt in
        let before : MayTakeAll told (calls_by n (v.front ++ a.0)) =
        subst (MayTakeAll told) (sym (calls-append n v.front a.0)) (both (calls_by n v.front) (calls_by n a.0) (well n own) between) in
        let all : MayTakeAll told (calls_by n ((v.front ++ a.0) ++ e ∷ [])) =
        subst (MayTakeAll told) (sym (calls-append n (v.front ++ a.0) (e ∷ []))) (both (calls_by n (v.front ++ a.0)) (calls_by n (e ∷ [])) before last) in
        subst (λ (l : List Entry). MayTakeAll told (calls_by n l)) (sym a.2) all

  -- ---- what a thread knows of its seat

  pub turned_heard : (start : World) (v w : View) (input : Input) (outputs : List Output) (result : Result Reply ActFault) → MayTake told input.event
      → Acted start v input outputs w result → ∥ Well v ∥₁ → ∥ Well w ∥₁
  turned_heard start v w input outputs result may a well =
      ∥∥₁_map well (λ each. acted_heard Well (MayTake told) start (added_heard start) same_heard (λ now command. inl tt) v w input outputs result may a each)

  pub received_heard : (start : World) (now most : ℕ) (piece : List ℕ) (result : Result Reach ServeFault) (v w : View) (session after : ClientSession)
      → TakesSome start now most piece result v w session after → ∥ Well v ∥₁ → ∥ Well w ∥₁
  received_heard start now most piece result v w session after t well =
      ∥∥₁_map well (λ each. taken_heard Well (MayTake told) start (added_heard start) same_heard (λ n command. inl tt) now most piece result v w session after t each)

  -- ---- seats

  -- one that is cut keeps its numbers
  pub cut_first : (v w : View) → w.front ≡ v.front → w.numbers ≡ v.numbers → ∥ Well v ∥₁ → ∥ Well w ∥₁
  cut_first v w front numbers well = ∥∥₁_map well (λ each. same_heard v w front numbers each)

  -- one under whose numbers no call was made
  pub none_heard : (v : View) → ((n : ℕ) → Has n v.numbers → calls_by n v.front ≡ []) → Well v
  none_heard v none n has = subst (MayTakeAll told) (sym (none n has)) tt

  -- the other one has a number that no call is under
  pub cut_second : (v u w : View) → w.front ≡ v.front
      → (n : ℕ) × (w.numbers ≡ n ∷ []) × (¬ Has n v.numbers) × (calls_by n v.front ≡ []) × (v.given ≤ n) × (u.given ≡ n + 1) × (w.given ≡ n + 1) → ∥ Well w ∥₁
  cut_second v u w front number = ∣ none_heard w (λ n has. none n (subst (Has n) number.1 has)) ∣₁ where
    none : (n : ℕ) → Has n (number.0 ∷ []) → calls_by n w.front ≡ []
    none n has =
        elim has [
          | inl same ↦ ap (calls_by n) front ∙ subst (λ (k : ℕ). calls_by k v.front ≡ []) (sym same) number.3
          | inr none_left ↦ absurd none_left
        ]

  has_either : (n : ℕ) (xs ys : List ℕ) → Has n (xs ++ ys) → Has n xs ⊎ Has n ys
  has_either n [] ys h = inr h
  has_either n (x ∷ xs) ys h =
      ⊎_elim (λ (e : n ≡ x). inl (inl e))
      (λ (t : Has n (xs ++ ys)). ⊎_elim (λ (p : Has n xs). inl (inr p)) (λ (p : Has n ys). inr p) (has_either n xs ys t)) h

  joined : (v w u : View)
      → ((n : ℕ) → (Has n v.numbers → calls_by n u.front ≡ calls_by n v.front) × (Has n w.numbers → calls_by n u.front ≡ calls_by n w.front))
      → u.numbers ≡ v.numbers ++ w.numbers → Well v → Well w → Well u
  joined v w u calls numbers first second n has =
      elim (has_either n v.numbers w.numbers (subst (Has n) numbers has)) [
        | inl own ↦ subst (MayTakeAll told) (sym ((calls n).0 own)) (first n own)
        | inr own ↦ subst (MayTakeAll told) (sym ((calls n).1 own)) (second n own)
      ]

  pub joined_heard : (v w u : View)
      → ((n : ℕ) → (Has n v.numbers → calls_by n u.front ≡ calls_by n v.front) × (Has n w.numbers → calls_by n u.front ≡ calls_by n w.front))
      → u.numbers ≡ v.numbers ++ w.numbers → ∥ Well v ∥₁ → ∥ Well w ∥₁ → ∥ Well u ∥₁
  joined_heard v w u calls numbers first second = ∥∥₁_map₂ first second (λ a b. joined v w u calls numbers a b)

  -- the rest of a list, whichever number its first call is under
  rest_of : (test : Bool) (e : Entry) (xs : List Entry) → MayTakeAll told (cond test (e ∷ xs) xs) → MayTakeAll told xs
  rest_of true e xs all = all.1
  rest_of false e xs all = all

  whole : (numbers : List ℕ) (history : List Entry) → AreUnder numbers history → ((n : ℕ) → Has n numbers → MayTakeAll told (calls_by n history)) → MayTakeAll told history
  whole numbers [] under each = tt
  whole numbers (e ∷ es) under each =
      let own : Has e.number numbers = All-head (λ (x : Entry). Has x.number numbers) e es under in
      let first : MayTakeAll told (e ∷ calls_by e.number es) =
      subst (λ (b : Bool). MayTakeAll told (cond b (e ∷ calls_by e.number es) (calls_by e.number es))) (eq-eqb e.number e.number refl) (each e.number own) in (
        first.0,
        whole numbers es (All-tail (λ (x : Entry). Has x.number numbers) e es under) (λ n has. rest_of (eqb n e.number) e (calls_by n es) (each n has)),
      )

  -- the seat of all numbers has seen what all of them took
  pub whole_heard : (v : View) → AreUnder v.numbers v.front → ∥ Well v ∥₁ → ∥ MayTakeAll told v.front ∥₁
  whole_heard v under well = ∥∥₁_map well (λ each. whole v.numbers v.front under each)

-- nothing was called by its first seat
pub begins_well : (told : Event → Type 0) (v : View) → v.front ≡ [] → ∥ HeardWell told v ∥₁
begins_well told v none = ∣ none_heard told v (λ n has. ap (calls_by n) none) ∣₁

-- what the seat of all numbers leaves, where it closes its cell
pub left_well : {S E : Type 0} (told : Event → Type 0) (text : S → Option (List ℕ)) (failures : S → ℕ) (start : World) (v : View) (result : Result (Keeper S) E)
    → IfOk result (λ k. IsLegal start v.front × IsLeft text failures (replay start v.front) k × AreOf (stored_at start) v.answers v.front)
    → OnOk result (AreUnder v.numbers v.front) → ∥ HeardWell told v ∥₁ → IfSome (result_ok result) (IsLeftByTurns told text failures start)
left_well told text failures start v (Ok keeper) ok under heard = (v.front, ok.0, ok.1, whole_heard told v under heard)
left_well told text failures start v (Err back) ok under heard = tt
