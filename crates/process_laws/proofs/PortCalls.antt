-- What the calls of a seat took is what the Sentinel may take.
use Rattle.std.proofs.Common.{◌≡◌, ℕ, ◌⊎◌, inl, eqb, Bool, true, false, cond, List, [], ◌∷◌, ◌++◌, refl, sym, subst, eq-eqb}
use Rattle.std.specs.List.{AllByRecursion}
use Rattle.std.proofs.lemmas.List.Elements.{All-head, All-tail}
use Rattle.ballot_law.specs.declared.events.Event.{Event}
use Rattle.ballot_law.specs.declared.events.Input.{Input}
use Rattle.ballot_law.specs.declared.messages.Output.{Output}
use Rattle.sentinel_cell.specs.declared.entry.Entry.{Entry}
use Rattle.sentinel_cell.specs.declared.entry.Outcome.{Outcome}
use Rattle.sentinel_cell.specs.declared.view.View.{View}
use Rattle.sentinel_cell.specs.Calls.{Has, calls_by, AreUnder}
use Rattle.sentinel_cell.specs.Histories.{World}
use Rattle.sentinel_cell.specs.Standing.{Adds}
use Rattle.sentinel_cell.proofs.Fronts.{calls-append}
use Rattle.ballot_law.specs.Worlds.{IsFree}
use Rattle.process_laws.specs.Watched.{IsToldThere}
use Rattle.process_laws.specs.PortCalls.{CallsHearSo}
use Rattle.courteous_sessions.proofs.SeatCalls.{acted_heard, taken_heard}

abbrev MayTake : (told : Event → Type 0) → Event → Type 0
MayTake told event = IsFree event ⊎ ∥ told event ∥₁

abbrev MayTakeAll : (told : Event → Type 0) → List Entry → Type 0
MayTakeAll told entries = AllByRecursion (λ (entry : Entry). MayTake told entry.input.event) entries

abbrev HeardWell : (told : Event → Type 0) → View → Type 0
HeardWell told v = (n : ℕ) → Has n v.numbers → MayTakeAll told (calls_by n v.front)

module _ (told : Event → Type 0) where
  abbrev Well : View → Type 0
  Well v = HeardWell told v

  -- ---- one call

  both : (xs ys : List Entry) → MayTakeAll told xs → MayTakeAll told ys → MayTakeAll told (xs ++ ys)
  both [] ys a b = b
  both (x ∷ xs) ys a b = (a.0, both xs ys a.1 b)

  one_more : (test : Bool) (e : Entry) → MayTake told e.input.event → MayTakeAll told (cond test (e ∷ []) [])
  one_more true e may = (may, tt)
  one_more false e may = tt

  -- nothing new
  pub same_heard : (v w : View) → w.front ≡ v.front → w.numbers ≡ v.numbers → Well v → Well w
  same_heard v w front numbers well n has =
      subst (λ (l : List Entry). MayTakeAll told (calls_by n l)) (sym front) (well n (subst (Has n) numbers has))

  module _ (start : World) where
    pub added_heard : (v w : View) (input : Input) (outcome : Outcome) (outputs : List Output) → MayTake told input.event → Adds start v input outcome outputs w → Well v
        → Well w
    added_heard v w input outcome outputs may a well n has =
        let e = a.1 in
        let own : Has n v.numbers = subst (Has n) a.9 has in
        let last : MayTakeAll told (calls_by n (e ∷ [])) = one_more (eqb n e.number) e (subst (λ (i : Input). MayTake told i.event) (sym a.6) may) in
        let between : MayTakeAll told (calls_by n a.0) = subst (MayTakeAll told) (sym (a.4 n own)) tt in
        let before : MayTakeAll told (calls_by n (v.front ++ a.0)) =
        subst (MayTakeAll told) (sym (calls-append n v.front a.0)) (both (calls_by n v.front) (calls_by n a.0) (well n own) between) in
        let all : MayTakeAll told (calls_by n ((v.front ++ a.0) ++ e ∷ [])) =
        subst (MayTakeAll told) (sym (calls-append n (v.front ++ a.0) (e ∷ []))) (both (calls_by n (v.front ++ a.0)) (calls_by n (e ∷ [])) before last) in
        subst (λ (l : List Entry). MayTakeAll told (calls_by n l)) (sym a.2) all

  -- ---- seats

  -- the rest of a list, whichever number its first call is under
  rest_of : (test : Bool) (e : Entry) (xs : List Entry) → MayTakeAll told (cond test (e ∷ xs) xs) → MayTakeAll told xs
  rest_of true e xs all = all.1
  rest_of false e xs all = all

  whole : (numbers : List ℕ) (history : List Entry) → AreUnder numbers history → ((n : ℕ) → Has n numbers → MayTakeAll told (calls_by n history)) → MayTakeAll told history
  whole numbers [] under each = tt
  whole numbers (e ∷ es) under each =
      let own : Has e.number numbers = All-head (λ (x : Entry). Has x.number numbers) e es under in
      let first : MayTakeAll told (e ∷ calls_by e.number es) =
      subst (λ (b : Bool). MayTakeAll told (cond b (e ∷ calls_by e.number es) (calls_by e.number es))) (eq-eqb e.number e.number refl) (each e.number own) in (
        first.0,
        whole numbers es (All-tail (λ (x : Entry). Has x.number numbers) e es under) (λ n has. rest_of (eqb n e.number) e (calls_by n es) (each n has)),
      )

pub calls_hear_so : CallsHearSo
calls_hear_so = record {
  port = λ stood start now most piece result v w session after t well. taken_heard (Well (IsToldThere stood)) (MayTake (IsToldThere stood)) start (added_heard (IsToldThere stood) start) (same_heard (IsToldThere stood)) (λ n command. inl tt) now most piece result v w session after
      t well;
  turn = λ stood start v w input outputs result may a well. acted_heard (Well (IsToldThere stood)) (MayTake (IsToldThere stood)) start (added_heard (IsToldThere stood) start) (same_heard (IsToldThere stood)) (λ n command. inl tt) v w input outputs result may a well;
  whole = λ stood v under well. whole (IsToldThere stood) v.numbers v.front under well;
}
