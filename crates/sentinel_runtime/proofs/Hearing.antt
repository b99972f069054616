-- What a call of a running Sentinel left, by whether it goes on.
use Rattle.std.proofs.Common.{inl, inr, ◌≡◌, ◌≢◌, ℕ, suc, ◌+◌, ◌%◌, ◌<◌, ◌≤◌, nat_lt, MatchBool, Bool, true, false, List, [], ◌++◌, append_assoc, append-nil, sym, ap, ◌∙◌, subst, refl, arith}
use Rattle.std.specs.Prelude.{◌⊎◌, ◌↔◌, Option, Some, None, Result, Ok, Err, is_ok, IfSome, IfErr, OnOk, OnErr, IsTrue, IsOk, IsErrOf}
use Rattle.ballot_law.specs.declared.events.Input.{Input}
use Rattle.ballot_law.specs.declared.messages.Message.{Message}
use Rattle.ballot_law.specs.declared.messages.Output.{Output}
use Rattle.ballot_law.specs.Messages.{sent}
use Rattle.ballot_law.specs.declared.events.Event.TheVariants.{Tick}
use Rattle.sentinel_runtime.specs.Running.{input_of}
use Rattle.sentinel_runtime.specs.declared.ticking.TheConstants.{TICK_MS}
use Rattle.sentinel_runtime.specs.Ticking.{Took, TickTook, Ticked, Ticks, TicksAt, IsDueNext}
use Rattle.std.proofs.lemmas.Bool.{false≢true, lt-ltb, le-ltb}
use Rattle.sentinel_cell.specs.declared.entry.Outcome.TheVariants.{Stored}
use Rattle.sentinel_cell.specs.declared.fault.ActFault.{ActFault}
use Rattle.sentinel_cell.specs.declared.fault.ActFault.TheVariants.{NoMemory, Spent, Halted, StoreRefused}
use Rattle.sentinel_cell.specs.declared.view.View.{View}
use Rattle.sentinel_cell.specs.Histories.{World}
use Rattle.sentinel_cell.specs.Standing.{Adds, Faulted, Standing}

-- a fault shows nothing
silent : (start : World) (v w : View) (input : Input) (shown : List Output) (fault : ActFault) → Faulted start v input shown w fault → shown ≡ []
silent start v w input shown NoMemory f = f.0
silent start v w input shown Spent f = f.0
silent start v w input shown Halted f = f.0
silent start v w input shown StoreRefused f = f.0

abbrev is_memory : Result (Unit {0}) ActFault → Bool
is_memory (Err NoMemory) = true
is_memory _ = false

-- a call that wasn't done, not for want of memory
halts : (acted : Result (Unit {0}) ActFault) → is_ok acted ≡ false → is_memory acted ≡ false → IsOk acted ⊎ IsErrOf acted NoMemory → ⊥
halts acted not_done not_memory (inl done) = false≢true (sym not_done ∙ done)
halts acted not_done not_memory (inr memory) = false≢true (sym not_memory ∙ ap is_memory memory)

differs : (fault : ActFault) → is_memory (Err fault) ≡ false → fault ≢ NoMemory
differs fault other same = false≢true (sym other ∙ ap (λ (f : ActFault). is_memory (Err f)) same)

pub took : (start : World) (v w : View) (input : Input) (shown : List Output) (acted : Result (Unit {0}) ActFault) (goes_on : Bool)
    → (IsTrue goes_on ↔ (IsOk acted ⊎ IsErrOf acted NoMemory)) → OnOk acted (Adds start v input Stored shown w) → IfErr acted (λ fault. Faulted start v input shown w fault)
    → Took start v input shown w goes_on
took start v w input shown (Ok x) true on added fault = inl added
took start v w input shown (Ok x) false on added fault = absurd (false≢true (on.1 (inl refl)))
took start v w input shown (Err NoMemory) true on added fault = inr fault
took start v w input shown (Err NoMemory) false on added fault = absurd (false≢true (on.1 (inr refl)))
took start v w input shown (Err Spent) true on added fault = absurd (halts (Err Spent) refl refl (on.0 refl))
took start v w input shown (Err Spent) false on added fault = (Spent, differs Spent refl, fault)
took start v w input shown (Err Halted) true on added fault = absurd (halts (Err Halted) refl refl (on.0 refl))
took start v w input shown (Err Halted) false on added fault = (Halted, differs Halted refl, fault)
took start v w input shown (Err StoreRefused) true on added fault = absurd (halts (Err StoreRefused) refl refl (on.0 refl))
took start v w input shown (Err StoreRefused) false on added fault = (StoreRefused, differs StoreRefused refl, fault)

-- what was shown was handed on, at a fault nothing
pub handed : {O : Type 0} (handed_of : O → Option (List Message)) (old new : O) (start : World) (v w : View) (input : Input) (shown : List Output)
    (acted : Result (Unit {0}) ActFault) → OnOk acted (IfSome (handed_of old) (λ before. handed_of new ≡ Some (before ++ sent shown)))
    → IfErr acted (λ fault. Faulted start v input shown w fault) → OnErr acted (new ≡ old) → IfSome (handed_of old) (λ before. handed_of new ≡ Some (before ++ sent shown))
handed handed_of old new start v w input shown (Ok x) sends fault same = sends
handed handed_of old new start v w input shown (Err f) sends fault same = kept (handed_of old) (ap handed_of same) (silent start v w input shown f fault) where
  kept : (h : Option (List Message)) → handed_of new ≡ h → shown ≡ [] → IfSome h (λ before. handed_of new ≡ Some (before ++ sent shown))
  kept None e none = tt
  kept (Some before) e none = e ∙ ap (λ (l : List Message). Some l) (sym (append-nil before) ∙ ap (λ (o : List Output). before ++ sent o) (sym none))

-- what two calls handed on, one after the other
pub handed_twice : (first second third : Option (List Message)) (said last : List Message) → IfSome first (λ before. second ≡ Some (before ++ said))
    → IfSome second (λ before. third ≡ Some (before ++ last)) → IfSome first (λ before. third ≡ Some (before ++ (said ++ last)))
handed_twice None second third said last one other = tt
handed_twice (Some before) second third said last one other =
    let it : third ≡ Some ((before ++ said) ++ last) = subst (λ (h : Option (List Message)). IfSome h (λ b. third ≡ Some (b ++ last))) one other in
    it ∙ ap (λ (l : List Message). Some l) (append_assoc before said last)

-- nothing is handed on
pub handed_nothing : (first : Option (List Message)) → IfSome first (λ before. first ≡ Some (before ++ []))
handed_nothing None = tt
handed_nothing (Some before) = ap (λ (l : List Message). Some l) (sym (append-nil before))

-- the tick of one master more, after which the Sentinel goes on
pub ticked_more : (start : World) (v u w : View) (m : ℕ) (said last : List Message) → Ticked start v m said u → TickTook start u m last w true
    → Ticked start v (suc m) (said ++ last) w
ticked_more start v u w m said last earlier tick = (said, last, u, earlier, tick, refl)

-- the tick of one master more, which halts it
pub ticked_last : (start : World) (v u w : View) (masters m : ℕ) (said last : List Message) → m < masters → Ticked start v m said u → TickTook start u m last w false
    → Ticks start v masters (said ++ last) w false
ticked_last start v u w masters m said last within earlier tick = (m, said, last, u, within, earlier, tick, refl)

-- one tick, before and after which the seat stays as it is
pub ticked_one : {O : Type 0} (handed_of : O → Option (List Message)) (old new : O) (start : World) (before s t after : Standing) (now random master : ℕ) (shown : List Output)
    (acted : Result (Unit {0}) ActFault) (goes_on : Bool) → s ≡ before → (IsTrue goes_on ↔ (IsOk acted ⊎ IsErrOf acted NoMemory))
    → OnOk acted (Adds start s.view (input_of now (Tick master random)) Stored shown t.view)
    → IfErr acted (λ fault. Faulted start s.view (input_of now (Tick master random)) shown t.view fault)
    → OnOk acted (IfSome (handed_of old) (λ before. handed_of new ≡ Some (before ++ sent shown))) → OnErr acted (new ≡ old) → after ≡ t
    → (said : List Message) × IfSome (handed_of old) (λ before. handed_of new ≡ Some (before ++ said)) × TickTook start before.view master said after.view goes_on
ticked_one handed_of old new start before s t after now random master shown acted goes_on same on added fault sends silent kept =
    let input = input_of now (Tick master random) in
    let one : TickTook start s.view master (sent shown) t.view goes_on =
    (now, random, shown, took start s.view t.view input shown acted goes_on on added fault, refl) in (
      sent shown,
      handed handed_of old new start s.view t.view input shown acted sends fault silent,
      subst (λ (x : Standing). TickTook start x.view master (sent shown) after.view goes_on) same
          (subst (λ (x : Standing). TickTook start s.view master (sent shown) x.view goes_on) (sym kept) one),
    )

-- nothing before the ticks are due
pub tick_waits : (given : Option (List Message)) (due now phase : ℕ) (start : World) (v : View) (masters : ℕ) → now < due
    → (at : ℕ) × (said : List Message) × IfSome given (λ before. given ≡ Some (before ++ said)) × TicksAt due at start v masters said v true × IsDueNext due at phase due
tick_waits given due now phase start v masters early =
    let nothing : List Message = [] in let test : nat_lt now due ≡ true = lt-ltb now due early in (
      now,
      [],
      handed_nothing given,
      subst (λ (b : Bool). MatchBool b ((true ≡ true) × (nothing ≡ []) × (v ≡ v)) (Ticks start v masters [] v true)) (sym test) (refl, refl, refl),
      subst (λ (b : Bool). MatchBool b (due ≡ due) ((later : ℕ) × (later < due) × (due ≤ later + TICK_MS) × (due % TICK_MS ≡ phase % TICK_MS))) (sym test) refl,
    )

-- and all of them then
pub tick_comes : (first second : Option (List Message)) (due now later next phase : ℕ) (start : World) (v w : View) (masters : ℕ) (said : List Message) (goes_on : Bool)
    → due ≤ now → IfSome first (λ before. second ≡ Some (before ++ said)) → Ticks start v masters said w goes_on
    → (later < next) × (next ≤ later + TICK_MS) × (next % TICK_MS ≡ phase % TICK_MS)
    → (at : ℕ) × (said : List Message) × IfSome first (λ before. second ≡ Some (before ++ said)) × TicksAt due at start v masters said w goes_on × IsDueNext due at phase next
tick_comes first second due now later next phase start v w masters said goes_on late sends ticks planned =
    let test : nat_lt now due ≡ false = le-ltb now due late in (
      now,
      said,
      sends,
      subst (λ (b : Bool). MatchBool b ((goes_on ≡ true) × (said ≡ []) × (w ≡ v)) (Ticks start v masters said w goes_on)) (sym test) ticks,
      subst (λ (b : Bool). MatchBool b (next ≡ due) ((later : ℕ) × (later < next) × (next ≤ later + TICK_MS) × (next % TICK_MS ≡ phase % TICK_MS))) (sym test) (later, planned.0, planned.1, planned.2),
    )

-- what the ticks of the masters so far and that of the next one leave and hand on
pub ticks_more : (first second third : Option (List Message)) (start : World) (v u w : View) (m : ℕ) (goes_on : Bool) → goes_on ≡ true
    → (said : List Message) × IfSome first (λ before. second ≡ Some (before ++ said)) × Ticked start v m said u
    → (said : List Message) × IfSome second (λ before. third ≡ Some (before ++ said)) × TickTook start u m said w goes_on
    → (said : List Message) × IfSome first (λ before. third ≡ Some (before ++ said)) × Ticked start v (m + 1) said w
ticks_more first second third start v u w m goes_on is earlier last =
    let next : suc m ≡ m + 1 = omega arith in (
      earlier.0 ++ last.0,
      handed_twice first second third earlier.0 last.0 earlier.1 last.1,
      subst (λ (n : ℕ). Ticked start v n (earlier.0 ++ last.0) w) next
          (ticked_more start v u w m earlier.0 last.0 earlier.2 (subst (λ (b : Bool). TickTook start u m last.0 w b) is last.2)),
    )

-- where that halts the Sentinel, no further master is ticked
pub ticks_stop : (first second third : Option (List Message)) (start : World) (v u w : View) (masters m : ℕ) (goes_on : Bool) → goes_on ≡ false → m < masters
    → (said : List Message) × IfSome first (λ before. second ≡ Some (before ++ said)) × Ticked start v m said u
    → (said : List Message) × IfSome second (λ before. third ≡ Some (before ++ said)) × TickTook start u m said w goes_on
    → (said : List Message) × IfSome first (λ before. third ≡ Some (before ++ said)) × Ticks start v masters said w false
ticks_stop first second third start v u w masters m goes_on is within earlier last = (
  earlier.0 ++ last.0,
  handed_twice first second third earlier.0 last.0 earlier.1 last.1,
  ticked_last start v u w masters m earlier.0 last.0 within earlier.2 (subst (λ (b : Bool). TickTook start u m last.0 w b) is last.2),
)

-- no master was ticked yet
pub ticks_none : (given : Option (List Message)) (start : World) (v : View)
    → (said : List Message) × IfSome given (λ before. given ≡ Some (before ++ said)) × Ticked start v 0 said v
ticks_none given start v = ([], handed_nothing given, (refl, refl))
