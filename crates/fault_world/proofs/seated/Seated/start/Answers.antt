use Rattle.std.proofs.Common.{◌≡◌, Bool, true, false, true≢false, List, [], Result, Ok, Err, refl, ap, sym, ◌∙◌, subst, rules}
use Rattle.std.specs.Result.{is_err, OnOk, OnErr}
use Rattle.ballot_law.specs.declared.messages.NodeName.{NodeName}
use Rattle.ballot_law.specs.declared.messages.Output.{Output}
use Rattle.ballot_law.specs.Rosters.{Roster}
use Rattle.ballot_law.specs.Worlds.{State, Ready, Pending, Stored, Halted, Stopped}
use Rattle.boxed_nodes.specs.Images.{Image, OfSentinel, OfOther, state_of, held_of, is_stopped, started_image}
use Rattle.boxed_nodes.specs.Moves.{Shows, Starts, Stays, IsNamed}
use Rattle.fault_world.specs.Seats.{IsSeat, SeatStarts}
use Rattle.fault_world.proofs.Holding.{empty_seat}
use Rattle.fault_world.proofs.seated.Seated.start.Goals as goal

no_error : {T E : Type 0} (result : Result T E) (P : Type 0) → is_err result ≡ false → OnOk result P → P
no_error (Ok x) P ok h = h
no_error (Err e) P ok h = absurd (true≢false ok)

told_stopped : (state : State) → is_stopped state ≡ true → state ≡ Stopped
told_stopped Ready told = absurd (true≢false (sym told))
told_stopped Pending told = absurd (true≢false (sym told))
told_stopped Stored told = absurd (true≢false (sym told))
told_stopped Halted told = absurd (true≢false (sym told))
told_stopped Stopped told = refl

-- a started image runs, and holds nothing
image_starts : (roster : Roster) (image : Image) → (is_stopped (state_of (started_image roster image)) ≡ false) × (held_of (started_image roster image) ≡ [])
image_starts roster (OfSentinel s) = (refl, refl)
image_starts roster (OfOther o) = (refl, refl)

-- a member that was marked as stopped, whose node was started, stands for what the node stands for, where it holds nothing
started_seat : {N E : Type 0} (name : N → NodeName) (shows : N → Shows) (node lent : N) (result : Result (Unit {0}) E) (named own_after : NodeName) (after : Shows)
    (held held_after : List Output) (told : Bool)
    → told ≡ true → is_err result ≡ false → lent ≡ node
    → OnOk result (Starts (shows lent) after) × (OnErr result (Stays (shows lent) after) × IsNamed (shows lent) (name lent) own_after)
    → held_after ≡ []
    → SeatStarts (IsSeat named (name node) (shows node) held told) (IsSeat named own_after after held_after false)
started_seat name shows node lent result named own_after after held held_after told was_told ok same start empty =
    record {
      stopped = λ roster image seat is.
          let shown = subst (λ n. shows n roster image) (sym same) seat.shows_it in
          let starts = image_starts roster image in
          empty_seat named own_after after held_after false roster (started_image roster image) ((start.1).1.each roster image shown ∙ ap name same ∙ seat.goes_by)
          ((no_error result (Starts (shows lent) after) ok start.0).each roster image shown is) starts.1 empty (sym starts.0);
      other = λ roster image seat not. absurd (not (told_stopped (state_of image) (sym seat.told ∙ was_told)));
    }

pub returns-clause-ok : goal.returns-clause-ok
returns-clause-ok g c =
    let self = c.args.self.now in
    started_seat (λ v. (goal.Node-dyn g v).name v.1) (λ v. (goal.Node-dyn g v).shows v.1) (self.node.vtable, self.node.value) _ c.start.result self.name _ _ self.outbox.held _
    self.stopped
    c.if-not-self.false (sym c.is_err.ensures.value ∙ c.if-is_err.false) (search rules) c.start.ensures c.drop_held.ensures.held
