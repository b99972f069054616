use Rattle.std.proofs.Common.{◌≡◌, Bool, true, false, true≢false, List, [], ◌++◌, Result, Ok, Err, refl, ap, sym, ◌∙◌, subst, rules}
use Rattle.std.specs.Result.{is_ok, OnOk}
use Rattle.ballot_law.specs.declared.messages.NodeName.{NodeName}
use Rattle.ballot_law.specs.declared.messages.Output.{Output}
use Rattle.sentinel_outbox.specs.Outboxes.{Outputs}
use Rattle.sentinel_outbox.specs.declared.faults.ReleaseFault.{ReleaseFault}
use Rattle.boxed_nodes.specs.Images.{Image, OfSentinel, OfOther, state_of, held_of, is_stopped, released_image}
use Rattle.boxed_nodes.specs.Moves.{Shows, Releases}
use Rattle.fault_world.specs.Seats.{IsSeat, SeatReleases}
use Rattle.fault_world.proofs.Holding.{empty_seat}
use Rattle.fault_world.proofs.seated.Seated.release.Goals as goal

no_error : {T E : Type 0} (result : Result T E) (P : Type 0) → is_ok result ≡ true → OnOk result P → P
no_error (Ok x) P ok h = h
no_error (Err e) P ok h = absurd (true≢false (sym ok))

-- a released image isn't stopped, and holds nothing
image_releases : (image : Image) → (is_stopped (state_of (released_image image)) ≡ false) × (held_of (released_image image) ≡ [])
image_releases (OfSentinel s) = (refl, refl)
image_releases (OfOther o) = (refl, refl)

-- a member whose node was released stands for what the node stands for, where it then holds nothing, and what it held joined the list
released_seat : {N : Type 0} (name : N → NodeName) (shows : N → Shows) (node lent : N) (result : Result (Unit {0}) ReleaseFault) (named own_after : NodeName) (after : Shows)
    (held held_after list list_after : List Output) (told : Bool)
    → is_ok result ≡ true → lent ≡ node → Releases result (shows lent) after → own_after ≡ name lent → held_after ≡ [] → list_after ≡ list ++ held
    → SeatReleases list list_after (IsSeat named (name node) (shows node) held told) (IsSeat named own_after after held_after told)
released_seat name shows node lent result named own_after after held held_after list list_after told ok same release same_name empty joined =
    record {
      stored = λ roster image seat is.
          let shown = (release.stored roster image (subst (λ n. shows n roster image) (sym same) seat.shows_it) is).1 in
          let releases = image_releases image in (
            empty_seat named own_after after held_after told roster (released_image image) (same_name ∙ ap name same ∙ seat.goes_by) shown releases.1 empty
                (seat.told ∙ ap is_stopped is ∙ sym releases.0),
            joined ∙ ap (λ outputs. list ++ outputs) (sym seat.held_is),
          );
      other = λ roster image seat not.
          let refused = (release.unstored roster image (subst (λ n. shows n roster image) (sym same) seat.shows_it) not).0 in
          absurd (true≢false (sym ok ∙ ap is_ok refused));
    }

pub returns-then-is_ok-clause-releases : goal.returns-then-is_ok-clause-releases
returns-then-is_ok-clause-releases g c =
    let self = c.args.self.now in
    let list = c.args.released.now.items in
    let ok : is_ok c.release.result ≡ true = sym c.is_ok.ensures.value ∙ c.if-is_ok.true in
    let release = c.release.ensures in
    let shown : c.release.new.outbox.shown ≡ self.outbox.held = no_error c.release.result _ ok release.1.0 ∙ ap (λ outputs. outputs ++ self.outbox.held) self.quiet in
    let empty : c.release.new.outbox.held ≡ [] = no_error c.release.result _ ok release.1.1.0 in
    released_seat (λ v. (goal.Node-dyn g v).name v.1) (λ v. (goal.Node-dyn g v).shows v.1) (self.node.vtable, self.node.value) _ c.release.result self.name _ _ self.outbox.held _
    list _ self.stopped ok (search rules) release.0 release.1.1.1.1
    (ap (λ (outbox : Outputs). outbox.held) c.move_shown.ensures.left ∙ empty) (c.move_shown.ensures.moved ∙ ap (λ outputs. list ++ outputs) shown)
