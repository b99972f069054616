use Rattle.std.proofs.Common.{◌≡◌, ◌≢◌, Bool, true, false, ℕ, List, [], cond, Option, None, Err, refl, ap, sym, ◌∙◌, subst, rules}
use Rattle.std.specs.Result.{is_ok}
use Rattle.ballot_law.specs.declared.messages.NodeName.{NodeName}
use Rattle.ballot_law.specs.declared.messages.Output.{Output}
use Rattle.ballot_law.specs.declared.steps.KeptText.{KeptText}
use Rattle.ballot_law.specs.declared.steps.KeptText.TheVariants.{Old, New}
use Rattle.ballot_law.specs.Worlds.{Sentinel, Ready}
use Rattle.sentinel_outbox.specs.declared.faults.StoreFault.{StoreFault}
use Rattle.boxed_nodes.specs.declared.calls.HowStored.{HowStored}
use Rattle.boxed_nodes.specs.declared.calls.HowStored.TheVariants.{Done, RefusedOld, RefusedNew}
use Rattle.boxed_nodes.specs.Images.{Image, OfSentinel, OfOther, state_of, held_of, is_stopped, after_store, wins_of, refused_sentinel, refused_image}
use Rattle.boxed_nodes.specs.Moves.{Shows, Stores, wins_told, IsWonIn}
use Rattle.fault_world.specs.Seats.{IsSeat, SeatStores}
use Rattle.fault_world.proofs.seated.Seated.store.Goals as goal

-- what is held stays, and the image is then neither stopped nor ready
abbrev StoresOnly : Image → Image → Type 0
StoresOnly image after = (held_of after ≡ held_of image) × (is_stopped (state_of after) ≡ false) × (state_of after ≢ Ready)

sentinel_refused : (s : Sentinel) (must_store : Bool) (left : KeptText) → StoresOnly (OfSentinel s) (OfSentinel (refused_sentinel s must_store left))
sentinel_refused s false left = (refl, refl, λ e. cc)
sentinel_refused s true Old = (refl, refl, λ e. cc)
sentinel_refused s true New = (refl, refl, λ e. cc)

image_refused : (left : KeptText) (image : Image) → StoresOnly image (refused_image left image)
image_refused left (OfSentinel s) = sentinel_refused s s.must_store left
image_refused left (OfOther o) = (refl, refl, λ e. cc)

image_stores : (how : HowStored) (image : Image) → StoresOnly image (after_store how image)
image_stores Done (OfSentinel s) = (refl, refl, λ e. cc)
image_stores Done (OfOther o) = (refl, refl, λ e. cc)
image_stores RefusedOld image = image_refused Old image
image_stores RefusedNew image = image_refused New image

-- a member whose node's store ended in an error stands for what the node stands for, and no election is told
refused_seat : {N : Type 0} (name : N → NodeName) (shows : N → Shows) (node lent : N) (how : HowStored) (fault : StoreFault) (won : Option (ℕ × ℕ)) (named own_after : NodeName)
    (after : Shows) (held : List Output) (told : Bool)
    → lent ≡ node → Stores how (Err fault) (shows lent) after × (own_after ≡ name lent) → won ≡ None
    → SeatStores how won (IsSeat named (name node) (shows node) held told) (IsSeat named own_after after held told)
refused_seat name shows node lent how fault won named own_after after held told same store none =
    record {
      pending = λ roster image seat is.
          let stored = store.0.pending roster image (subst (λ n. shows n roster image) (sym same) seat.shows_it) is in
          let only = image_stores how image in (
            record {
              goes_by = store.1 ∙ ap name same ∙ seat.goes_by;
              shows_it = stored.1;
              held_is = only.0 ∙ seat.held_is;
              sendable = seat.sendable;
              held_by = seat.held_by;
              listed = seat.listed;
              told = seat.told ∙ ap is_stopped is ∙ sym only.1;
              quiet = λ ready. absurd (only.2 ready);
            },
            ap wins_told none ∙ ap (λ answer. cond (is_ok answer) (wins_of image) []) stored.0,
            subst (λ election. IsWonIn roster election) (sym none) tt,
          );
      other = λ roster image seat not.
          let stored = store.0.nothing roster image (subst (λ n. shows n roster image) (sym same) seat.shows_it) not in (
            record {
              goes_by = store.1 ∙ ap name same ∙ seat.goes_by;
              shows_it = stored.1;
              held_is = seat.held_is;
              sendable = seat.sendable;
              held_by = seat.held_by;
              listed = seat.listed;
              told = seat.told;
              quiet = seat.quiet;
            },
            none,
          );
    }

pub returns-in-Err-clause-stores : goal.returns-in-Err-clause-stores
returns-in-Err-clause-stores g c =
    let self = c.args.self.now in
    let won : Option (ℕ × ℕ) = None in
    let no_win : won ≡ None = refl in
    refused_seat (λ v. (goal.Node-dyn g v).name v.1) (λ v. (goal.Node-dyn g v).shows v.1) (self.node.vtable, self.node.value) _ c.args.how c.in-Err.field-0 _ self.name _ _
    self.outbox.held self.stopped (search rules) c.in-Err.ensures no_win
