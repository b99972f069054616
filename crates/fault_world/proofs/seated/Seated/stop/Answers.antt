use Rattle.std.proofs.Common.{◌≡◌, Bool, true, List, refl, ap, sym, ◌∙◌, subst, rules}
use Rattle.ballot_law.specs.declared.messages.NodeName.{NodeName}
use Rattle.ballot_law.specs.declared.messages.Output.{Output}
use Rattle.ballot_law.specs.declared.steps.KeptText.{KeptText}
use Rattle.ballot_law.specs.declared.steps.KeptText.TheVariants.{New}
use Rattle.ballot_law.specs.Worlds.{Sentinel, State, Pending, Stopped}
use Rattle.boxed_nodes.specs.Images.{Image, OfSentinel, OfOther, state_of, held_of, is_stopped, stopped_image, stopped_sentinel}
use Rattle.boxed_nodes.specs.Moves.{Shows, Stops}
use Rattle.fault_world.specs.Seats.{IsSeat}
use Rattle.fault_world.proofs.seated.Seated.stop.Goals as goal

sentinel_stops : (s : Sentinel) (state : State) (left : KeptText) → ((stopped_sentinel s state left).state ≡ Stopped) × ((stopped_sentinel s state left).held ≡ s.held)
sentinel_stops s Pending New = (refl, refl)
sentinel_stops s _ _ = (refl, refl)

-- a stopped image is stopped, and holds what it held
image_stops : (left : KeptText) (image : Image) → (state_of (stopped_image left image) ≡ Stopped) × (held_of (stopped_image left image) ≡ held_of image)
image_stops left (OfSentinel s) = sentinel_stops s s.state left
image_stops left (OfOther o) = (refl, refl)

-- a member that is marked as stopped stands for what its node, which was stopped, stands for
stopped_seat : {N : Type 0} (name : N → NodeName) (shows : N → Shows) (node lent : N) (left : KeptText) (named own_after : NodeName) (after : Shows) (held : List Output)
    (told : Bool)
    → name node ≡ named → lent ≡ node → Stops left (shows lent) after × (own_after ≡ name lent)
    → Stops left (IsSeat named (name node) (shows node) held told) (IsSeat named own_after after held true)
stopped_seat name shows node lent left named own_after after held told goes_by same stops =
    record {
      each = λ roster image seat.
          let is = image_stops left image in
          record {
            goes_by = stops.1 ∙ ap name same ∙ goes_by;
            shows_it = stops.0.each roster image (subst (λ n. shows n roster image) (sym same) seat.shows_it);
            held_is = is.1 ∙ seat.held_is;
            sendable = seat.sendable;
            held_by = seat.held_by;
            listed = seat.listed;
            told = sym (ap is_stopped is.0);
            quiet = λ ready. cc (is.0, ready);
          };
    }

pub returns-clause-stops : goal.returns-clause-stops
returns-clause-stops g c =
    let self = c.args.self.now in
    stopped_seat (λ v. (goal.Node-dyn g v).name v.1) (λ v. (goal.Node-dyn g v).shows v.1) (self.node.vtable, self.node.value) _ c.args.left self.name _ _ self.outbox.held
    self.stopped c.requires (search rules) c.stop.ensures
