-- A member that holds nothing.
use Rattle.std.proofs.Common.{◌≡◌, Bool, List, [], sym, ◌∙◌, subst}
use Rattle.std.specs.List.{AllByRecursion}
use Rattle.ballot_law.specs.declared.messages.NodeName.{NodeName}
use Rattle.ballot_law.specs.declared.messages.NodeName.TheVariants.{SentinelAt, StoreAt, ClientAt, PortAt}
use Rattle.ballot_law.specs.declared.messages.Output.{Output}
use Rattle.ballot_law.specs.Rosters.{Roster}
use Rattle.boxed_nodes.specs.Images.{Image, state_of, held_of, is_stopped}
use Rattle.boxed_nodes.specs.Moves.{Shows}
use Rattle.boxed_nodes.specs.Sendable.{IsHeldBy, AreListed, IsSendableOutput}
use Rattle.fault_world.specs.Seats.{IsSeat}

holds_nothing : (name : NodeName) → IsHeldBy name []
holds_nothing (SentinelAt i) = tt
holds_nothing (StoreAt k) = tt
holds_nothing (ClientAt k) = tt
holds_nothing (PortAt k) = tt

lists_nothing : (roster : Roster) (name : NodeName) → AreListed roster name []
lists_nothing roster (SentinelAt i) = tt
lists_nothing roster (StoreAt k) = tt
lists_nothing roster (ClientAt k) = tt
lists_nothing roster (PortAt k) = tt

-- a member that holds nothing stands for an image of its node that holds nothing
pub empty_seat : (named own : NodeName) (shows : Shows) (held : List Output) (stopped : Bool) (roster : Roster) (image : Image)
    → own ≡ named → shows roster image → held_of image ≡ [] → held ≡ [] → stopped ≡ is_stopped (state_of image)
    → IsSeat named own shows held stopped roster image
empty_seat named own shows held stopped roster image goes_by shown nothing empty told =
    record {
      goes_by = goes_by;
      shows_it = shown;
      held_is = nothing ∙ sym empty;
      sendable = subst (AllByRecursion IsSendableOutput) (sym empty) tt;
      held_by = subst (IsHeldBy named) (sym empty) (holds_nothing named);
      listed = subst (AreListed roster named) (sym empty) (lists_nothing roster named);
      told = told;
      quiet = λ _. empty;
    }
