-- A take of a data node, as the model allows it.
use Rattle.std.proofs.Common.{◌≡◌, ℕ, List, refl, sym, subst}
use Rattle.std.specs.List.{All}
use Rattle.ballot_law.specs.declared.events.Event.{Event}
use Rattle.ballot_law.specs.declared.messages.NodeName.TheVariants.{StoreAt}
use Rattle.ballot_law.specs.declared.messages.Output.{Output}
use Rattle.ballot_law.specs.Rosters.{Roster}
use Rattle.ballot_law.specs.Worlds.{Pending, IsPassable}
use Rattle.boxed_nodes.specs.Images.{Image, OfSentinel, OfOther}
use Rattle.boxed_nodes.specs.Moves.{Taken, Takes}
use Rattle.boxed_nodes.specs.declared.turn.Turn.{Turn}
use Rattle.boxed_nodes.specs.declared.turn.Turn.TheVariants as turn
use Rattle.boxed_nodes.specs.Turns.{IsImageAt, shown_at}

taken_at : (roster : Roster) (k : ℕ) (event : Event) (held : List Output) (image : Image) → All (IsPassable (StoreAt k) event) held → IsImageAt turn.Ready image →
    Taken roster (StoreAt k) event image held (IsImageAt turn.Pending)
taken_at roster k event held (OfOther o) all h = record { ready = h; after = OfOther (record { state = Pending; held = held }); moved = (all, refl); listed = tt; shows = refl }
taken_at roster k event held (OfSentinel s) all h = absurd h

pub store_takes : (k : ℕ) (event : Event) (held : List Output) (old new : Turn) → old ≡ turn.Ready → new ≡ turn.Pending → All (IsPassable (StoreAt k) event) held →
    Takes (StoreAt k) event held (shown_at old) (shown_at new)
store_takes k event held old new was is all =
    subst (λ t. Takes (StoreAt k) event held (shown_at t) (shown_at new)) (sym was)
    (subst (λ t. Takes (StoreAt k) event held (shown_at turn.Ready) (shown_at t)) (sym is)
    (record { each = λ roster image h. taken_at roster k event held image all h }))
