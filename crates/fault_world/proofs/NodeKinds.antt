-- Which kind of node has an image after a call, and in which state a node is.
use Rattle.std.proofs.Common.{List, sym, subst}
use Rattle.ballot_law.specs.declared.events.Event.{Event}
use Rattle.ballot_law.specs.declared.messages.NodeName.{NodeName}
use Rattle.ballot_law.specs.declared.messages.NodeName.TheVariants.{SentinelAt, StoreAt, ClientAt, PortAt}
use Rattle.ballot_law.specs.declared.messages.Output.{Output}
use Rattle.ballot_law.specs.declared.steps.KeptText.{KeptText}
use Rattle.ballot_law.specs.Rosters.{Roster}
use Rattle.ballot_law.specs.Worlds.{World, IsNode}
use Rattle.boxed_nodes.specs.Images.{Image, OfSentinel, OfOther, IsOfKind, TakenTo, image_at, stored_image, refused_image, released_image, stopped_image, started_image}

-- images of the right kind
pub kind_at : (w : World) (name : NodeName) → IsNode w name → IsOfKind name (image_at w name)
kind_at w (SentinelAt i) node = tt
kind_at w (StoreAt k) node = tt
kind_at w (ClientAt k) node = tt
kind_at w (PortAt k) node = absurd node

pub kind_stored : (name : NodeName) (image : Image) → IsOfKind name image → IsOfKind name (stored_image image)
kind_stored (SentinelAt i) (OfSentinel s) k = tt
kind_stored (StoreAt i) (OfOther o) k = tt
kind_stored (ClientAt i) (OfOther o) k = tt
kind_stored (SentinelAt i) (OfOther o) k = absurd k
kind_stored (StoreAt i) (OfSentinel s) k = absurd k
kind_stored (ClientAt i) (OfSentinel s) k = absurd k
kind_stored (PortAt i) image k = absurd k

pub kind_refused : (left : KeptText) (name : NodeName) (image : Image) → IsOfKind name image → IsOfKind name (refused_image left image)
kind_refused left (SentinelAt i) (OfSentinel s) k = tt
kind_refused left (StoreAt i) (OfOther o) k = tt
kind_refused left (ClientAt i) (OfOther o) k = tt
kind_refused left (SentinelAt i) (OfOther o) k = absurd k
kind_refused left (StoreAt i) (OfSentinel s) k = absurd k
kind_refused left (ClientAt i) (OfSentinel s) k = absurd k
kind_refused left (PortAt i) image k = absurd k

pub kind_stopped : (left : KeptText) (name : NodeName) (image : Image) → IsOfKind name image → IsOfKind name (stopped_image left image)
kind_stopped left (SentinelAt i) (OfSentinel s) k = tt
kind_stopped left (StoreAt i) (OfOther o) k = tt
kind_stopped left (ClientAt i) (OfOther o) k = tt
kind_stopped left (SentinelAt i) (OfOther o) k = absurd k
kind_stopped left (StoreAt i) (OfSentinel s) k = absurd k
kind_stopped left (ClientAt i) (OfSentinel s) k = absurd k
kind_stopped left (PortAt i) image k = absurd k

pub kind_started : (roster : Roster) (name : NodeName) (image : Image) → IsOfKind name image → IsOfKind name (started_image roster image)
kind_started roster (SentinelAt i) (OfSentinel s) k = tt
kind_started roster (StoreAt i) (OfOther o) k = tt
kind_started roster (ClientAt i) (OfOther o) k = tt
kind_started roster (SentinelAt i) (OfOther o) k = absurd k
kind_started roster (StoreAt i) (OfSentinel s) k = absurd k
kind_started roster (ClientAt i) (OfSentinel s) k = absurd k
kind_started roster (PortAt i) image k = absurd k

pub kind_released : (name : NodeName) (image : Image) → IsOfKind name image → IsOfKind name (released_image image)
kind_released (SentinelAt i) (OfSentinel s) k = tt
kind_released (StoreAt i) (OfOther o) k = tt
kind_released (ClientAt i) (OfOther o) k = tt
kind_released (SentinelAt i) (OfOther o) k = absurd k
kind_released (StoreAt i) (OfSentinel s) k = absurd k
kind_released (ClientAt i) (OfSentinel s) k = absurd k
kind_released (PortAt i) image k = absurd k

pub kind_taken : (roster : Roster) (name : NodeName) (event : Event) (image : Image) (held : List Output) (after : Image) → TakenTo roster name event image held after →
    IsOfKind name after
kind_taken roster (SentinelAt i) event (OfSentinel s) held after t = subst (IsOfKind (SentinelAt i)) (sym t.3) tt
kind_taken roster (StoreAt k) event (OfOther o) held after t = subst (IsOfKind (StoreAt k)) (sym t.1) tt
kind_taken roster (ClientAt k) event (OfOther o) held after t = subst (IsOfKind (ClientAt k)) (sym t.1) tt
kind_taken roster (SentinelAt i) event (OfOther o) held after t = absurd t
kind_taken roster (StoreAt k) event (OfSentinel s) held after t = absurd t
kind_taken roster (ClientAt k) event (OfSentinel s) held after t = absurd t
kind_taken roster (PortAt k) event image held after t = absurd t
