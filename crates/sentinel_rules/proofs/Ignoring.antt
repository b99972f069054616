-- An input that isn't noticed changes nothing.
use Rattle.std.proofs.Common.{◌≡◌, ℕ, Bool, true, false, Option, Some, None, refl}
use Rattle.std.specs.Prelude.{not, ◌&&◌, ◌==◌, nat_lt, is_some, Result, Ok, Err, if◌then◌else◌}
use Rattle.ballot_law.specs.declared.addresses.Addr.{Addr}
use Rattle.ballot_law.specs.declared.addresses.RunId.{RunId}
use Rattle.ballot_law.specs.declared.events.Event.TheVariants.{Tick, Command, Answered, Pinged, InfoRead, HelloRead, Disconnected, Become, Handed, Refused}
use Rattle.ballot_law.specs.declared.messages.NodeName.{NodeName}
use Rattle.ballot_law.specs.declared.messages.NodeName.TheVariants.{SentinelAt, StoreAt, ClientAt, PortAt}
use Rattle.ballot_law.specs.declared.replies.Hello.{Hello}
use Rattle.ballot_law.specs.declared.replies.Info.{Info}
use Rattle.ballot_law.specs.declared.replies.PingReply.{PingReply}
use Rattle.ballot_law.specs.Clocks.{clock}
use Rattle.ballot_law.specs.Rosters.{master_named}
use Rattle.node_texts.specs.declared.faults.TextFault.{TextFault}
use Rattle.node_texts.specs.Hellos.{hello_of}
use Rattle.node_texts.specs.Infos.{info_of}
use Rattle.node_texts.specs.Announced.{is_announced}
use Rattle.ballot_law.specs.declared.node_places.NodePlace.{NodePlace}
use Rattle.sentinel_rules.specs.Plans.{Plan, roster_of, group_size, master_count, node_named}
use Rattle.sentinel_rules.specs.States.{Core}
use Rattle.sentinel_rules.specs.Parts.{quiet, part_if}
use Rattle.sentinel_rules.specs.News.{is_heeded, hello_heeded, hello_read, answered, pinged, pinged_at, lost_at, connection_lost, info_of_node, info_read, refusal_at, announced_at}
use Rattle.sentinel_rules.specs.Profiles.{is_redis}
use Rattle.sentinel_rules.specs.Takes.{cleared, shown_after}
use Rattle.sentinel_rules.specs.Ignored.{IgnoredChangesNothing, is_hello_heeded, is_info_heeded, is_other, is_data_node, is_peer_or_node}

alike : {X Y : Type 0} (f : X → Y) (x y : X) → x ≡ y → f x ≡ f y
alike f x y e = cc

left_out : {X : Type 0} (inside valid known : Bool) (some other : X) → ((inside && valid) && known) ≡ false → (if inside && valid && known then some else other) ≡ other
left_out false valid known some other h = refl
left_out true false known some other h = refl
left_out true true false some other h = refl
left_out true true true some other h = absurd (cc)

nobody : {X : Type 0} (inside valid unknown : Bool) (some other : X) → (if inside && valid then true else unknown) ≡ false → (if inside && valid then some else other) ≡ other
nobody false valid unknown some other h = refl
nobody true false unknown some other h = refl
nobody true true unknown some other h = absurd (cc)

answer_ignored : (plan : Plan) (voter : NodeName) (m now : ℕ) (addr : Addr) (down : Bool) (leader : Option RunId) (epoch : ℕ) (core : Core) →
    (is_other plan voter && nat_lt m (master_count plan)) ≡ false → answered plan voter m now addr down leader epoch core ≡ core
answer_ignored plan (SentinelAt voter) m now addr down leader epoch core h =
    left_out (nat_lt voter (group_size plan)) (not (voter == plan.place)) (nat_lt m (master_count plan)) _ core h
answer_ignored plan (StoreAt number) m now addr down leader epoch core h = refl
answer_ignored plan (ClientAt number) m now addr down leader epoch core h = refl
answer_ignored plan (PortAt number) m now addr down leader epoch core h = refl

nowhere : (now : ℕ) (reply : PingReply) (at : Option NodePlace) (core : Core) → is_some at ≡ false → pinged_at now reply at core ≡ core
nowhere now reply None core h = refl
nowhere now reply (Some at) core h = absurd (cc)

reply_ignored : (plan : Plan) (node : NodeName) (now : ℕ) (reply : PingReply) (core : Core) → (if is_other plan node then true else is_data_node plan node) ≡ false →
    pinged plan node now reply core ≡ core
reply_ignored plan (SentinelAt place) now reply core h = nobody (nat_lt place (group_size plan)) (not (place == plan.place)) false _ core h
reply_ignored plan (StoreAt number) now reply core h = nowhere now reply (node_named plan (StoreAt number)) core h
reply_ignored plan (ClientAt number) now reply core h = refl
reply_ignored plan (PortAt number) now reply core h = refl

no_place : (at : Option NodePlace) (core : Core) → is_some at ≡ false → lost_at at core ≡ core
no_place None core h = refl
no_place (Some at) core h = absurd (cc)

loss_ignored : (plan : Plan) (node : NodeName) (heard : Bool) (core : Core) → (heard && is_peer_or_node plan node) ≡ false →
    (if heard then connection_lost plan node core else core) ≡ core
loss_ignored plan node false core h = refl
loss_ignored plan (SentinelAt place) true core h = nobody (nat_lt place (group_size plan)) (not (place == plan.place)) false _ core h
loss_ignored plan (StoreAt number) true core h = no_place (node_named plan (StoreAt number)) core h
loss_ignored plan (ClientAt number) true core h = refl
loss_ignored plan (PortAt number) true core h = refl

refusal_ignored : (plan : Plan) (at : Option NodePlace) (heard : Bool) (core : Core) → (heard && is_some at) ≡ false → (if heard then refusal_at plan at core else core) ≡ core
refusal_ignored plan at false core h = refl
refusal_ignored plan None true core h = refl
refusal_ignored plan (Some at) true core h = absurd (cc)

at_no_node : (plan : Plan) (now : ℕ) (at : Option NodePlace) (info : Info) (announced : Bool) (core : Core) → is_some at ≡ false →
    info_of_node plan now at info (announced_at announced at core) ≡ quiet core
at_no_node plan now None info announced core h = refl
at_no_node plan now (Some at) info announced core h = absurd (cc)

info_ignored : (plan : Plan) (node : NodeName) (now : ℕ) (read : Result Info TextFault) (announced : Bool) (core : Core) → is_info_heeded plan node read ≡ false →
    info_read plan node now read announced core ≡ quiet core
info_ignored plan node now (Err fault) announced core h = refl
info_ignored plan node now (Ok info) announced core h = at_no_node plan now (node_named plan node) info announced core h

unheeded : (plan : Plan) (now : ℕ) (heeded : Bool) (m : Option ℕ) (hello : Hello) (core : Core) → (heeded && is_some m) ≡ false →
    part_if heeded core (hello_heeded plan now m hello) ≡ quiet core
unheeded plan now false m hello core h = refl
unheeded plan now true None hello core h = refl
unheeded plan now true (Some m) hello core h = absurd (cc)

hello_ignored : (plan : Plan) (now : ℕ) (read : Result Hello TextFault) (core : Core) → is_hello_heeded plan read ≡ false → hello_read plan now read core ≡ quiet core
hello_ignored plan now (Err fault) core h = refl
hello_ignored plan now (Ok hello) core h = unheeded plan now (is_heeded plan hello) (master_named (roster_of plan) hello.master) hello core h

pub ignored_changes_nothing : IgnoredChangesNothing
ignored_changes_nothing plan core now (Tick m random) h = absurd (cc)
ignored_changes_nothing plan core now (Command sender command) h = absurd (cc)
ignored_changes_nothing plan core now (Answered voter m addr down leader epoch) h =
    alike (λ after. shown_after plan (quiet after)) _ _ (answer_ignored plan voter m (clock now) addr down leader epoch (cleared core) h)
ignored_changes_nothing plan core now (Pinged node reply) h = alike (λ after. shown_after plan (quiet after)) _ _ (reply_ignored plan node (clock now) reply (cleared core) h)
ignored_changes_nothing plan core now (InfoRead node text) h = alike (shown_after plan) _ _ (info_ignored plan node (clock now) (info_of text) (is_announced text) (cleared core) h)
ignored_changes_nothing plan core now (HelloRead text) h = alike (shown_after plan) _ _ (hello_ignored plan (clock now) (hello_of text) (cleared core) h)
ignored_changes_nothing plan core now (Disconnected node) h =
    alike (λ after. shown_after plan (quiet after)) _ _ (loss_ignored plan node (is_redis plan.profile) (cleared core) h)
ignored_changes_nothing plan core now (Refused node) h =
    alike (λ after. shown_after plan (quiet after)) _ _ (refusal_ignored plan (node_named plan node) (is_redis plan.profile) (cleared core) h)
ignored_changes_nothing plan core now (Become priority offset link_down) h = refl
ignored_changes_nothing plan core now (Handed message) h = refl
