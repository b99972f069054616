-- Each hello and each note that a part puts out is of a master of the roster.
use Rattle.std.proofs.Common.{◌≡◌, ℕ, zero, suc, ◌<◌, refl, Bool, true, false, Option, Some, None, [], ◌∷◌, ◌++◌}
use Rattle.std.specs.Prelude.{Result, Ok, Err, not, nat_lt, ◌==◌, ◌&&◌, if◌then◌else◌}
use Rattle.std.proofs.lemmas.Bool.{ltb-true}
use Rattle.ballot_law.specs.declared.cards.Card.{Card}
use Rattle.ballot_law.specs.declared.events.Event.TheVariants.{Tick, Command, Answered, Pinged, InfoRead, HelloRead, Disconnected, Become, Handed, Refused}
use Rattle.ballot_law.specs.declared.messages.NodeName.{NodeName}
use Rattle.ballot_law.specs.declared.messages.NodeName.TheVariants.{SentinelAt}
use Rattle.ballot_law.specs.declared.replies.Hello.{Hello}
use Rattle.ballot_law.specs.declared.replies.Info.{Info}
use Rattle.ballot_law.specs.Ballots.{card_of}
use Rattle.ballot_law.specs.Orders.{same_addr}
use Rattle.ballot_law.specs.Rosters.{master_named}
use Rattle.ballot_law.proofs.RosterLemmas.{named_master}
use Rattle.failover_states.specs.declared.states.FailoverState.{FailoverState}
use Rattle.failover_states.specs.declared.states.FailoverState.TheVariants.{WaitPromotion}
use Rattle.failover_states.specs.declared.states.Row.{Row}
use Rattle.failover_states.specs.declared.states.Row.TheVariants.{Promote, PromotionTimeout}
use Rattle.failover_states.specs.Calls.{choice_of as chosen_place, promoted, reconfigured}
use Rattle.failover_states.specs.Table.{Turn}
use Rattle.node_texts.specs.declared.faults.TextFault.{TextFault}
use Rattle.node_texts.specs.Hellos.{hello_of}
use Rattle.node_texts.specs.Infos.{info_of}
use Rattle.node_texts.specs.Announced.{is_announced}
use Rattle.sentinel_rules.specs.declared.frames.Frame.TheVariants.{PingTo, InfoTo, HelloTo, AskTo, PromoteTo, FollowTo, NoteOf, HandOverTo}
use Rattle.ballot_law.specs.declared.node_places.NodePlace.{NodePlace}
use Rattle.sentinel_rules.specs.Plans.{Plan, roster_of, master_count, settings_at, node_name, node_named}
use Rattle.sentinel_rules.specs.States.{is_master_role, Core, master_of, node_of, failover_of, card_place, is_failing_over, is_tilted, with_master, with_failover, with_card, is_planned, is_unrefused}
use Rattle.sentinel_rules.specs.Parts.{Part, quiet, puts, then_part, part_if, frame_if, frames_from}
use Rattle.sentinel_rules.specs.Ticks.{is_peer_due, peer_frames, peers_part, Sending, sending_of, is_ping_due, is_info_due, is_hello_due, node_frames, nodes_part, turn_of, promote_frames, order_frames, row_part, start_turn, starts_now, start_part, is_ask_due, ask_candidate, ask_frames, ask_part, odown_part, failover_part, judging_part, master_part, with_reading, tick, planned_start, order_to, hands_over}
use Rattle.sentinel_rules.specs.News.{at_same_address, at_new_address, card_taken, is_heeded, is_newer, raised_to, adopted, hello_heeded, hello_read, promotion, has_followed, reconfiguration, wrong_of, can_be_followed, is_role_overdue, is_address_overdue, correction, is_reconfiguring, judged, info_kept, info_of_node, info_read, closing_frames, with_frames, announced_at, greeted}
use Rattle.sentinel_rules.specs.Named.{HellosNameMasters, IsNamed}
use Rattle.sentinel_rules.specs.Profiles.{is_asking, is_redis}
use Rattle.sentinel_rules.proofs.StepNews.{named_within}
use Rattle.sentinel_rules.proofs.ShownOutputs.{AreNamed, named_append, named_one, named_each, named_if}

-- Ticks

peers_frames : (plan : Plan) (m now : ℕ) (core : Core) → AreNamed plan (peers_part plan m now core).frames
peers_frames plan zero now core = named_each plan (peer_frames plan now) (λ k x. named_one plan (is_peer_due plan now k x) (PingTo (SentinelAt k)) tt) 0 core.peers
peers_frames plan (suc m) now core = tt

nodes_frames : (plan : Plan) (m now : ℕ) (core : Core) → m < master_count plan → AreNamed plan (nodes_part plan m now core).frames
nodes_frames plan m now core lt =
    let s : Sending = sending_of plan core m now in
    named_each plan (node_frames plan m s)
    (λ k node. named_append plan (frame_if (is_ping_due s node) (PingTo (node_name plan m k)))
    (frame_if (is_info_due s k node) (InfoTo (node_name plan m k)) ++ frame_if (is_hello_due s node) (HelloTo (node_name plan m k) m))
    (named_one plan (is_ping_due s node) (PingTo (node_name plan m k)) tt)
    (named_append plan (frame_if (is_info_due s k node) (InfoTo (node_name plan m k))) (frame_if (is_hello_due s node) (HelloTo (node_name plan m k) m))
    (named_one plan (is_info_due s k node) (InfoTo (node_name plan m k)) tt)
    (named_one plan (is_hello_due s node) (HelloTo (node_name plan m k) m) lt)))
    0 (master_of core m).nodes

order_is : (plan : Plan) (core : Core) (m k : ℕ) (hands : Bool) → IsNamed plan (order_to plan core m k hands)
order_is plan core m k true = tt
order_is plan core m k false = tt

promote_is : (plan : Plan) (core : Core) (m : ℕ) (planned hands : Bool) (row : Option Row) (choice : Option ℕ) →
    AreNamed plan (promote_frames plan core m planned hands row choice)
promote_is plan core m planned hands None choice = tt
promote_is plan core m planned hands (Some Promote) None = tt
promote_is plan core m planned hands (Some Promote) (Some k) = (order_is plan core m k hands, tt)
promote_is plan core m planned hands (Some PromotionTimeout) choice = named_one plan planned (HandOverTo (node_name plan m (card_place plan core m)) None) tt
promote_is plan core m planned hands (Some _) choice = tt

row_frames : (plan : Plan) (m now : ℕ) (core : Core) → AreNamed plan (row_part plan m now core).frames
row_frames plan m now core =
    let turn : Turn = turn_of plan core m now false in
    named_append plan (promote_frames plan core m (is_unrefused core m) (hands_over plan core m now) turn.row (chosen_place turn.failover.state)) (frames_from (order_frames plan m) 0 turn.failover.replicas)
    (promote_is plan core m (is_unrefused core m) (hands_over plan core m now) turn.row (chosen_place turn.failover.state))
    (named_each plan (order_frames plan m) (λ k replica. named_one plan replica.ordered (FollowTo (node_name plan m k) m) tt) 0 turn.failover.replicas)

start_frames : (plan : Plan) (m now : ℕ) (core : Core) → AreNamed plan (start_part plan m now core).frames
start_frames plan m now core = named_if plan (not (is_failing_over core m)) core (λ c. quiet (planned_start m now (start_turn plan c m now) c)) (λ h. tt)

ask_is : (plan : Plan) (m now : ℕ) (started : Bool) (core : Core) → AreNamed plan (ask_part plan m now started core).frames
ask_is plan m now started core =
    named_if plan (is_asking plan core m now && is_ask_due started (master_of core m).ask_sent now) core
    (λ c. puts (with_master c m (record (master_of c m) { ask_sent = Some now })) (frames_from (ask_frames plan m (ask_candidate plan c m)) 0 c.peers))
    (λ h. named_each plan (ask_frames plan m (ask_candidate plan core m)) (λ k x. named_one plan (not (k == plan.place)) (AskTo k m (ask_candidate plan core m)) tt) 0 core.peers)

frames_then : (plan : Plan) (first : Part) (part : Core → Part) → AreNamed plan first.frames → AreNamed plan (part first.core).frames → AreNamed plan (then_part first part).frames
frames_then plan first part f g = named_append plan first.frames (part first.core).frames f g

failover_frames : (plan : Plan) (m now : ℕ) (core : Core) → AreNamed plan (failover_part plan m now core).frames
failover_frames plan m now core =
    let begun : Part = then_part (start_part plan m now core) (λ c. part_if (is_failing_over c m) c (row_part plan m now)) in
    frames_then plan begun (ask_part plan m now (starts_now plan core m now))
    (frames_then plan (start_part plan m now core) (λ c. part_if (is_failing_over c m) c (row_part plan m now)) (start_frames plan m now core)
    (named_if plan (is_failing_over (start_part plan m now core).core m) (start_part plan m now core).core (row_part plan m now)
    (λ h. row_frames plan m now (start_part plan m now core).core)))
    (ask_is plan m now (starts_now plan core m now) begun.core)

judging_frames : (plan : Plan) (m now : ℕ) (core : Core) → AreNamed plan (judging_part plan m now core).frames
judging_frames plan m now core =
    named_if plan (not (is_tilted core)) core (λ c. then_part (odown_part plan m now c) (failover_part plan m now))
    (λ h. frames_then plan (odown_part plan m now core) (failover_part plan m now) tt (failover_frames plan m now (odown_part plan m now core).core))

master_frames : (plan : Plan) (m now : ℕ) (core : Core) → m < master_count plan → AreNamed plan (master_part plan m now core).frames
master_frames plan m now core lt =
    let sent : Part = then_part (peers_part plan m now core) (nodes_part plan m now) in
    frames_then plan sent (judging_part plan m now)
    (frames_then plan (peers_part plan m now core) (nodes_part plan m now) (peers_frames plan m now core) (nodes_frames plan m now (peers_part plan m now core).core lt))
    (judging_frames plan m now sent.core)

pub tick_frames : (plan : Plan) (m random now : ℕ) (core : Core) → AreNamed plan (tick plan m random now core).frames
tick_frames plan m random now core =
    named_if plan (nat_lt m (master_count plan)) (with_reading now random core) (master_part plan m now)
    (λ h. master_frames plan m now (with_reading now random core) (ltb-true m (master_count plan) h))

-- News

frames_either : (plan : Plan) (test : Bool) (a b : Part) → AreNamed plan a.frames → AreNamed plan b.frames → AreNamed plan (if test then a else b).frames
frames_either plan true a b f g = f
frames_either plan false a b f g = g

taken_frames : (plan : Plan) (m now : ℕ) (card : Card) (core : Core) → m < master_count plan → AreNamed plan (card_taken plan m now card core).frames
taken_frames plan m now card core lt =
    frames_either plan (same_addr (card_of core.kept m).addr card.addr)
    (quiet (with_card (with_master core m (at_same_address (master_of core m))) m card))
    (puts (with_card (with_master core m (at_new_address plan.profile now (master_of core m))) m card) (NoteOf m (card_of core.kept m).addr ∷ []))
    tt
    (lt, tt)

heeded_frames : (plan : Plan) (now : ℕ) (m : Option ℕ) (hello : Hello) (core : Core) → master_named (roster_of plan) hello.master ≡ m →
    AreNamed plan (hello_heeded plan now m hello core).frames
heeded_frames plan now None hello core found = tt
heeded_frames plan now (Some m) hello core found =
    named_if plan (is_newer plan (raised_to hello.current (greeted plan now hello core)) m hello.card) (raised_to hello.current (greeted plan now hello core))
    (adopted plan m now hello.card)
    (λ h. taken_frames plan m now hello.card _ (named_master (roster_of plan) hello.master m found).0)

pub hello_frames : (plan : Plan) (now : ℕ) (read : Result Hello TextFault) (core : Core) → AreNamed plan (hello_read plan now read core).frames
hello_frames plan now (Err fault) core = tt
hello_frames plan now (Ok hello) core =
    named_if plan (is_heeded plan hello) core (hello_heeded plan now (master_named (roster_of plan) hello.master) hello)
    (λ h. heeded_frames plan now (master_named (roster_of plan) hello.master) hello core refl)

closing_is : (plan : Plan) (m heir old : ℕ) (planned : Bool) → m < master_count plan → AreNamed plan (closing_frames plan m heir old planned)
closing_is plan m heir old planned lt =
    named_append plan (frame_if (is_redis plan.profile) (HelloTo (node_name plan m heir) m))
    (frame_if planned (PromoteTo (node_name plan m heir)) ++ frame_if planned (FollowTo (node_name plan m old) m))
    (named_one plan (is_redis plan.profile) (HelloTo (node_name plan m heir) m) lt)
    (by_test planned)
  where
    by_test : (planned : Bool) → AreNamed plan (frame_if planned (PromoteTo (node_name plan m heir)) ++ frame_if planned (FollowTo (node_name plan m old) m))
    by_test true = (tt, (tt, tt))
    by_test false = tt

promotion_frames : (plan : Plan) (m k now : ℕ) (info : Info) (state : FailoverState) (core : Core) → m < master_count plan →
    AreNamed plan (promotion plan m k now info state core).frames
promotion_frames plan m k now info (WaitPromotion epoch choice former) core lt =
    named_if plan ((k == choice.place) && is_master_role info.role) core
    (λ c. with_frames
    (card_taken plan m now (record { epoch = epoch; addr = choice.addr })
    (with_failover c m (promoted (WaitPromotion epoch choice former) (record (failover_of c m) { moment = now }))))
    (closing_frames plan m k (card_place plan c m) (is_planned c m)))
    (λ h. named_append plan _ (closing_frames plan m k (card_place plan core m) (is_planned core m))
    (taken_frames plan m now (record { epoch = epoch; addr = choice.addr })
    (with_failover core m (promoted (WaitPromotion epoch choice former) (record (failover_of core m) { moment = now }))) lt)
    (closing_is plan m k (card_place plan core m) (is_planned core m) lt))
promotion_frames plan m k now info _ core lt = tt

judged_frames : (plan : Plan) (m k now : ℕ) (info : Info) (core : Core) → m < master_count plan → AreNamed plan (judged plan m k now info core).frames
judged_frames plan m k now info core lt =
    frames_either plan (is_failing_over core m)
    (if is_reconfiguring (failover_of core m).state then reconfiguration m k info core else promotion plan m k now info (failover_of core m).state core)
    (part_if (not (k == card_place plan core m)) core (correction plan m k now info))
    (frames_either plan (is_reconfiguring (failover_of core m).state) (reconfiguration m k info core) (promotion plan m k now info (failover_of core m).state core)
    (named_if plan (has_followed info (card_of core.kept m).addr) core (λ c. quiet (with_failover c m (reconfigured (failover_of c m).state (failover_of c m) k))) (λ h. tt))
    (promotion_frames plan m k now info (failover_of core m).state core lt))
    (named_if plan (not (k == card_place plan core m)) core (correction plan m k now info)
    (λ h. named_one plan (if role_told then true else address_told) (FollowTo (node_name plan m k) m) tt))
  where
    role_told : Bool
    role_told = is_role_overdue now (wrong_of now info (card_of core.kept m).addr (node_of core m k)) && can_be_followed plan core m now

    address_told : Bool
    address_told = is_address_overdue (settings_at plan m).timeout now (wrong_of now info (card_of core.kept m).addr (node_of core m k)) && can_be_followed plan core m now

of_node_frames : (plan : Plan) (now : ℕ) (at : Option NodePlace) (info : Info) (core : Core) → ((it : NodePlace) → at ≡ Some it → it.master < master_count plan) →
    AreNamed plan (info_of_node plan now at info core).frames
of_node_frames plan now None info core within = tt
of_node_frames plan now (Some at) info core within =
    named_if plan (not (is_tilted (info_kept at.master at.place now info core))) (info_kept at.master at.place now info core) (judged plan at.master at.place now info)
    (λ h. judged_frames plan at.master at.place now info (info_kept at.master at.place now info core) (within at refl))

pub info_frames : (plan : Plan) (node : NodeName) (now : ℕ) (read : Result Info TextFault) (announced : Bool) (core : Core) →
    AreNamed plan (info_read plan node now read announced core).frames
info_frames plan node now (Err fault) announced core = tt
info_frames plan node now (Ok info) announced core =
    of_node_frames plan now (node_named plan node) info (announced_at announced (node_named plan node) core) (named_within plan node)

-- One input

pub hellos_name_masters : HellosNameMasters
hellos_name_masters plan now (Tick m random) core = tick_frames plan m random now core
hellos_name_masters plan now (Command sender command) core = tt
hellos_name_masters plan now (Answered voter m addr down leader epoch) core = tt
hellos_name_masters plan now (Pinged node reply) core = tt
hellos_name_masters plan now (InfoRead node text) core = info_frames plan node now (info_of text) (is_announced text) core
hellos_name_masters plan now (HelloRead text) core = hello_frames plan now (hello_of text) core
hellos_name_masters plan now (Disconnected node) core = tt
hellos_name_masters plan now (Refused node) core = tt
hellos_name_masters plan now (Become priority offset link_down) core = tt
hellos_name_masters plan now (Handed message) core = tt
