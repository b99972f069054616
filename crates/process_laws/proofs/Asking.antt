-- What is put out to another Sentinel is PING, or a question about a master with an address of the own list.
use Rattle.std.proofs.Common.{◌≡◌, ℕ, zero, suc, ◌+◌, ◌<◌, refl, sym, ap, ◌∙◌, subst, inl, inr, Bool, true, false, Option, Some, None, List, [], ◌∷◌, ◌++◌, map}
use Rattle.std.specs.Prelude.{Contains, Result, Ok, Err, not, nat_lt, ◌==◌, ◌&&◌, if◌then◌else◌}
use Rattle.std.specs.List.{AllByRecursion}
use Rattle.std.proofs.lemmas.Bool.{ltb-true}
use Rattle.ballot_law.specs.declared.cards.Card.{Card}
use Rattle.ballot_law.specs.declared.events.Event.TheVariants.{Tick, Command, Answered, Pinged, InfoRead, HelloRead, Disconnected, Become, Handed, Refused}
use Rattle.ballot_law.specs.declared.messages.NodeName.{NodeName}
use Rattle.ballot_law.specs.declared.messages.NodeName.TheVariants.{SentinelAt, StoreAt, PortAt, ClientAt}
use Rattle.ballot_law.specs.declared.replies.Hello.{Hello}
use Rattle.ballot_law.specs.declared.replies.Info.{Info}
use Rattle.ballot_law.specs.Ballots.{card_of}
use Rattle.ballot_law.specs.Orders.{same_addr}
use Rattle.ballot_law.specs.Rosters.{master_named, no_addr}
use Rattle.failover_states.specs.declared.states.FailoverState.{FailoverState}
use Rattle.failover_states.specs.declared.states.FailoverState.TheVariants.{WaitPromotion}
use Rattle.failover_states.specs.declared.states.Row.{Row}
use Rattle.failover_states.specs.declared.states.Row.TheVariants.{Promote, PromotionTimeout}
use Rattle.failover_states.specs.Calls.{choice_of as chosen_place, promoted, reconfigured}
use Rattle.failover_states.specs.Table.{Turn}
use Rattle.node_texts.specs.declared.faults.TextFault.{TextFault}
use Rattle.node_texts.specs.Hellos.{hello_of}
use Rattle.node_texts.specs.Infos.{info_of}
use Rattle.node_texts.specs.Announced.{is_announced}
use Rattle.sentinel_rules.specs.declared.frames.Frame.{Frame}
use Rattle.sentinel_rules.specs.declared.frames.Frame.TheVariants.{PingTo, InfoTo, HelloTo, AskTo, PromoteTo, FollowTo, NoteOf, HandOverTo}
use Rattle.ballot_law.specs.declared.node_places.NodePlace.{NodePlace}
use Rattle.sentinel_rules.specs.Plans.{Plan, me, roster_of, master_count, settings_at, nodes_of, node_name, node_named}
use Rattle.sentinel_rules.specs.States.{is_master_role, Core, master_of, node_of, failover_of, card_place, is_failing_over, is_tilted, with_master, with_failover, with_card, is_planned, is_unrefused}
use Rattle.sentinel_rules.specs.Parts.{Part, quiet, puts, then_part, part_if, frame_if, frames_from, output_of, send, hello_of_master}
use Rattle.sentinel_rules.specs.Ticks.{is_peer_due, peer_frames, peers_part, Sending, sending_of, is_ping_due, is_info_due, is_hello_due, node_frames, nodes_part, turn_of, promote_frames, order_frames, row_part, start_turn, starts_now, start_part, is_ask_due, awaits_votes, ask_candidate, ask_frames, ask_part, odown_part, failover_part, judging_part, master_part, with_reading, tick, planned_start, order_to, hands_over}
use Rattle.sentinel_rules.specs.News.{at_same_address, at_new_address, card_taken, is_heeded, is_newer, raised_to, adopted, hello_heeded, hello_read, promotion, has_followed, reconfiguration, wrong_of, can_be_followed, is_role_overdue, is_address_overdue, correction, is_reconfiguring, judged, info_kept, info_of_node, info_read, closing_frames, with_frames, announced_at, greeted}
use Rattle.sentinel_rules.specs.Profiles.{is_asking, is_redis, by_profile}
use Rattle.ballot_law.specs.declared.addresses.RunId.{RunId}
use Rattle.ballot_law.specs.declared.events.Event.{Event}
use Rattle.ballot_law.specs.declared.addresses.Addr.{Addr}
use Rattle.ballot_law.specs.declared.messages.Body.{Body}
use Rattle.ballot_law.specs.declared.messages.Body.TheVariants.{Ask, Ping, InfoAsk, Publish, ReplicaOf, HandOver}
use Rattle.ballot_law.specs.declared.messages.Message.{Message}
use Rattle.ballot_law.specs.declared.messages.Output.{Output}
use Rattle.ballot_law.specs.declared.messages.Output.TheVariants.{Send, Tell}
use Rattle.ballot_law.specs.Clocks.{clock}
use Rattle.ballot_law.specs.Hellos.{IsAddr}
use Rattle.ballot_law.proofs.Placing.{get_or_any}
use Rattle.resp2.specs.Commands.{IsCandidate}
use Rattle.sentinel_cell.specs.declared.entry.Entry.{Entry}
use Rattle.sentinel_cell.specs.declared.entry.Outcome.{Outcome}
use Rattle.sentinel_cell.specs.declared.entry.Outcome.TheVariants.{Stored, Refused as RefusedThen, Halted}
use Rattle.sentinel_cell.specs.Histories.{World, IsGood, IsOutcome, after_outcome}
use Rattle.sentinel_cell.proofs.Cards.{good_after}
use Rattle.sentinel_rules.specs.Facts.{IsSoundPlan, IsSound}
use Rattle.sentinel_conf.proofs.FileLemmas.{any_some}
use Rattle.sentinel_conf.proofs.OrderLemmas.{addr_same}
use Rattle.sentinel_conf.proofs.SetLemmas.{In}
use Rattle.sentinel_rules.proofs.KeptParts.{kept_at}
use Rattle.sentinel_rules.specs.Answers.{commanded}
use Rattle.sentinel_rules.specs.Takes.{part_of, next_at, cleared}
use Rattle.process_laws.specs.Asking.{IsFromNoSentinel, ReleasedWordsAreAskable}
use Rattle.process_laws.specs.Connections.{IsAskable, IsListed}
use Rattle.process_laws.specs.HeardAnswers.{IsOfItsMaster}
use Rattle.process_laws.proofs.ReadFiles.{in_list}

-- Frames

abbrev IsStore : NodeName → Type 0
IsStore (StoreAt number) = Unit {0}
IsStore _ = ⊥

abbrev IsOwnOrNone : Plan → Option RunId → Type 0
IsOwnOrNone plan None = Unit {0}
IsOwnOrNone plan (Some id) = id ≡ me plan

-- all frames but PING and questions go to data nodes; a question is about a master of the roster, and its candidate is the Sentinel itself
abbrev IsAimed : Plan → Frame → Type 0
IsAimed plan (PingTo target) = Unit {0}
IsAimed plan (InfoTo target) = IsStore target
IsAimed plan (HelloTo target m) = IsStore target
IsAimed plan (AskTo place m candidate) = (m < master_count plan) × IsOwnOrNone plan candidate
IsAimed plan (PromoteTo target) = IsStore target
IsAimed plan (HandOverTo target heir) = IsStore target
IsAimed plan (FollowTo target m) = IsStore target
IsAimed plan (NoteOf m old) = Unit {0}

abbrev AreAimed : Plan → List Frame → Type 0
AreAimed plan frames = AllByRecursion (IsAimed plan) frames

all_append : (plan : Plan) (xs ys : List Frame) → AreAimed plan xs → AreAimed plan ys → AreAimed plan (xs ++ ys)
all_append plan [] ys f g = g
all_append plan (x ∷ xs) ys f g = (f.0, all_append plan xs ys f.1 g)

all_one : (plan : Plan) (test : Bool) (frame : Frame) → IsAimed plan frame → AreAimed plan (frame_if test frame)
all_one plan true frame f = (f, tt)
all_one plan false frame f = tt

all_each : {X : Type 0} (plan : Plan) (frames : ℕ → X → List Frame) → ((k : ℕ) (x : X) → AreAimed plan (frames k x)) → (place : ℕ) (xs : List X)
    → AreAimed plan (frames_from frames place xs)
all_each plan frames f place [] = tt
all_each plan frames f place (x ∷ xs) = all_append plan (frames place x) (frames_from frames (place + 1) xs) (f place x) (all_each plan frames f (place + 1) xs)

all_if : (plan : Plan) (test : Bool) (core : Core) (part : Core → Part) → (test ≡ true → AreAimed plan (part core).frames) → AreAimed plan (part_if test core part).frames
all_if plan true core part f = f refl
all_if plan false core part f = tt

-- Ticks

peers_frames : (plan : Plan) (m now : ℕ) (core : Core) → AreAimed plan (peers_part plan m now core).frames
peers_frames plan zero now core = all_each plan (peer_frames plan now) (λ k x. all_one plan (is_peer_due plan now k x) (PingTo (SentinelAt k)) tt) 0 core.peers
peers_frames plan (suc m) now core = tt

nodes_frames : (plan : Plan) (m now : ℕ) (core : Core) → AreAimed plan (nodes_part plan m now core).frames
nodes_frames plan m now core =
    let s : Sending = sending_of plan core m now in
    all_each plan (node_frames plan m s)
    (λ k node. all_append plan (frame_if (is_ping_due s node) (PingTo (node_name plan m k)))
    (frame_if (is_info_due s k node) (InfoTo (node_name plan m k)) ++ frame_if (is_hello_due s node) (HelloTo (node_name plan m k) m))
    (all_one plan (is_ping_due s node) (PingTo (node_name plan m k)) tt)
    (all_append plan (frame_if (is_info_due s k node) (InfoTo (node_name plan m k))) (frame_if (is_hello_due s node) (HelloTo (node_name plan m k) m))
    (all_one plan (is_info_due s k node) (InfoTo (node_name plan m k)) tt)
    (all_one plan (is_hello_due s node) (HelloTo (node_name plan m k) m) tt)))
    0 (master_of core m).nodes

order_is : (plan : Plan) (core : Core) (m k : ℕ) (hands : Bool) → IsAimed plan (order_to plan core m k hands)
order_is plan core m k true = tt
order_is plan core m k false = tt

promote_is : (plan : Plan) (core : Core) (m : ℕ) (planned hands : Bool) (row : Option Row) (choice : Option ℕ) →
    AreAimed plan (promote_frames plan core m planned hands row choice)
promote_is plan core m planned hands None choice = tt
promote_is plan core m planned hands (Some Promote) None = tt
promote_is plan core m planned hands (Some Promote) (Some k) = (order_is plan core m k hands, tt)
promote_is plan core m planned hands (Some PromotionTimeout) choice = all_one plan planned (HandOverTo (node_name plan m (card_place plan core m)) None) tt
promote_is plan core m planned hands (Some _) choice = tt

row_frames : (plan : Plan) (m now : ℕ) (core : Core) → AreAimed plan (row_part plan m now core).frames
row_frames plan m now core =
    let turn : Turn = turn_of plan core m now false in
    all_append plan (promote_frames plan core m (is_unrefused core m) (hands_over plan core m now) turn.row (chosen_place turn.failover.state)) (frames_from (order_frames plan m) 0 turn.failover.replicas)
    (promote_is plan core m (is_unrefused core m) (hands_over plan core m now) turn.row (chosen_place turn.failover.state))
    (all_each plan (order_frames plan m) (λ k replica. all_one plan replica.ordered (FollowTo (node_name plan m k) m) tt) 0 turn.failover.replicas)

start_frames : (plan : Plan) (m now : ℕ) (core : Core) → AreAimed plan (start_part plan m now core).frames
start_frames plan m now core = all_if plan (not (is_failing_over core m)) core (λ c. quiet (planned_start m now (start_turn plan c m now) c)) (λ h. tt)

own_candidate : (plan : Plan) (core : Core) (m : ℕ) → IsOwnOrNone plan (ask_candidate plan core m)
own_candidate plan core m = by_test (by_profile plan.profile (is_failing_over core m) (awaits_votes core m))
  where
    by_test : (test : Bool) → IsOwnOrNone plan (if test then Some (me plan) else None)
    by_test true = refl
    by_test false = tt

ask_is : (plan : Plan) (m now : ℕ) (started : Bool) (core : Core) → m < master_count plan → AreAimed plan (ask_part plan m now started core).frames
ask_is plan m now started core lt =
    all_if plan (is_asking plan core m now && is_ask_due started (master_of core m).ask_sent now) core
    (λ c. puts (with_master c m (record (master_of c m) { ask_sent = Some now })) (frames_from (ask_frames plan m (ask_candidate plan c m)) 0 c.peers))
    (λ h. all_each plan (ask_frames plan m (ask_candidate plan core m)) (λ k x. all_one plan (not (k == plan.place)) (AskTo k m (ask_candidate plan core m)) (lt, own_candidate plan core m)) 0 core.peers)

frames_then : (plan : Plan) (first : Part) (part : Core → Part) → AreAimed plan first.frames → AreAimed plan (part first.core).frames → AreAimed plan (then_part first part).frames
frames_then plan first part f g = all_append plan first.frames (part first.core).frames f g

failover_frames : (plan : Plan) (m now : ℕ) (core : Core) → m < master_count plan → AreAimed plan (failover_part plan m now core).frames
failover_frames plan m now core lt =
    let begun : Part = then_part (start_part plan m now core) (λ c. part_if (is_failing_over c m) c (row_part plan m now)) in
    frames_then plan begun (ask_part plan m now (starts_now plan core m now))
    (frames_then plan (start_part plan m now core) (λ c. part_if (is_failing_over c m) c (row_part plan m now)) (start_frames plan m now core)
    (all_if plan (is_failing_over (start_part plan m now core).core m) (start_part plan m now core).core (row_part plan m now)
    (λ h. row_frames plan m now (start_part plan m now core).core)))
    (ask_is plan m now (starts_now plan core m now) begun.core lt)

judging_frames : (plan : Plan) (m now : ℕ) (core : Core) → m < master_count plan → AreAimed plan (judging_part plan m now core).frames
judging_frames plan m now core lt =
    all_if plan (not (is_tilted core)) core (λ c. then_part (odown_part plan m now c) (failover_part plan m now))
    (λ h. frames_then plan (odown_part plan m now core) (failover_part plan m now) tt (failover_frames plan m now (odown_part plan m now core).core lt))

master_frames : (plan : Plan) (m now : ℕ) (core : Core) → m < master_count plan → AreAimed plan (master_part plan m now core).frames
master_frames plan m now core lt =
    let sent : Part = then_part (peers_part plan m now core) (nodes_part plan m now) in
    frames_then plan sent (judging_part plan m now)
    (frames_then plan (peers_part plan m now core) (nodes_part plan m now) (peers_frames plan m now core) (nodes_frames plan m now (peers_part plan m now core).core))
    (judging_frames plan m now sent.core lt)

tick_frames : (plan : Plan) (m random now : ℕ) (core : Core) → AreAimed plan (tick plan m random now core).frames
tick_frames plan m random now core =
    all_if plan (nat_lt m (master_count plan)) (with_reading now random core) (master_part plan m now)
    (λ h. master_frames plan m now (with_reading now random core) (ltb-true m (master_count plan) h))

-- News

frames_either : (plan : Plan) (test : Bool) (a b : Part) → AreAimed plan a.frames → AreAimed plan b.frames → AreAimed plan (if test then a else b).frames
frames_either plan true a b f g = f
frames_either plan false a b f g = g

taken_frames : (plan : Plan) (m now : ℕ) (card : Card) (core : Core) → AreAimed plan (card_taken plan m now card core).frames
taken_frames plan m now card core =
    frames_either plan (same_addr (card_of core.kept m).addr card.addr)
    (quiet (with_card (with_master core m (at_same_address (master_of core m))) m card))
    (puts (with_card (with_master core m (at_new_address plan.profile now (master_of core m))) m card) (NoteOf m (card_of core.kept m).addr ∷ []))
    tt
    (tt, tt)

heeded_frames : (plan : Plan) (now : ℕ) (m : Option ℕ) (hello : Hello) (core : Core) → AreAimed plan (hello_heeded plan now m hello core).frames
heeded_frames plan now None hello core = tt
heeded_frames plan now (Some m) hello core =
    all_if plan (is_newer plan (raised_to hello.current (greeted plan now hello core)) m hello.card) (raised_to hello.current (greeted plan now hello core))
    (adopted plan m now hello.card)
    (λ h. taken_frames plan m now hello.card _)

hello_frames : (plan : Plan) (now : ℕ) (read : Result Hello TextFault) (core : Core) → AreAimed plan (hello_read plan now read core).frames
hello_frames plan now (Err fault) core = tt
hello_frames plan now (Ok hello) core =
    all_if plan (is_heeded plan hello) core (hello_heeded plan now (master_named (roster_of plan) hello.master) hello)
    (λ h. heeded_frames plan now (master_named (roster_of plan) hello.master) hello core)

closing_is : (plan : Plan) (m heir old : ℕ) (planned : Bool) → AreAimed plan (closing_frames plan m heir old planned)
closing_is plan m heir old planned =
    all_append plan (frame_if (is_redis plan.profile) (HelloTo (node_name plan m heir) m))
    (frame_if planned (PromoteTo (node_name plan m heir)) ++ frame_if planned (FollowTo (node_name plan m old) m))
    (all_one plan (is_redis plan.profile) (HelloTo (node_name plan m heir) m) tt)
    (by_test planned)
  where
    by_test : (planned : Bool) → AreAimed plan (frame_if planned (PromoteTo (node_name plan m heir)) ++ frame_if planned (FollowTo (node_name plan m old) m))
    by_test true = (tt, (tt, tt))
    by_test false = tt

promotion_frames : (plan : Plan) (m k now : ℕ) (info : Info) (state : FailoverState) (core : Core) → AreAimed plan (promotion plan m k now info state core).frames
promotion_frames plan m k now info (WaitPromotion epoch choice former) core =
    all_if plan ((k == choice.place) && is_master_role info.role) core
    (λ c. with_frames
    (card_taken plan m now (record { epoch = epoch; addr = choice.addr })
    (with_failover c m (promoted (WaitPromotion epoch choice former) (record (failover_of c m) { moment = now }))))
    (closing_frames plan m k (card_place plan c m) (is_planned c m)))
    (λ h. all_append plan _ (closing_frames plan m k (card_place plan core m) (is_planned core m))
    (taken_frames plan m now (record { epoch = epoch; addr = choice.addr })
    (with_failover core m (promoted (WaitPromotion epoch choice former) (record (failover_of core m) { moment = now }))))
    (closing_is plan m k (card_place plan core m) (is_planned core m)))
promotion_frames plan m k now info _ core = tt

judged_frames : (plan : Plan) (m k now : ℕ) (info : Info) (core : Core) → AreAimed plan (judged plan m k now info core).frames
judged_frames plan m k now info core =
    frames_either plan (is_failing_over core m)
    (if is_reconfiguring (failover_of core m).state then reconfiguration m k info core else promotion plan m k now info (failover_of core m).state core)
    (part_if (not (k == card_place plan core m)) core (correction plan m k now info))
    (frames_either plan (is_reconfiguring (failover_of core m).state) (reconfiguration m k info core) (promotion plan m k now info (failover_of core m).state core)
    (all_if plan (has_followed info (card_of core.kept m).addr) core (λ c. quiet (with_failover c m (reconfigured (failover_of c m).state (failover_of c m) k))) (λ h. tt))
    (promotion_frames plan m k now info (failover_of core m).state core))
    (all_if plan (not (k == card_place plan core m)) core (correction plan m k now info)
    (λ h. all_one plan (if role_told then true else address_told) (FollowTo (node_name plan m k) m) tt))
  where
    role_told : Bool
    role_told = is_role_overdue now (wrong_of now info (card_of core.kept m).addr (node_of core m k)) && can_be_followed plan core m now

    address_told : Bool
    address_told = is_address_overdue (settings_at plan m).timeout now (wrong_of now info (card_of core.kept m).addr (node_of core m k)) && can_be_followed plan core m now

of_node_frames : (plan : Plan) (now : ℕ) (at : Option NodePlace) (info : Info) (core : Core) → AreAimed plan (info_of_node plan now at info core).frames
of_node_frames plan now None info core = tt
of_node_frames plan now (Some at) info core =
    all_if plan (not (is_tilted (info_kept at.master at.place now info core))) (info_kept at.master at.place now info core) (judged plan at.master at.place now info)
    (λ h. judged_frames plan at.master at.place now info (info_kept at.master at.place now info core))

info_frames : (plan : Plan) (node : NodeName) (now : ℕ) (read : Result Info TextFault) (announced : Bool) (core : Core) →
    AreAimed plan (info_read plan node now read announced core).frames
info_frames plan node now (Err fault) announced core = tt
info_frames plan node now (Ok info) announced core =
    of_node_frames plan now (node_named plan node) info (announced_at announced (node_named plan node) core)

-- One input

all_aimed : (plan : Plan) (now : ℕ) (event : Event) (core : Core) → AreAimed plan (part_of plan now event core).frames
all_aimed plan now (Tick m random) core = tick_frames plan m random now core
all_aimed plan now (Command sender command) core = tt
all_aimed plan now (Answered voter m addr down leader epoch) core = tt
all_aimed plan now (Pinged node reply) core = tt
all_aimed plan now (InfoRead node text) core = info_frames plan node now (info_of text) (is_announced text) core
all_aimed plan now (HelloRead text) core = hello_frames plan now (hello_of text) core
all_aimed plan now (Disconnected node) core = tt
all_aimed plan now (Refused node) core = tt
all_aimed plan now (Become priority offset link_down) core = tt
all_aimed plan now (Handed message) core = tt

-- Messages

abbrev IsAsked : Plan → Body → Type 0
IsAsked plan body = IsAskable body × IsOfItsMaster plan body

abbrev message_to : Plan → NodeName → Body → Message
message_to plan target body = record { sender = SentinelAt plan.place; target = target; body = body }

abbrev message_in : Message → Output → Message
message_in none (Send message) = message
message_in none (Tell note) = none

sent_is : (one other : Message) → Send one ≡ Send other → one ≡ other
sent_is one other e = ap (message_in one) e

never_to : (target : NodeName) (k : ℕ) → IsStore target → target ≡ SentinelAt k → ⊥
never_to target k store to = subst IsStore to store

-- what goes to nobody of the Sentinels
elsewhere : (plan : Plan) (target : NodeName) (body : Body) (message : Message) (k : ℕ) → (target ≡ SentinelAt k → ⊥) → Send message ≡ send plan target body
    → message.target ≡ SentinelAt k → IsAsked plan message.body
elsewhere plan target body message k never is to =
    absurd (never (sym (ap (λ (m : Message). m.target) (sent_is message (message_to plan target body) is)) ∙ to))

to_store : (plan : Plan) (target : NodeName) (body : Body) (message : Message) (k : ℕ) → IsStore target → Send message ≡ send plan target body
    → message.target ≡ SentinelAt k → IsAsked plan message.body
to_store plan target body message k store is to = elsewhere plan target body message k (never_to target k store) is to

candidate_is : (plan : Plan) (candidate : Option RunId) → IsSoundPlan plan → IsOwnOrNone plan candidate → IsCandidate candidate
candidate_is plan None sound own = tt
candidate_is plan (Some id) sound own = subst (λ (x : RunId). IsCandidate (Some x)) (sym own) (sound.conf.members plan.place sound.place).1

address_is : (plan : Plan) (m : ℕ) (addr : Addr) → IsSoundPlan plan → m < master_count plan → Contains (nodes_of plan m) addr → IsAddr addr
address_is plan m addr p lt c = subst (λ (a : Addr). IsAddr a) (get_or_any (nodes_of plan m) c.0 no_addr addr c.1 ∙ c.2) (p.conf.listed m c.0 lt c.1)

listed_there : (plan : Plan) (m : ℕ) (addr : Addr) → m < master_count plan → Contains (nodes_of plan m) addr → IsListed plan m addr
listed_there plan m addr lt c = record {
  within = lt;
  listed = any_some (same_addr addr) (nodes_of plan m) addr (in_list (nodes_of plan m) addr c) (addr_same.of_equal addr);
}

module _ (plan : Plan) (core : Core) (p : IsSoundPlan plan) (s : IsSound plan core) (message : Message) (k : ℕ) (to : message.target ≡ SentinelAt k) where
  frame_asked : (frame : Frame) → IsAimed plan frame → Send message ≡ output_of plan core frame → IsAsked plan message.body
  frame_asked (PingTo target) aim is =
      subst (λ (x : Message). IsAsked plan x.body) (sym (sent_is message (message_to plan target Ping) is)) (tt, tt)
  frame_asked (AskTo place m candidate) aim is =
      let addr = (card_of core.kept m).addr in
      let body = Ask m addr core.kept.current candidate in
      let entry = kept_at plan.conf core.kept m aim.0 s.kept in
      subst (λ (x : Message). IsAsked plan x.body) (sym (sent_is message (message_to plan (SentinelAt place) body) is))
      ((address_is plan m addr p aim.0 entry.addr, s.kept.current, candidate_is plan candidate p aim.1), listed_there plan m addr aim.0 entry.addr)
  frame_asked (InfoTo target) aim is = to_store plan target InfoAsk message k aim is to
  frame_asked (HelloTo target m) aim is = to_store plan target (Publish (hello_of_master plan core m)) message k aim is to
  frame_asked (PromoteTo target) aim is = to_store plan target (ReplicaOf None) message k aim is to
  frame_asked (HandOverTo target heir) aim is = to_store plan target (HandOver heir) message k aim is to
  frame_asked (FollowTo target m) aim is = to_store plan target (ReplicaOf (Some (card_of core.kept m).addr)) message k aim is to
  frame_asked (NoteOf m old) aim is = absurd (let no : ⊥ = cc in no)

  frames_asked : (frames : List Frame) → AreAimed plan frames → In (Send message) (map (output_of plan core) frames) → IsAsked plan message.body
  frames_asked [] aims i = absurd i
  frames_asked (frame ∷ frames) aims (inl is) = frame_asked frame aims.0 is
  frames_asked (frame ∷ frames) aims (inr i) = frames_asked frames aims.1 i

module _ (plan : Plan) (core : Core) (now : ℕ) (message : Message) (k : ℕ) (to : message.target ≡ SentinelAt k) where
  -- an answer to a command goes to who sent it
  command_asked : (sender : NodeName) (body : Body) → (sender ≡ SentinelAt k → ⊥) → In (Send message) (send plan sender body ∷ []) → IsAsked plan message.body
  command_asked sender body never (inl is) = elsewhere plan sender body message k never is to
  command_asked sender body never (inr i) = absurd i

  by_frames : (event : Event) → IsSoundPlan plan → IsSound plan (part_of plan now event core).core
      → In (Send message) (map (output_of plan (part_of plan now event core).core) (part_of plan now event core).frames) → IsAsked plan message.body
  by_frames event p s i =
      frames_asked plan (part_of plan now event core).core p s message k to (part_of plan now event core).frames (all_aimed plan now event core) i

  abbrev Asks : Event → Type 0
  Asks event = IsSound plan (next_at plan now event core).core → IsFromNoSentinel event → In (Send message) (next_at plan now event core).outputs → IsAsked plan message.body

  input_asked : (event : Event) → IsSoundPlan plan → Asks event
  input_asked (Command (SentinelAt place) command) p s from i = absurd from
  input_asked (Command (StoreAt place) command) p s from i =
      command_asked (StoreAt place) (commanded plan now command core).body (λ (e : StoreAt place ≡ SentinelAt k). let no : ⊥ = cc in no) i
  input_asked (Command (ClientAt place) command) p s from i =
      command_asked (ClientAt place) (commanded plan now command core).body (λ (e : ClientAt place ≡ SentinelAt k). let no : ⊥ = cc in no) i
  input_asked (Command (PortAt place) command) p s from i =
      command_asked (PortAt place) (commanded plan now command core).body (λ (e : PortAt place ≡ SentinelAt k). let no : ⊥ = cc in no) i
  input_asked (Tick m random) p s from i = by_frames (Tick m random) p s i
  input_asked (Answered voter m addr down leader epoch) p s from i = by_frames (Answered voter m addr down leader epoch) p s i
  input_asked (Pinged node reply) p s from i = by_frames (Pinged node reply) p s i
  input_asked (InfoRead node text) p s from i = by_frames (InfoRead node text) p s i
  input_asked (HelloRead text) p s from i = by_frames (HelloRead text) p s i
  input_asked (Disconnected node) p s from i = by_frames (Disconnected node) p s i
  input_asked (Refused node) p s from i = by_frames (Refused node) p s i
  input_asked (Become priority offset link_down) p s from i = by_frames (Become priority offset link_down) p s i
  input_asked (Handed other) p s from i = by_frames (Handed other) p s i

-- an entry, by its outcome
entry_asked : (w : World) (e : Entry) (o : Outcome) (message : Message) (k : ℕ) → IsGood w → IsOutcome w e.input e.outputs e.failures o
    → IsGood (after_outcome w e.input e.failures o) → IsFromNoSentinel e.input.event → In (Send message) e.outputs → message.target ≡ SentinelAt k
    → IsAsked w.plan message.body
entry_asked w e Stored message k good is later from i to =
    input_asked w.plan (cleared w.core) (clock e.input.now) message k to e.input.event good.plan later.core from
    (subst (λ (l : List Output). In (Send message) l) is.1 i)
entry_asked w e RefusedThen message k good is later from i to = absurd (subst (λ (l : List Output). In (Send message) l) is.1 i)
entry_asked w e Halted message k good is later from i to = absurd (subst (λ (l : List Output). In (Send message) l) is.1 i)

pub released_words_are_askable : ReleasedWordsAreAskable
released_words_are_askable w entry message k good step from there to =
    entry_asked w entry entry.outcome message k good step (good_after w entry good step) from (in_list entry.outputs (Send message) there) to
