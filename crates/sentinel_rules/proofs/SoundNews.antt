-- What is heard keeps a core sound, and puts out few frames.
use Rattle.std.proofs.Common.{◌≡◌, ◌≢◌, ℕ, ◌+◌, ◌<◌, ◌≤◌, max, Bool, true, false, eqb, Option, Some, None, List, [], ◌∷◌, ◌++◌, length, length-set, slice_set, refl, sym, ap, subst, ◌∙◌, arith, get_or-set_other}
use Rattle.std.specs.Prelude.{Result, Ok, Err, IfSome, Contains, not, nat_lt, ◌==◌, ◌&&◌, if◌then◌else◌}
use Rattle.std.specs.List.{list_any}
use Rattle.std.proofs.lemmas.Bool.{eqb-false}
use Rattle.std.proofs.lemmas.List.{length-append, length-map}
use Rattle.std.proofs.lemmas.List.Elements.{Contains-get_or}
use Rattle.std.proofs.lemmas.Map.Views.{Contains-from_any}
use Rattle.ballot_law.specs.declared.addresses.Addr.{Addr}
use Rattle.ballot_law.specs.declared.addresses.RunId.{RunId}
use Rattle.ballot_law.specs.declared.cards.Card.{Card}
use Rattle.ballot_law.specs.declared.cards.Kept.{Kept}
use Rattle.ballot_law.specs.declared.cards.TheConstants.{MAX_EPOCH}
use Rattle.ballot_law.specs.declared.messages.NodeName.{NodeName}
use Rattle.ballot_law.specs.declared.messages.NodeName.TheVariants.{SentinelAt, StoreAt, ClientAt, PortAt}
use Rattle.ballot_law.specs.declared.replies.Hello.{Hello}
use Rattle.ballot_law.specs.declared.replies.Info.{Info}
use Rattle.ballot_law.specs.declared.replies.PingReply.{PingReply}
use Rattle.ballot_law.specs.Ballots.{kept_of, card_of}
use Rattle.ballot_law.specs.Hellos.{SpellsHello}
use Rattle.ballot_law.specs.Orders.{same_addr}
use Rattle.ballot_law.specs.Rosters.{no_addr, master_named}
use Rattle.ballot_law.specs.VotesHeard.{greater, kept_at as vote_at, with_hearing}
use Rattle.ballot_law.specs.Reports.{with_report}
use Rattle.failover_states.specs.declared.states.FailoverState.{FailoverState}
use Rattle.failover_states.specs.declared.states.FailoverState.TheVariants.{WaitPromotion, ReconfReplicas}
use Rattle.failover_states.specs.Calls.{epoch_of, promoted, reconfigured}
use Rattle.failover_states.specs.Failovers.{Failover, ended}
use Rattle.failover_states.specs.Replicas.{forgotten, followed, replica_at}
use Rattle.node_texts.specs.declared.faults.TextFault.{TextFault}
use Rattle.node_texts.specs.Hellos.{hello_of}
use Rattle.node_texts.proofs.HelloBack.{hello_is}
use Rattle.ballot_law.proofs.CountedVotes.{both}
use Rattle.sentinel_rules.specs.declared.frames.Frame.TheVariants.{HelloTo, PromoteTo, FollowTo, NoteOf}
use Rattle.ballot_law.specs.declared.node_places.NodePlace.{NodePlace}
use Rattle.sentinel_rules.specs.declared.frames.Frame.{Frame}
use Rattle.sentinel_rules.specs.Plans.{Plan, roster_of, group_size, master_count, settings_at, nodes_of, node_name, node_named}
use Rattle.sentinel_rules.specs.States.{is_master_role, Core, MasterState, NodeState, master_of, node_of, peer_of, failover_of, card_place, is_failing_over, is_tilted, with_master, with_node, with_failover, with_card, is_awaiting, is_at, is_planned}
use Rattle.sentinel_rules.specs.Parts.{Part, quiet, puts, part_if, frame_if}
use Rattle.sentinel_rules.specs.News.{hello_soon, relocated, at_same_address, at_new_address, card_taken, is_heeded, is_newer, raised_to, adopted, hello_of_known, hello_heeded, hello_read, reported, vote_heard, answer_of, answered, node_pinged, peer_pinged, pinged_at, pinged, node_lost, peer_lost, lost_at, connection_lost, disconnected, with_info, promotion, has_followed, reconfiguration, Wrong, wrong_of, can_be_followed, is_role_overdue, is_address_overdue, anew, correction, is_reconfiguring, judged, info_kept, info_at_node, info_of_node, info_read, closing_frames, with_frames, order_taker, refusal_at, refusal_heard, peer_greeted, greeted_at, greeted, node_announced, announced_at}
use Rattle.sentinel_rules.specs.Facts.{IsSound, IsAwaited, awaited}
use Rattle.sentinel_rules.specs.Profiles.{is_redis, candidate_place}
use Rattle.sentinel_rules.proofs.KeptParts.{kept_at, kept_with, kept_raised, other_entry}
use Rattle.sentinel_rules.proofs.Framing.{sound_at, sound_master, sound_current, sound_alike, nodes_with, master_same}
use Rattle.sentinel_rules.proofs.Turns.{IsSoundFailover, ended_sound}
use Rattle.sentinel_rules.proofs.Choices.{same_addr-equal}
use Rattle.sentinel_rules.proofs.SoundTicks.{KeepsSound, keeps_quiet, keeps_if, one_frame, master_alike, sound_failover, own_failover}

-- A configuration is taken

-- a new configuration of a sound core, where none is awaited
pub card_sound : (plan : Plan) (core : Core) (m : ℕ) (card : Card) → IsSound plan core
    → (m < master_count plan → card.epoch ≤ core.kept.current)
    → (m < master_count plan → Contains (nodes_of plan m) card.addr)
    → (m < master_count plan → awaited (failover_of core m).state ≡ None)
    → IsSound plan (with_card core m card)
card_sound plan core m card s low there none =
    sound_at plan core core2 m s refl (λ k apart. refl) refl
    (kept_with plan.conf core.kept core.kept.current m (record (kept_of core.kept m) { card = card }) (omega arith) s.kept.current
    (λ lt. record { addr = there lt; epoch = low lt; voted = (kept_at plan.conf core.kept m lt s.kept).voted; candidate = (kept_at plan.conf core.kept m lt s.kept).candidate })
    s.kept)
    (omega arith)
    (λ k apart. other_entry core.kept core.kept.current m k (record (kept_of core.kept m) { card = card }) apart)
    (λ lt. let i = s.each m lt in
    record {
      heard = i.heard;
      reports = i.reports;
      nodes = i.nodes;
      replicas = i.replicas;
      own = i.own;
      epoch = i.epoch;
      choice = subst (λ o. IfSome o (IsAwaited plan core2.kept m)) (sym (none lt)) tt;
    })
  where
    core2 : Core
    core2 = with_card core m card

pub card_keeps : (plan : Plan) (m now : ℕ) (card : Card) (core : Core) → IsSound plan core
    → (m < master_count plan → card.epoch ≤ core.kept.current)
    → (m < master_count plan → Contains (nodes_of plan m) card.addr)
    → (m < master_count plan → awaited (failover_of core m).state ≡ None)
    → KeepsSound plan 1 (card_taken plan m now card core)
card_keeps plan m now card core s low there none = known (same_addr (card_of core.kept m).addr card.addr)
  where
    carded : IsSound plan (with_card core m card)
    carded = card_sound plan core m card s low there none

    same : MasterState
    same = at_same_address (master_of core m)

    new : MasterState
    new = at_new_address plan.profile now (master_of core m)

    known : (b : Bool) → KeepsSound plan 1
        (if b then quiet (with_card (with_master core m (at_same_address (master_of core m))) m card)
        else puts (with_card (with_master core m (at_new_address plan.profile now (master_of core m))) m card) (NoteOf m (card_of core.kept m).addr ∷ []))
    known true =
        keeps_quiet plan 1 (with_card (with_master core m same) m card)
        (sound_master plan (with_card core m card) m same carded
        (λ lt. master_alike plan (with_card core m card).kept m (master_of core m) same (carded.each m lt) refl refl (length-map (master_of core m).nodes hello_soon) refl))
    known false =
        record {
          sound = sound_master plan (with_card core m card) m new carded
              (λ lt. let i = carded.each m lt in
              record {
                heard = i.heard;
                reports = length-map (master_of core m).reports (λ _. None) ∙ i.reports;
                nodes = length-map (master_of core m).nodes (relocated plan.profile now) ∙ i.nodes;
                replicas = i.replicas;
                own = i.own;
                epoch = i.epoch;
                choice = i.choice;
              });
          few = omega arith;
        }

-- Hellos

pub raised_sound : (plan : Plan) (epoch : ℕ) (core : Core) → epoch ≤ MAX_EPOCH → IsSound plan core → IsSound plan (raised_to epoch core)
raised_sound plan epoch core h s =
    let high : max core.kept.current epoch ≤ MAX_EPOCH = let c : core.kept.current ≤ MAX_EPOCH = s.kept.current in omega arith in
    sound_current plan core (max core.kept.current epoch) s (omega arith) (kept_raised plan.conf core.kept (max core.kept.current epoch) (omega arith) high s.kept)

pub adopted_keeps : (plan : Plan) (m now : ℕ) (card : Card) (core : Core) → card.epoch ≤ MAX_EPOCH → Contains (nodes_of plan m) card.addr → IsSound plan core →
    KeepsSound plan 1 (adopted plan m now card core)
adopted_keeps plan m now card core h there s =
    card_keeps plan m now card (with_failover high m end) stopped (λ lt. omega arith) (λ lt. there)
    (λ lt. ap (λ (master : MasterState). awaited master.failover.state)
    (master_same high m (record (master_of high m) { failover = end }) (subst (λ (n : ℕ). m < n) (sym s.masters) lt)))
  where
    high : Core
    high = raised_to card.epoch core

    end : Failover
    end = ended (failover_of core m)

    stopped : IsSound plan (with_failover high m end)
    stopped =
        sound_failover plan high m end (raised_sound plan card.epoch core h s)
        (λ lt. ended_sound plan high.kept m (failover_of core m) (s.each m lt).replicas)

known_keeps : (plan : Plan) (m now : ℕ) (text : List ℕ) (hello : Hello) (core : Core) → SpellsHello text hello → IsSound plan core →
    KeepsSound plan 1 (hello_of_known plan m now hello core)
known_keeps plan m now text hello core spelled s =
    keeps_if plan 1 (is_newer plan high m hello.card) high (adopted plan m now hello.card) t
    (λ h. adopted_keeps plan m now hello.card high spelled.is_hello.epoch
    (Contains-from_any {eq = same_addr} same_addr-equal hello.card.addr (nodes_of plan m)
    (both (nat_lt (card_of high.kept m).epoch hello.card.epoch) (list_any (same_addr hello.card.addr) (nodes_of plan m)) h).1) t)
  where
    high : Core
    high = raised_to hello.current core

    t : IsSound plan high
    t = raised_sound plan hello.current core spelled.is_hello.current s

pub greeted_at_sound : (plan : Plan) (now : ℕ) (at : Option ℕ) (core : Core) → IsSound plan core → IsSound plan (greeted_at now at core)
greeted_at_sound plan now None core s = s
greeted_at_sound plan now (Some place) core s =
    sound_alike plan core (record core { peers = slice_set core.peers place (peer_greeted now (peer_of core place)) }) refl refl
    (length-set core.peers place (peer_greeted now (peer_of core place))) s

heeded_keeps : (plan : Plan) (now : ℕ) (m : Option ℕ) (text : List ℕ) (hello : Hello) (core : Core) → SpellsHello text hello → IsSound plan core →
    KeepsSound plan 1 (hello_heeded plan now m hello core)
heeded_keeps plan now None text hello core spelled s = keeps_quiet plan 1 core s
heeded_keeps plan now (Some m) text hello core spelled s =
    known_keeps plan m now text hello (greeted plan now hello core) spelled (greeted_at_sound plan now (candidate_place plan (Some hello.id)) core s)

read_keeps : (plan : Plan) (now : ℕ) (text : List ℕ) (read : Result Hello TextFault) (core : Core) → hello_of text ≡ read → IsSound plan core →
    KeepsSound plan 1 (hello_read plan now read core)
read_keeps plan now text (Err fault) core e s = keeps_quiet plan 1 core s
read_keeps plan now text (Ok hello) core e s =
    keeps_if plan 1 (is_heeded plan hello) core (hello_heeded plan now (master_named (roster_of plan) hello.master) hello) s
    (λ h. heeded_keeps plan now (master_named (roster_of plan) hello.master) text hello core (hello_is text hello e) s)

pub hello_keeps : (plan : Plan) (now : ℕ) (text : List ℕ) (core : Core) → IsSound plan core → KeepsSound plan 1 (hello_read plan now (hello_of text) core)
hello_keeps plan now text core s = read_keeps plan now text (hello_of text) core refl s

-- Answers

sound_cond : (plan : Plan) (test : Bool) (a b : Core) → (test ≡ true → IsSound plan a) → (test ≡ false → IsSound plan b) → IsSound plan (if test then a else b)
sound_cond plan true a b f g = f refl
sound_cond plan false a b f g = g refl

pub reported_sound : (plan : Plan) (voter m now : ℕ) (addr : Addr) (down : Bool) (core : Core) → IsSound plan core → IsSound plan (reported voter m now addr down core)
reported_sound plan voter m now addr down core s =
    sound_cond plan (same_addr addr (card_of core.kept m).addr) (with_master core m new) core
    (λ h. sound_master plan core m new s (λ lt. master_alike plan core.kept m (master_of core m) new (s.each m lt) refl
    (length-set (master_of core m).reports voter (Some (record { down = down; at = now }))) refl refl))
    (λ h. s)
  where
    new : MasterState
    new = record (master_of core m) { reports = with_report voter (record { down = down; at = now }) (master_of core m).reports }

vote_sound : (plan : Plan) (voter m epoch : ℕ) (leader : Option RunId) (core : Core) → plan.place ≢ voter → IsSound plan core → IsSound plan (vote_heard voter m epoch leader core)
vote_sound plan voter m epoch None core apart s = s
vote_sound plan voter m epoch (Some leader) core apart s =
    sound_master plan core m (record (master_of core m) { heard = with_hearing voter epoch leader (master_of core m).heard }) s
    (λ lt. let i = s.each m lt in
    record {
      heard = length-set (master_of core m).heard voter (Some (greater (vote_at (master_of core m).heard voter) (record { candidate = leader; epoch = epoch }))) ∙ i.heard;
      reports = i.reports;
      nodes = i.nodes;
      replicas = i.replicas;
      own = get_or-set_other (master_of core m).heard voter plan.place (Some (greater (vote_at (master_of core m).heard voter) (record { candidate = leader; epoch = epoch })))
          None apart ∙ i.own;
      epoch = i.epoch;
      choice = i.choice;
    })

pub not_true : (b : Bool) → not b ≡ true → b ≡ false
not_true true h = cc
not_true false h = refl

pub parts3 : (a b c : Bool) → (a && b && c) ≡ true → (a ≡ true) × (b ≡ true) × (c ≡ true)
parts3 true true true h = (refl, refl, refl)
parts3 true true false h = absurd (cc)
parts3 true false c h = absurd (cc)
parts3 false b c h = absurd (cc)

answer_sound : (plan : Plan) (voter m now : ℕ) (addr : Addr) (down : Bool) (leader : Option RunId) (epoch : ℕ) (core : Core) → IsSound plan core →
    IsSound plan (answer_of plan voter m now addr down leader epoch core)
answer_sound plan voter m now addr down leader epoch core s =
    sound_cond plan (nat_lt voter (group_size plan) && not (voter == plan.place) && nat_lt m (master_count plan))
    (vote_heard voter m epoch leader (reported voter m now addr down core)) core
    (λ h. vote_sound plan voter m epoch leader (reported voter m now addr down core)
    (λ e. eqb-false voter plan.place (not_true (eqb voter plan.place) (parts3 (nat_lt voter (group_size plan)) (not (voter == plan.place)) (nat_lt m (master_count plan)) h).1)
    (sym e))
    (reported_sound plan voter m now addr down core s))
    (λ h. s)

pub answered_sound : (plan : Plan) (voter : NodeName) (m now : ℕ) (addr : Addr) (down : Bool) (leader : Option RunId) (epoch : ℕ) (core : Core) → IsSound plan core →
    IsSound plan (answered plan voter m now addr down leader epoch core)
answered_sound plan (SentinelAt voter) m now addr down leader epoch core s = answer_sound plan voter m now addr down leader epoch core s
answered_sound plan (StoreAt number) m now addr down leader epoch core s = s
answered_sound plan (ClientAt number) m now addr down leader epoch core s = s
answered_sound plan (PortAt number) m now addr down leader epoch core s = s

-- Replies to PING

pub node_sound : (plan : Plan) (core : Core) (m k : ℕ) (node : NodeState) → IsSound plan core → IsSound plan (with_node core m k node)
node_sound plan core m k node s =
    sound_master plan core m (record (master_of core m) { nodes = slice_set (master_of core m).nodes k node }) s
    (λ lt. nodes_with plan core.kept m (master_of core m) (slice_set (master_of core m).nodes k node) (s.each m lt) (length-set (master_of core m).nodes k node))

pinged_at_sound : (plan : Plan) (now : ℕ) (reply : PingReply) (at : Option NodePlace) (core : Core) → IsSound plan core → IsSound plan (pinged_at now reply at core)
pinged_at_sound plan now reply None core s = s
pinged_at_sound plan now reply (Some at) core s = node_sound plan core at.master at.place (node_pinged now reply (node_of core at.master at.place)) s

pub pinged_sound : (plan : Plan) (node : NodeName) (now : ℕ) (reply : PingReply) (core : Core) → IsSound plan core → IsSound plan (pinged plan node now reply core)
pinged_sound plan (SentinelAt place) now reply core s =
    sound_cond plan (nat_lt place (group_size plan) && not (place == plan.place)) (record core { peers = slice_set core.peers place (peer_pinged now reply (peer_of core place)) })
    core
    (λ h. sound_alike plan core (record core { peers = slice_set core.peers place (peer_pinged now reply (peer_of core place)) }) refl refl
    (length-set core.peers place (peer_pinged now reply (peer_of core place))) s)
    (λ h. s)
pinged_sound plan (StoreAt number) now reply core s = pinged_at_sound plan now reply (node_named plan (StoreAt number)) core s
pinged_sound plan (ClientAt number) now reply core s = s
pinged_sound plan (PortAt number) now reply core s = s

-- Connections that were lost

lost_at_sound : (plan : Plan) (at : Option NodePlace) (core : Core) → IsSound plan core → IsSound plan (lost_at at core)
lost_at_sound plan None core s = s
lost_at_sound plan (Some at) core s = node_sound plan core at.master at.place (node_lost (node_of core at.master at.place)) s

lost_sound : (plan : Plan) (node : NodeName) (core : Core) → IsSound plan core → IsSound plan (connection_lost plan node core)
lost_sound plan (SentinelAt place) core s =
    sound_cond plan (nat_lt place (group_size plan) && not (place == plan.place)) (record core { peers = slice_set core.peers place (peer_lost (peer_of core place)) })
    core
    (λ h. sound_alike plan core (record core { peers = slice_set core.peers place (peer_lost (peer_of core place)) }) refl refl
    (length-set core.peers place (peer_lost (peer_of core place))) s)
    (λ h. s)
lost_sound plan (StoreAt number) core s = lost_at_sound plan (node_named plan (StoreAt number)) core s
lost_sound plan (ClientAt number) core s = s
lost_sound plan (PortAt number) core s = s

pub disconnected_sound : (plan : Plan) (node : NodeName) (core : Core) → IsSound plan core → IsSound plan (disconnected plan node core)
disconnected_sound plan node core s =
    sound_cond plan (is_redis plan.profile) (connection_lost plan node core) core (λ h. lost_sound plan node core s) (λ h. s)

-- Nodes that refuse to hand over, or to be the master

refusal_at_sound : (plan : Plan) (at : Option NodePlace) (core : Core) → IsSound plan core → IsSound plan (refusal_at plan at core)
refusal_at_sound plan None core s = s
refusal_at_sound plan (Some at) core s =
    sound_cond plan (is_awaiting (failover_of core at.master).state && is_at (order_taker plan core at.master) at.place)
    (with_master core at.master (record (master_of core at.master) { refused = true })) core
    (λ h. sound_master plan core at.master (record (master_of core at.master) { refused = true }) s
    (λ lt. master_alike plan core.kept at.master (master_of core at.master) (record (master_of core at.master) { refused = true }) (s.each at.master lt) refl refl refl refl))
    (λ h. s)

pub refusal_sound : (plan : Plan) (node : NodeName) (core : Core) → IsSound plan core → IsSound plan (refusal_heard plan node core)
refusal_sound plan node core s =
    sound_cond plan (is_redis plan.profile) (refusal_at plan (node_named plan node) core) core (λ h. refusal_at_sound plan (node_named plan node) core s) (λ h. s)

-- INFO

closing_few : (plan : Plan) (m heir old : ℕ) (planned : Bool) → length (closing_frames plan m heir old planned) ≤ 3
closing_few plan m heir old planned = by_tests (is_redis plan.profile) planned
  where
    by_tests : (hello orders : Bool) → length (frame_if hello (HelloTo (node_name plan m heir) m)
        ++ (frame_if orders (PromoteTo (node_name plan m heir)) ++ frame_if orders (FollowTo (node_name plan m old) m))) ≤ 3
    by_tests true true = omega arith
    by_tests true false = omega arith
    by_tests false true = omega arith
    by_tests false false = omega arith

keeps_frames : (plan : Plan) (room more : ℕ) (part : Part) (frames : List Frame) → length frames ≤ more → KeepsSound plan room part → KeepsSound plan (room + more) (with_frames part frames)
keeps_frames plan room more part frames few f =
    record {
      sound = f.sound;
      few = let a : length part.frames ≤ room = f.few in
          let e : length (part.frames ++ frames) ≡ length part.frames + length frames = length-append part.frames frames in
          omega (arith, a, e, few);
    }

promotion_keeps : (plan : Plan) (m k now : ℕ) (info : Info) (state : FailoverState) (core : Core) → (failover_of core m).state ≡ state → IsSound plan core →
    KeepsSound plan 4 (promotion plan m k now info state core)
promotion_keeps plan m k now info (WaitPromotion epoch choice former) core e s =
    keeps_if plan 4 ((k == choice.place) && is_master_role info.role) core
    (λ c. with_frames
    (card_taken plan m now (record { epoch = epoch; addr = choice.addr })
    (with_failover c m (promoted (WaitPromotion epoch choice former) (record (failover_of c m) { moment = now }))))
    (closing_frames plan m k (card_place plan c m) (is_planned c m))) s
    (λ h. keeps_frames plan 1 3 _ (closing_frames plan m k (card_place plan core m) (is_planned core m)) (closing_few plan m k (card_place plan core m) (is_planned core m))
    (card_keeps plan m now (record { epoch = epoch; addr = choice.addr }) (with_failover core m f)
    (sound_failover plan core m f s (λ lt. record { replicas = length-map (failover_of core m).replicas forgotten ∙ (s.each m lt).replicas; epoch = low lt; choice = tt }))
    low
    (λ lt. let c : IsAwaited plan core.kept m choice = subst (λ (st : FailoverState). IfSome (awaited st) (IsAwaited plan core.kept m)) e (s.each m lt).choice in
    subst (λ (addr : Addr). Contains (nodes_of plan m) addr) (sym c.addressed) (Contains-get_or (nodes_of plan m) choice.place no_addr c.listed))
    (λ lt. ap (λ (master : MasterState). awaited master.failover.state)
    (master_same core m (record (master_of core m) { failover = f }) (subst (λ (n : ℕ). m < n) (sym s.masters) lt)))))
  where
    f : Failover
    f = promoted (WaitPromotion epoch choice former) (record (failover_of core m) { moment = now })

    low : m < master_count plan → epoch ≤ core.kept.current
    low lt = subst (λ (st : FailoverState). IfSome (epoch_of st) (λ epoch. epoch ≤ core.kept.current)) e (s.each m lt).epoch
promotion_keeps plan m k now info _ core e s = keeps_quiet plan 4 core s

pub reconfigured_sound : (plan : Plan) (kept : Kept) (m : ℕ) (state : FailoverState) (f : Failover) (k : ℕ) → IsSoundFailover plan kept m f →
    IsSoundFailover plan kept m (reconfigured state f k)
reconfigured_sound plan kept m (ReconfReplicas epoch choice former) f k s =
    record { replicas = length-set f.replicas k (followed (replica_at f.replicas k)) ∙ s.replicas; epoch = s.epoch; choice = s.choice }
reconfigured_sound plan kept m _ f k s = s

reconfiguration_keeps : (plan : Plan) (m k : ℕ) (info : Info) (core : Core) → IsSound plan core → KeepsSound plan 4 (reconfiguration m k info core)
reconfiguration_keeps plan m k info core s =
    keeps_if plan 4 (has_followed info (card_of core.kept m).addr) core (λ c. quiet (with_failover c m (reconfigured (failover_of c m).state (failover_of c m) k))) s
    (λ h. keeps_quiet plan 4 (with_failover core m (reconfigured (failover_of core m).state (failover_of core m) k))
    (sound_failover plan core m (reconfigured (failover_of core m).state (failover_of core m) k) s
    (λ lt. reconfigured_sound plan core.kept m (failover_of core m).state (failover_of core m) k (own_failover plan core m s lt))))

correction_keeps : (plan : Plan) (m k now : ℕ) (info : Info) (core : Core) → IsSound plan core → KeepsSound plan 4 (correction plan m k now info core)
correction_keeps plan m k now info core s =
    let wrong : Wrong = wrong_of now info (card_of core.kept m).addr (node_of core m k) in
    let role_told : Bool = is_role_overdue now wrong && can_be_followed plan core m now in
    let address_told : Bool = is_address_overdue (settings_at plan m).timeout now wrong && can_be_followed plan core m now in
    record {
      sound = node_sound plan core m k (record (node_of core m k) { wrong_role = anew role_told now wrong.role; wrong_address = anew address_told now wrong.address }) s;
      few = let l : length (frame_if (if role_told then true else address_told) (FollowTo (node_name plan m k) m)) ≤ 1 =
          one_frame (if role_told then true else address_told) (FollowTo (node_name plan m k) m) in omega (arith, l);
    }

keeps_cond : (plan : Plan) (room : ℕ) (test : Bool) (a b : Part) → KeepsSound plan room a → KeepsSound plan room b → KeepsSound plan room (if test then a else b)
keeps_cond plan room true a b f g = f
keeps_cond plan room false a b f g = g

judged_keeps : (plan : Plan) (m k now : ℕ) (info : Info) (core : Core) → IsSound plan core → KeepsSound plan 4 (judged plan m k now info core)
judged_keeps plan m k now info core s =
    keeps_cond plan 4 (is_failing_over core m)
    (if is_reconfiguring (failover_of core m).state then reconfiguration m k info core else promotion plan m k now info (failover_of core m).state core)
    (part_if (not (k == card_place plan core m)) core (correction plan m k now info))
    (keeps_cond plan 4 (is_reconfiguring (failover_of core m).state) (reconfiguration m k info core) (promotion plan m k now info (failover_of core m).state core)
    (reconfiguration_keeps plan m k info core s) (promotion_keeps plan m k now info (failover_of core m).state core refl s))
    (keeps_if plan 4 (not (k == card_place plan core m)) core (correction plan m k now info) s (λ h. correction_keeps plan m k now info core s))

at_node_keeps : (plan : Plan) (m k now : ℕ) (info : Info) (core : Core) → IsSound plan core → KeepsSound plan 4 (info_at_node plan m k now info core)
at_node_keeps plan m k now info core s =
    let t : IsSound plan (info_kept m k now info core) = node_sound plan core m k (with_info now info (node_of core m k)) s in
    keeps_if plan 4 (not (is_tilted (info_kept m k now info core))) (info_kept m k now info core) (judged plan m k now info) t
    (λ h. judged_keeps plan m k now info (info_kept m k now info core) t)

of_node_keeps : (plan : Plan) (now : ℕ) (at : Option NodePlace) (info : Info) (core : Core) → IsSound plan core → KeepsSound plan 4 (info_of_node plan now at info core)
of_node_keeps plan now None info core s = keeps_quiet plan 4 core s
of_node_keeps plan now (Some at) info core s = at_node_keeps plan at.master at.place now info core s

pub announced_at_sound : (plan : Plan) (announced : Bool) (at : Option NodePlace) (core : Core) → IsSound plan core → IsSound plan (announced_at announced at core)
announced_at_sound plan announced None core s = s
announced_at_sound plan announced (Some at) core s = node_sound plan core at.master at.place (node_announced announced (node_of core at.master at.place)) s

pub info_keeps : (plan : Plan) (node : NodeName) (now : ℕ) (read : Result Info TextFault) (announced : Bool) (core : Core) → IsSound plan core →
    KeepsSound plan 4 (info_read plan node now read announced core)
info_keeps plan node now (Err fault) announced core s = keeps_quiet plan 4 core s
info_keeps plan node now (Ok info) announced core s =
    of_node_keeps plan now (node_named plan node) info (announced_at announced (node_named plan node) core)
    (announced_at_sound plan announced (node_named plan node) core s)
