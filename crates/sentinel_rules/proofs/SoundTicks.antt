-- A tick keeps a core sound, and puts out few frames.
use Rattle.std.proofs.Common.{◌≡◌, ℕ, zero, suc, ◌+◌, ◌*◌, ◌<◌, ◌≤◌, Bool, true, false, Option, Some, None, List, [], ◌∷◌, ◌++◌, length, slice_index_or, slice_set, refl, sym, ap, subst, ◌∙◌, arith}
use Rattle.std.specs.Prelude.{IfSome, is_some, not, unwrap_or, nat_lt, nat_le, ◌==◌, ◌&&◌, if◌then◌else◌}
use Rattle.std.proofs.lemmas.Bool.{ltb-true, leb-true}
use Rattle.std.proofs.lemmas.List.{length-append, length-map}
use Rattle.ballot_law.specs.declared.rosters.TheConstants.{NODES_MAX, SENTINELS_MAX}
use Rattle.ballot_law.specs.declared.addresses.RunId.{RunId}
use Rattle.ballot_law.specs.declared.cards.Kept.{Kept}
use Rattle.ballot_law.specs.declared.cards.TheConstants.{MAX_EPOCH}
use Rattle.ballot_law.specs.Ballots.{kept_of, card_of}
use Rattle.ballot_law.specs.Orders.{same_id}
use Rattle.ballot_law.specs.OwnVotes.{Book, grants, asked, raised}
use Rattle.ballot_law.proofs.CountedVotes.{both}
use Rattle.failover_states.specs.declared.states.FailoverState.{FailoverState}
use Rattle.failover_states.specs.declared.states.FailoverState.TheVariants.{Idle, WaitStart, SelectReplica, SendPromotion, WaitPromotion, ReconfReplicas, UpdateConfig}
use Rattle.failover_states.specs.declared.states.Row.{Row}
use Rattle.failover_states.specs.declared.states.Row.TheVariants.{StartFailover, Elected, Promote, PromotionTimeout}
use Rattle.failover_states.specs.Calls.{epoch_of, choice_of as chosen_place, recalled, recalled_to}
use Rattle.failover_states.specs.Failovers.{Failover, entering, ended}
use Rattle.failover_states.specs.Known.{Known}
use Rattle.failover_states.specs.Replicas.{unordered}
use Rattle.failover_states.specs.Table.{Turn, turned, table, quieted, may_start, started, is_long_ago}
use Rattle.sentinel_rules.specs.declared.frames.Frame.{Frame}
use Rattle.sentinel_rules.specs.declared.frames.TheConstants.{FRAMES_MAX}
use Rattle.sentinel_rules.specs.declared.frames.Frame.TheVariants.{PingTo, InfoTo, HelloTo, FollowTo, AskTo, HandOverTo}
use Rattle.sentinel_rules.specs.Plans.{Plan, me, group_size, master_count, nodes_of, node_name}
use Rattle.sentinel_rules.specs.States.{Core, MasterState, NodeState, master_of, failover_of, is_idle, is_failing_over, is_tilted, is_odown_at, with_master, with_failover, with_current, is_wished, is_planned, is_unrefused, card_place}
use Rattle.sentinel_rules.specs.Parts.{Part, quiet, puts, then_part, part_if, frame_if, changed_from, frames_from}
use Rattle.sentinel_rules.specs.Profiles.{is_asking, election_ms, marked_at, marked, rest_of, rested_at, rested, awaited_up, disobeyed, with_failed, by_profile}
use Rattle.sentinel_rules.specs.declared.profiles.Profile.{Profile}
use Rattle.sentinel_rules.specs.declared.profiles.Profile.TheVariants.{Strict, Redis}
use Rattle.sentinel_rules.specs.Endings.{is_vain, given_up, is_overtaken, taken_up, let_go}
use Rattle.sentinel_rules.specs.Votes.{book_of, with_book, mark_for}
use Rattle.sentinel_rules.specs.Contacts.{since_after}
use Rattle.sentinel_rules.specs.Ticks.{is_peer_due, peer_after, peer_frames, peers_part, Sending, sending_of, is_ping_due, is_info_due, is_hello_due, node_after, node_frames, nodes_part, campaign_epoch, known_of, turn_of, with_vote, with_win, promote_frames, order_frames, row_part, after_start, is_start_due, start_turn, starts_now, start_part, is_ask_due, ask_candidate, ask_frames, ask_part, odown_kept, odown_part, failover_part, judging_part, master_part, with_reading, tick, planned_start, with_plan, planned_if, hands_over}
use Rattle.sentinel_rules.specs.Facts.{IsSoundPlan, IsSound, IsSoundMaster, IsAwaited, awaited}
use Rattle.sentinel_rules.proofs.KeptParts.{kept_at, kept_with, kept_raised, other_entry, own_entry as own}
use Rattle.sentinel_rules.proofs.Framing.{sound_at, sound_master, sound_current, sound_alike, master_with, nodes_with, master_later}
use Rattle.sentinel_rules.proofs.Turns.{IsSoundFailover, turn_sound, turn_by, ended_sound}
use Rattle.sentinel_rules.proofs.Choices.{best_awaited}

-- Parts

-- the core is sound, and no more is put out than that
pub record KeepsSound (plan : Plan) (room : ℕ) (part : Part) : Type 0 where
  pub sound : IsSound plan part.core
  pub few : length part.frames ≤ room

pub keeps_quiet : (plan : Plan) (room : ℕ) (core : Core) → IsSound plan core → KeepsSound plan room (quiet core)
keeps_quiet plan room core s = record { sound = s; few = omega arith }

pub keeps_more : (plan : Plan) (room more : ℕ) (part : Part) → room ≤ more → KeepsSound plan room part → KeepsSound plan more part
keeps_more plan room more part le f = record { sound = f.sound; few = let l : length part.frames ≤ room = f.few in omega arith }

pub keeps_if : (plan : Plan) (room : ℕ) (test : Bool) (core : Core) (part : Core → Part) → IsSound plan core → (test ≡ true → KeepsSound plan room (part core)) →
    KeepsSound plan room (part_if test core part)
keeps_if plan room true core part s f = f refl
keeps_if plan room false core part s f = keeps_quiet plan room core s

pub keeps_then : (plan : Plan) (room more : ℕ) (first : Part) (part : Core → Part) → KeepsSound plan room first →
    (IsSound plan first.core → KeepsSound plan more (part first.core)) → KeepsSound plan (room + more) (then_part first part)
keeps_then plan room more first part f g =
    let after : KeepsSound plan more (part first.core) = g f.sound in
    record {
      sound = after.sound;
      few = let a : length first.frames ≤ room = f.few in
          let b : length (part first.core).frames ≤ more = after.few in
          let e : length (first.frames ++ (part first.core).frames) ≡ length first.frames + length (part first.core).frames = length-append first.frames (part first.core).frames in
          omega arith;
    }

-- Lists

pub length-changed_from : {X : Type 0} (change : ℕ → X → X) (place : ℕ) (xs : List X) → length (changed_from change place xs) ≡ length xs
length-changed_from change place [] = refl
length-changed_from change place (x ∷ xs) = ap suc (length-changed_from change (place + 1) xs)

pub one_frame : (test : Bool) (frame : Frame) → length (frame_if test frame) ≤ 1
one_frame true frame = omega arith
one_frame false frame = omega arith

pub one_each : {X : Type 0} (frames : ℕ → X → List Frame) → ((k : ℕ) (x : X) → length (frames k x) ≤ 1) → (place : ℕ) (xs : List X) →
    length (frames_from frames place xs) ≤ length xs
one_each frames f place [] = omega arith
one_each frames f place (x ∷ xs) =
    let a : length (frames place x) ≤ 1 = f place x in
    let b : length (frames_from frames (place + 1) xs) ≤ length xs = one_each frames f (place + 1) xs in
    let e : length (frames place x ++ frames_from frames (place + 1) xs) ≡ length (frames place x) + length (frames_from frames (place + 1) xs) =
    length-append (frames place x) (frames_from frames (place + 1) xs) in
    omega arith

pub three_each : {X : Type 0} (frames : ℕ → X → List Frame) → ((k : ℕ) (x : X) → length (frames k x) ≤ 3) → (place : ℕ) (xs : List X) →
    length (frames_from frames place xs) ≤ 3 * length xs
three_each frames f place [] = omega arith
three_each frames f place (x ∷ xs) =
    let a : length (frames place x) ≤ 3 = f place x in
    let b : length (frames_from frames (place + 1) xs) ≤ 3 * length xs = three_each frames f (place + 1) xs in
    let e : length (frames place x ++ frames_from frames (place + 1) xs) ≡ length (frames place x) + length (frames_from frames (place + 1) xs) =
    length-append (frames place x) (frames_from frames (place + 1) xs) in
    omega arith

-- Sizes

pub few_peers : (plan : Plan) (core : Core) → IsSoundPlan plan → IsSound plan core → length core.peers ≤ SENTINELS_MAX
few_peers plan core p s =
    let e : length core.peers ≡ group_size plan = s.peers in let l : group_size plan ≤ SENTINELS_MAX = p.conf.few_sentinels in omega arith

pub few_nodes : (plan : Plan) (core : Core) (m : ℕ) → IsSoundPlan plan → IsSound plan core → m < master_count plan → length (master_of core m).nodes ≤ NODES_MAX
few_nodes plan core m p s lt =
    let e : length (master_of core m).nodes ≡ length (nodes_of plan m) = (s.each m lt).nodes in
    let l : length (nodes_of plan m) ≤ NODES_MAX = p.conf.few_nodes m lt in
    omega arith

-- What is due

pub peers_keeps : (plan : Plan) (m now : ℕ) (core : Core) → IsSoundPlan plan → IsSound plan core → KeepsSound plan 64 (peers_part plan m now core)
peers_keeps plan zero now core p s =
    record {
      sound = sound_alike plan core (record core { peers = changed_from (peer_after plan now) 0 core.peers }) refl refl (length-changed_from (peer_after plan now) 0 core.peers) s;
      few = let a : length (frames_from (peer_frames plan now) 0 core.peers) ≤ length core.peers =
          one_each (peer_frames plan now) (λ k x. one_frame (is_peer_due plan now k x) (PingTo _)) 0 core.peers in
          let b : length core.peers ≤ SENTINELS_MAX = few_peers plan core p s in
          omega arith;
    }
peers_keeps plan (suc m) now core p s = keeps_quiet plan 64 core s

node_few : (plan : Plan) (m : ℕ) (s : Sending) (k : ℕ) (node : NodeState) → length (node_frames plan m s k node) ≤ 3
node_few plan m s k node =
    let a : length (frame_if (is_ping_due s node) (PingTo (node_name plan m k))) ≤ 1 = one_frame (is_ping_due s node) (PingTo (node_name plan m k)) in
    let b : length (frame_if (is_info_due s k node) (InfoTo (node_name plan m k))) ≤ 1 = one_frame (is_info_due s k node) (InfoTo (node_name plan m k)) in
    let c : length (frame_if (is_hello_due s node) (HelloTo (node_name plan m k) m)) ≤ 1 = one_frame (is_hello_due s node) (HelloTo (node_name plan m k) m) in
    rw (
      length-append (frame_if (is_ping_due s node) (PingTo (node_name plan m k)))
          (frame_if (is_info_due s k node) (InfoTo (node_name plan m k)) ++ frame_if (is_hello_due s node) (HelloTo (node_name plan m k) m)),
      length-append (frame_if (is_info_due s k node) (InfoTo (node_name plan m k))) (frame_if (is_hello_due s node) (HelloTo (node_name plan m k) m)),
    ) (omega arith)

pub nodes_keeps : (plan : Plan) (m now : ℕ) (core : Core) → IsSoundPlan plan → m < master_count plan → IsSound plan core → KeepsSound plan 768 (nodes_part plan m now core)
nodes_keeps plan m now core p lt s =
    let g : Sending = sending_of plan core m now in
    let nodes : List NodeState = (master_of core m).nodes in
    record {
      sound = sound_master plan core m (record (master_of core m) { nodes = changed_from (node_after g) 0 nodes }) s
          (λ l. nodes_with plan core.kept m (master_of core m) (changed_from (node_after g) 0 nodes) (s.each m l) (length-changed_from (node_after g) 0 nodes));
      few = let a : length (frames_from (node_frames plan m g) 0 nodes) ≤ 3 * length nodes = three_each (node_frames plan m g) (λ k node. node_few plan m g k node) 0 nodes in
          let b : length nodes ≤ NODES_MAX = few_nodes plan core m p s lt in
          omega arith;
    }

-- a master of which neither the votes, nor the sizes, nor the failover changed
pub master_alike : (plan : Plan) (kept : Kept) (m : ℕ) (master master2 : MasterState) → IsSoundMaster plan kept m master
    → master2.heard ≡ master.heard → length master2.reports ≡ length master.reports → length master2.nodes ≡ length master.nodes → master2.failover ≡ master.failover
    → IsSoundMaster plan kept m master2
master_alike plan kept m master master2 s heard reports nodes failover =
    record {
      heard = ap (λ xs. length xs) heard ∙ s.heard;
      reports = reports ∙ s.reports;
      nodes = nodes ∙ s.nodes;
      replicas = ap (λ (f : Failover). length f.replicas) failover ∙ s.replicas;
      own = ap (λ xs. slice_index_or xs plan.place None) heard ∙ s.own;
      epoch = subst (λ (f : Failover). IfSome (epoch_of f.state) (λ epoch. epoch ≤ kept.current)) (sym failover) s.epoch;
      choice = subst (λ (f : Failover). IfSome (awaited f.state) (IsAwaited plan kept m)) (sym failover) s.choice;
    }

judged_sound : (plan : Plan) (m now : ℕ) (core : Core) → IsSound plan core → IsSound plan (odown_kept plan m now core)
judged_sound plan m now core s =
    sound_master plan core m found s (λ lt. master_alike plan core.kept m (master_of core m) found (s.each m lt) refl refl refl refl)
  where
    found : MasterState
    found = record (master_of core m) {
      odown = is_odown_at plan core m now;
      odown_since = since_after (is_odown_at plan core m now) now (master_of core m).odown_since;
    }

-- A failover that comes to nothing, or goes on in another way

-- another failover of a master, and what is kept of its switches
switched_sound : (plan : Plan) (core : Core) (m : ℕ) (failover : Failover) (planned : Option ℕ) (refused : Bool) → IsSound plan core
    → (m < master_count plan → IsSoundFailover plan core.kept m failover)
    → IsSound plan (with_master core m (record (master_of core m) { failover = failover; planned = planned; refused = refused }))
switched_sound plan core m failover planned refused s f =
    sound_master plan core m (record (master_of core m) { failover = failover; planned = planned; refused = refused }) s
    (λ lt. let one : MasterState = record (master_of core m) { failover = failover } in
    master_alike plan core.kept m one (record one { planned = planned; refused = refused })
    (master_with plan core.kept m (master_of core m) failover (s.each m lt) ((f lt).replicas ∙ sym (s.each m lt).replicas) (f lt).epoch (f lt).choice)
    refl refl refl refl)

recalled_sound : (plan : Plan) (kept : Kept) (m now : ℕ) (state : FailoverState) (f : Failover) → length f.replicas ≡ length (nodes_of plan m)
    → IfSome (epoch_of state) (λ epoch. epoch ≤ kept.current) → IfSome (awaited state) (IsAwaited plan kept m)
    → IsSoundFailover plan kept m (entering (recalled_to state) now f)
recalled_sound plan kept m now Idle f r e c = record { replicas = r; epoch = e; choice = c }
recalled_sound plan kept m now (WaitStart epoch) f r e c = record { replicas = r; epoch = e; choice = c }
recalled_sound plan kept m now (SelectReplica epoch) f r e c = record { replicas = r; epoch = e; choice = c }
recalled_sound plan kept m now (SendPromotion epoch choice) f r e c = record { replicas = r; epoch = e; choice = c }
recalled_sound plan kept m now (WaitPromotion epoch choice former) f r e c = record { replicas = r; epoch = e; choice = c }
recalled_sound plan kept m now (ReconfReplicas epoch choice former) f r e c = record { replicas = r; epoch = e; choice = c }
recalled_sound plan kept m now (UpdateConfig epoch choice) f r e c = record { replicas = r; epoch = e; choice = c }

let_go_sound : (plan : Plan) (m now : ℕ) (core : Core) → IsSound plan core → IsSound plan (let_go plan m now core)
let_go_sound plan m now core s = by_rule plan.profile (is_vain plan core m now) (is_overtaken plan core m now)
  where
    by_rule : (profile : Profile) (vain overtaken : Bool) →
        IsSound plan (by_profile profile core (if vain then given_up plan m now core else (if overtaken then taken_up m now core else core)))
    by_rule Strict vain overtaken = s
    by_rule Redis true overtaken =
        switched_sound plan core m (marked (rested_at plan core m now 0) (ended (failover_of core m)))
        (if is_planned core m then None else (master_of core m).planned) (master_of core m).refused s
        (λ lt. let f = ended_sound plan core.kept m (failover_of core m) (s.each m lt).replicas in
        record { replicas = f.replicas; epoch = tt; choice = tt })
    by_rule Redis false true =
        switched_sound plan core m (recalled now (failover_of core m)) None false s
        (λ lt. recalled_sound plan core.kept m now (failover_of core m).state (failover_of core m) (s.each m lt).replicas (s.each m lt).epoch (s.each m lt).choice)
    by_rule Redis false false = s

pub odown_keeps : (plan : Plan) (m now : ℕ) (core : Core) → IsSound plan core → KeepsSound plan 0 (odown_part plan m now core)
odown_keeps plan m now core s =
    keeps_quiet plan 0 (let_go plan m now (odown_kept plan m now core)) (let_go_sound plan m now (odown_kept plan m now core) (judged_sound plan m now core s))

-- Votes

-- a failover of a sound core that may take the place of the one that is there
pub sound_failover : (plan : Plan) (core : Core) (m : ℕ) (failover : Failover) → IsSound plan core → (m < master_count plan → IsSoundFailover plan core.kept m failover) →
    IsSound plan (with_failover core m failover)
sound_failover plan core m failover s f =
    sound_master plan core m (record (master_of core m) { failover = failover }) s
    (λ lt. master_with plan core.kept m (master_of core m) failover (s.each m lt) ((f lt).replicas ∙ sym (s.each m lt).replicas) (f lt).epoch (f lt).choice)

-- the failover that is there may
pub own_failover : (plan : Plan) (core : Core) (m : ℕ) → IsSound plan core → m < master_count plan → IsSoundFailover plan core.kept m (failover_of core m)
own_failover plan core m s lt = record { replicas = (s.each m lt).replicas; epoch = (s.each m lt).epoch; choice = (s.each m lt).choice }

record IsLater (book after : Book) : Type 0 where
  current : book.current ≤ after.current
  voted : book.voted ≤ book.current → after.voted ≤ after.current
  last : book.current ≤ MAX_EPOCH → after.current ≤ MAX_EPOCH
  candidate : (book.voted ≡ 0 → book.leader ≡ None) → after.voted ≡ 0 → after.leader ≡ None

later_by : (book : Book) (epoch : ℕ) (candidate : RunId) (b : Bool) → grants book epoch ≡ b → epoch ≤ MAX_EPOCH →
    IsLater book (if b then record { current = epoch; voted = epoch; leader = Some candidate } else raised book epoch)
later_by book epoch candidate true e h =
    let given = both (nat_lt book.voted epoch) (nat_le book.current epoch) e in
    let newer : book.voted < epoch = ltb-true book.voted epoch given.0 in
    let le : book.current ≤ epoch = leb-true book.current epoch given.1 in
    record { current = le; voted = λ v. omega arith; last = λ l. h; candidate = λ f zero. absurd (omega (arith, newer, zero)) }
later_by book epoch candidate false e h = record { current = omega arith; voted = λ v. omega (arith, v); last = λ l. omega (arith, l, h); candidate = λ f. f }

book_later : (book : Book) (epoch : ℕ) (candidate : RunId) → epoch ≤ MAX_EPOCH → IsLater book (asked book epoch candidate)
book_later book epoch candidate h = later_by book epoch candidate (grants book epoch) refl h

pub book_sound : (plan : Plan) (core : Core) (m epoch : ℕ) (candidate : RunId) → epoch ≤ MAX_EPOCH → IsSound plan core →
    IsSound plan (with_book core m (asked (book_of core m) epoch candidate))
book_sound plan core m epoch candidate h s =
    sound_at plan core core2 m s
    refl
    (λ k apart. refl)
    refl
    (kept_with plan.conf core.kept book.current m (record (kept_of core.kept m) { voted = book.voted; candidate = book.leader }) l.current (l.last s.kept.current)
    (λ lt. let i = kept_at plan.conf core.kept m lt s.kept in
    record {
      addr = i.addr;
      epoch = let a : (card_of core.kept m).epoch ≤ core.kept.current = i.epoch in let b : core.kept.current ≤ book.current = l.current in
          omega arith;
      voted = l.voted i.voted;
      candidate = l.candidate i.candidate;
    }) s.kept)
    l.current
    (λ k apart. other_entry core.kept book.current m k (record (kept_of core.kept m) { voted = book.voted; candidate = book.leader }) apart)
    (λ lt. master_later plan core.kept core2.kept m (master_of core m) l.current (same_card lt) (s.each m lt))
  where
    book : Book
    book = asked (book_of core m) epoch candidate

    core2 : Core
    core2 = with_book core m (asked (book_of core m) epoch candidate)

    l : IsLater (book_of core m) (asked (book_of core m) epoch candidate)
    l = book_later (book_of core m) epoch candidate h

    same_card : m < master_count plan → card_of core2.kept m ≡ card_of core.kept m
    same_card lt = ap (λ kept. kept.card) (own core.kept book.current m (record (kept_of core.kept m) { voted = book.voted; candidate = book.leader })
        (subst (λ (n : ℕ). m < n) (sym s.kept_masters) lt))

pub mark_sound : (plan : Plan) (m now : ℕ) (candidate : RunId) (core : Core) → IsSound plan core → IsSound plan (mark_for plan m now candidate core)
mark_sound plan m now candidate core s = known (same_id candidate (me plan))
  where
    known : (b : Bool) → IsSound plan (if b then core else with_failover core m (marked (marked_at plan core m now) (failover_of core m)))
    known true = s
    known false = sound_failover plan core m (marked (marked_at plan core m now) (failover_of core m)) s
        (λ lt. let f = own_failover plan core m s lt in record { replicas = f.replicas; epoch = f.epoch; choice = f.choice })

pub rested_sound : (plan : Plan) (m now : ℕ) (rest : Option ℕ) (core : Core) → IsSound plan core → IsSound plan (rested plan m now rest core)
rested_sound plan m now None core s = s
rested_sound plan m now (Some rest) core s =
    sound_failover plan core m (marked (rested_at plan core m now rest) (failover_of core m)) s
    (λ lt. let f = own_failover plan core m s lt in record { replicas = f.replicas; epoch = f.epoch; choice = f.choice })

pub failed_sound : (plan : Plan) (m now : ℕ) (failed : Option ℕ) (core : Core) → IsSound plan core → IsSound plan (with_failed m now failed core)
failed_sound plan m now None core s = s
failed_sound plan m now (Some k) core s = sound_master plan core m passed_there s (λ lt. master_alike plan core.kept m (master_of core m) passed_there (s.each m lt) refl refl refl refl)
  where
    passed_there : MasterState
    passed_there = record (master_of core m) { failed = slice_set (master_of core m).failed k (Some now) }

-- The row of a failover

vote_sound : (plan : Plan) (m now epoch : ℕ) (vote : Option RunId) (core : Core) → epoch ≤ MAX_EPOCH → IsSound plan core → IsSound plan (with_vote plan m now epoch vote core)
vote_sound plan m now epoch None core h s = s
vote_sound plan m now epoch (Some candidate) core h s =
    mark_sound plan m now candidate (with_book core m (asked (book_of core m) epoch candidate)) (book_sound plan core m epoch candidate h s)

win_sound : (plan : Plan) (m epoch : ℕ) (row : Option Row) (core : Core) → IsSound plan core → IsSound plan (with_win m epoch row core)
win_sound plan m epoch None core s = s
win_sound plan m epoch (Some Elected) core s = sound_alike plan core (record core { won = Some (record { master = m; epoch = epoch }) }) refl refl refl s
win_sound plan m epoch (Some _) core s = s

promote_few : (plan : Plan) (core : Core) (m : ℕ) (planned hands : Bool) (row : Option Row) (choice : Option ℕ) →
    length (promote_frames plan core m planned hands row choice) ≤ 1
promote_few plan core m planned hands None choice = omega arith
promote_few plan core m planned hands (Some Promote) None = omega arith
promote_few plan core m planned hands (Some Promote) (Some k) = omega arith
promote_few plan core m planned hands (Some PromotionTimeout) choice = one_frame planned (HandOverTo (node_name plan m (card_place plan core m)) None)
promote_few plan core m planned hands (Some _) choice = omega arith

campaign_within : (kept : Kept) (epoch : Option ℕ) → kept.current ≤ MAX_EPOCH → IfSome epoch (λ e. e ≤ kept.current) → unwrap_or epoch 0 ≤ MAX_EPOCH
campaign_within kept None h le = omega arith
campaign_within kept (Some e) h le = omega (arith, h, le)

-- what a turn of a running failover leaves
pub turn_of_sound : (plan : Plan) (core : Core) (m now : ℕ) → IsSoundPlan plan → IsSound plan core → m < master_count plan → ((failover_of core m).state ≡ Idle → ⊥) →
    IsSoundFailover plan core.kept m (turn_of plan core m now false).failover
turn_of_sound plan core m now p s lt busy =
    turn_sound
    plan
    core.kept
    m
    (failover_of core m).state
    (failover_of core m)
    (known_of plan core m now false)
    (s.each m lt).replicas
    (s.each m lt).epoch
    (s.each m lt).choice
    (best_awaited plan core m now p lt)
    busy

pub row_keeps : (plan : Plan) (m now : ℕ) (core : Core) → IsSoundPlan plan → m < master_count plan → ((failover_of core m).state ≡ Idle → ⊥) → IsSound plan core →
    KeepsSound plan 257 (row_part plan m now core)
row_keeps plan m now core p lt busy s =
    let turn : Turn = turn_of plan core m now false in
    let epoch : ℕ = campaign_epoch core m in
    let f : IsSoundFailover plan core.kept m turn.failover = turn_of_sound plan core m now p s lt busy in
    let promotes : List Frame = promote_frames plan core m (is_unrefused core m) (hands_over plan core m now) turn.row (chosen_place turn.failover.state) in
    let orders : List Frame = frames_from (order_frames plan m) 0 turn.failover.replicas in
    let won : Core = with_win m epoch turn.row (with_vote plan m now epoch turn.vote (with_failover core m turn.failover)) in
    let rest : Option ℕ = rest_of plan.profile turn.row (election_ms plan m) in
    record {
      sound = failed_sound plan m now (disobeyed turn.row (awaited_up plan core m now)) (rested plan m now rest won)
          (rested_sound plan m now rest won
          (win_sound plan m epoch turn.row (with_vote plan m now epoch turn.vote (with_failover core m turn.failover))
          (vote_sound plan m now epoch turn.vote (with_failover core m turn.failover)
          (campaign_within core.kept (epoch_of (failover_of core m).state) s.kept.current (s.each m lt).epoch)
          (sound_failover plan core m turn.failover s (λ l. f)))));
      few = let a : length promotes ≤ 1 = promote_few plan core m (is_unrefused core m) (hands_over plan core m now) turn.row (chosen_place turn.failover.state) in
          let b : length orders ≤ length turn.failover.replicas =
          one_each (order_frames plan m) (λ k replica. one_frame replica.ordered (FollowTo (node_name plan m k) m)) 0 turn.failover.replicas in
          let c : length turn.failover.replicas ≡ length (nodes_of plan m) = f.replicas in
          let d : length (nodes_of plan m) ≤ NODES_MAX = p.conf.few_nodes m lt in
          let e : length (promotes ++ orders) ≡ length promotes + length orders = length-append promotes orders in
          omega arith;
    }

-- A start

pub idle_is : (state : FailoverState) → not (not (is_idle state)) ≡ true → state ≡ Idle
idle_is Idle h = refl
idle_is (WaitStart epoch) h = absurd (cc)
idle_is (SelectReplica epoch) h = absurd (cc)
idle_is (SendPromotion epoch choice) h = absurd (cc)
idle_is (WaitPromotion epoch choice former) h = absurd (cc)
idle_is (ReconfReplicas epoch choice former) h = absurd (cc)
idle_is (UpdateConfig epoch choice) h = absurd (cc)

pub busy_is : (state : FailoverState) → not (is_idle state) ≡ true → state ≡ Idle → ⊥
busy_is state h e = let never : false ≡ true = sym (ap (λ (s : FailoverState). not (is_idle s)) e) ∙ h in absurd (cc)

pub third : (a b c : Bool) → (a && b && c) ≡ true → c ≡ true
third true true c h = h
third true false c h = cc
third false b c h = cc

pub start_within : (f : Failover) (k : Known) → may_start f k ≡ true → k.current < MAX_EPOCH
start_within f k h = ltb-true k.current MAX_EPOCH (third k.odown (is_long_ago f.last_start (2 * k.timeout) k.now) (nat_lt k.current MAX_EPOCH) h)

-- a failover that is idle, with its state written out
pub as_idle : (f : Failover) → f.state ≡ Idle → f ≡ record f { state = Idle }
as_idle f idle = ap (λ (state : FailoverState). let x : Failover = record f { state = state } in x) idle

pub start_sound : (plan : Plan) (m now : ℕ) (core : Core) → IsSound plan core → (failover_of core m).state ≡ Idle → IsSound plan (after_start m (start_turn plan core m now) core)
start_sound plan m now core s idle = subst (λ (f : Failover). IsSound plan (after_start m (turned f k) core)) (sym (as_idle (failover_of core m) idle)) from_idle
  where
    k : Known
    k = known_of plan core m now (is_start_due plan core m now)

    f : Failover
    f = record (failover_of core m) { state = Idle }

    long : m < master_count plan → length (quieted f).replicas ≡ length (nodes_of plan m)
    long lt = length-map (failover_of core m).replicas unordered ∙ (s.each m lt).replicas

    Q : Option Row → Failover → Type 0
    Q row f2 = IsSound plan (if is_some row then with_current (with_failover core m f2) (core.kept.current + 1) else with_failover core m f2)

    begun : may_start (quieted f) k ≡ true → Q (Some StartFailover) (started (quieted f) k)
    begun h =
        let room : core.kept.current < MAX_EPOCH = start_within (quieted f) k h in
        sound_failover plan (with_current core (core.kept.current + 1)) m (started (quieted f) k)
        (sound_current plan core (core.kept.current + 1) s (omega arith) (kept_raised plan.conf core.kept (core.kept.current + 1) (omega arith) (omega arith) s.kept))
        (λ lt. record { replicas = long lt; epoch = omega arith; choice = tt })

    from_idle : IsSound plan (after_start m (turned f k) core)
    from_idle =
        turn_by Q (quieted f) None (table Idle (quieted f) k)
        (sound_failover plan core m (quieted f) s (λ lt. record { replicas = long lt; epoch = tt; choice = tt }))
        (begun, tt)

-- what is kept of a switch that was asked for is nothing to the model
pub plan_sound : (plan : Plan) (m now : ℕ) (core : Core) → IsSound plan core → IsSound plan (with_plan m now core)
plan_sound plan m now core s =
    sound_master plan core m planned_master s
    (λ lt. master_alike plan core.kept m (master_of core m) planned_master (s.each m lt) refl refl refl refl)
  where
    planned_master : MasterState
    planned_master =
        record (master_of core m) { planned = planned_if (is_wished core m now) (epoch_of (failover_of core m).state) (master_of core m).planned; refused = false }

planned_sound : (plan : Plan) (m now : ℕ) (begins : Bool) (core : Core) → IsSound plan core → IsSound plan (if begins then with_plan m now core else core)
planned_sound plan m now true core s = plan_sound plan m now core s
planned_sound plan m now false core s = s

pub start_keeps : (plan : Plan) (m now : ℕ) (core : Core) → IsSound plan core → KeepsSound plan 0 (start_part plan m now core)
start_keeps plan m now core s =
    keeps_if plan 0 (not (is_failing_over core m)) core (λ c. quiet (planned_start m now (start_turn plan c m now) c)) s
    (λ h. keeps_quiet plan 0 (planned_start m now (start_turn plan core m now) core)
    (planned_sound plan m now (is_some (start_turn plan core m now).row) (after_start m (start_turn plan core m now) core)
    (start_sound plan m now core s (idle_is (failover_of core m).state h))))

-- The whole tick

ask_keeps : (plan : Plan) (m now : ℕ) (started : Bool) (core : Core) → IsSoundPlan plan → IsSound plan core → KeepsSound plan 64 (ask_part plan m now started core)
ask_keeps plan m now started core p s =
    keeps_if
    plan
    64
    (is_asking plan core m now && is_ask_due started (master_of core m).ask_sent now)
    core
    (λ c. puts (with_master c m (record (master_of c m) { ask_sent = Some now })) (frames_from (ask_frames plan m (ask_candidate plan c m)) 0 c.peers))
    s
    (λ h. record {
      sound = sound_master plan core m (record (master_of core m) { ask_sent = Some now }) s
          (λ lt. master_alike plan core.kept m (master_of core m) (record (master_of core m) { ask_sent = Some now }) (s.each m lt) refl refl refl refl);
      few = let a : length (frames_from (ask_frames plan m (ask_candidate plan core m)) 0 core.peers) ≤ length core.peers =
          one_each (ask_frames plan m (ask_candidate plan core m)) (λ k x. one_frame (not (k == plan.place)) (AskTo k m (ask_candidate plan core m))) 0 core.peers in
          let b : length core.peers ≤ SENTINELS_MAX = few_peers plan core p s in
          omega arith;
    })

failover_keeps : (plan : Plan) (m now : ℕ) (core : Core) → IsSoundPlan plan → m < master_count plan → IsSound plan core → KeepsSound plan 321 (failover_part plan m now core)
failover_keeps plan m now core p lt s =
    keeps_then plan 257 64 (then_part (start_part plan m now core) (λ c. part_if (is_failing_over c m) c (row_part plan m now))) (ask_part plan m now (starts_now plan core m now))
    (keeps_then plan 0 257 (start_part plan m now core) (λ c. part_if (is_failing_over c m) c (row_part plan m now)) (start_keeps plan m now core s)
    (λ t. rows (start_part plan m now core).core t))
    (λ t. ask_keeps plan m now (starts_now plan core m now) (then_part (start_part plan m now core) (λ c. part_if (is_failing_over c m) c (row_part plan m now))).core p t)
  where
    rows : (c : Core) → IsSound plan c → KeepsSound plan 257 (part_if (is_failing_over c m) c (row_part plan m now))
    rows c t = keeps_if plan 257 (is_failing_over c m) c (row_part plan m now) t (λ h. row_keeps plan m now c p lt (busy_is (failover_of c m).state h) t)

judging_keeps : (plan : Plan) (m now : ℕ) (core : Core) → IsSoundPlan plan → m < master_count plan → IsSound plan core → KeepsSound plan 321 (judging_part plan m now core)
judging_keeps plan m now core p lt s =
    keeps_if plan 321 (not (is_tilted core)) core (λ c. then_part (odown_part plan m now c) (failover_part plan m now)) s
    (λ h. keeps_then plan 0 321 (odown_part plan m now core) (failover_part plan m now) (odown_keeps plan m now core s)
    (λ t. failover_keeps plan m now (odown_part plan m now core).core p lt t))

master_keeps : (plan : Plan) (m now : ℕ) (core : Core) → IsSoundPlan plan → m < master_count plan → IsSound plan core → KeepsSound plan 1153 (master_part plan m now core)
master_keeps plan m now core p lt s =
    keeps_then plan 832 321 (then_part (peers_part plan m now core) (nodes_part plan m now)) (judging_part plan m now)
    (keeps_then plan 64 768 (peers_part plan m now core) (nodes_part plan m now) (peers_keeps plan m now core p s)
    (λ t. nodes_keeps plan m now (peers_part plan m now core).core p lt t))
    (λ t. judging_keeps plan m now (then_part (peers_part plan m now core) (nodes_part plan m now)).core p lt t)

pub tick_keeps : (plan : Plan) (m random now : ℕ) (core : Core) → IsSoundPlan plan → IsSound plan core → KeepsSound plan FRAMES_MAX (tick plan m random now core)
tick_keeps plan m random now core p s =
    keeps_if plan FRAMES_MAX (nat_lt m (master_count plan)) (with_reading now random core) (master_part plan m now) (read now)
    (λ h. keeps_more plan 1153 FRAMES_MAX (master_part plan m now (with_reading now random core)) (omega arith)
    (master_keeps plan m now (with_reading now random core) p (ltb-true m (master_count plan) h) (read now)))
  where
    read : (now : ℕ) → IsSound plan (with_reading now random core)
    read now = sound_alike plan core (with_reading now random core) refl refl refl s
