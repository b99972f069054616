-- An input changes at most the current epoch and the entry of the master that its event concerns.
use Rattle.std.proofs.Common.{◌≡◌, ◌≢◌, ℕ, zero, suc, ◌+◌, Bool, true, false, Option, Some, None, refl, sym, ap, ◌∙◌, [], subst}
use Rattle.std.specs.Prelude.{Result, Ok, Err, is_some, nat_lt, not, ◌&&◌, ◌==◌, if◌then◌else◌}
use Rattle.std.proofs.lemmas.Option.{same_Some}
use Rattle.ballot_law.specs.declared.addresses.Addr.{Addr}
use Rattle.ballot_law.specs.declared.addresses.RunId.{RunId}
use Rattle.ballot_law.specs.declared.cards.Card.{Card}
use Rattle.ballot_law.specs.declared.cards.Kept.{Kept}
use Rattle.ballot_law.specs.declared.commands.Command.{Command}
use Rattle.ballot_law.specs.declared.commands.Command.TheVariants.{Ping, IsMasterDownByAddr, GetMasterAddrByName, Masters, Master, Replicas, Sentinels, MyId, CkQuorum, FlushConfig, Subscribe, Info as InfoCommand, Failover}
use Rattle.ballot_law.specs.declared.events.Event.{Event}
use Rattle.ballot_law.specs.declared.events.Event.TheVariants.{Tick, Command as Commanded, Answered as AnswerCame, Pinged, InfoRead, HelloRead, Disconnected, Become, Handed, Refused}
use Rattle.ballot_law.specs.declared.messages.NodeName.{NodeName}
use Rattle.ballot_law.specs.declared.messages.NodeName.TheVariants.{SentinelAt, StoreAt, ClientAt, PortAt}
use Rattle.ballot_law.specs.declared.replies.Hello.{Hello}
use Rattle.ballot_law.specs.declared.replies.Info.{Info}
use Rattle.ballot_law.specs.declared.replies.PingReply.{PingReply}
use Rattle.ballot_law.specs.Ballots.{kept_of, card_of}
use Rattle.ballot_law.specs.Clocks.{clock}
use Rattle.ballot_law.specs.Orders.{same_addr, same_id}
use Rattle.ballot_law.specs.OwnVotes.{Book, grants, asked}
use Rattle.ballot_law.specs.Rosters.{master_named}
use Rattle.failover_states.specs.declared.states.Row.{Row}
use Rattle.failover_states.specs.declared.states.Row.TheVariants.{Elected}
use Rattle.failover_states.specs.declared.states.FailoverState.{FailoverState}
use Rattle.failover_states.specs.declared.states.FailoverState.TheVariants.{WaitPromotion}
use Rattle.failover_states.specs.Calls.{promoted}
use Rattle.failover_states.specs.Failovers.{ended}
use Rattle.failover_states.specs.Table.{Turn}
use Rattle.node_texts.specs.declared.faults.TextFault.{TextFault}
use Rattle.node_texts.specs.Hellos.{hello_of}
use Rattle.node_texts.specs.Infos.{info_of}
use Rattle.node_texts.specs.Announced.{is_announced}
use Rattle.ballot_law.specs.declared.node_places.NodePlace.{NodePlace}
use Rattle.port_answers.specs.Answers.{ok_line, in_progress, in_tilt, no_good_replica, command_fault}
use Rattle.resp2.specs.declared.command.CommandFault.TheVariants.{UnknownCommand}
use Rattle.sentinel_rules.specs.declared.profiles.Profile.{Profile}
use Rattle.sentinel_rules.specs.declared.profiles.Profile.TheVariants.{Strict, Redis}
use Rattle.sentinel_rules.specs.Plans.{Plan, roster_of, me, group_size, master_count, node_named}
use Rattle.sentinel_rules.specs.States.{is_master_role, Core, master_of, failover_of, card_place, is_failing_over, is_tilted, with_master, with_failover, with_current, with_card, is_awaiting, is_at, is_planned}
use Rattle.sentinel_rules.specs.Parts.{Part, quiet, part_if}
use Rattle.sentinel_rules.specs.Profiles.{is_asking, is_redis, election_ms, marked_at, marked, rest_of, rested, by_profile, candidate_place, candidate_heeded, awaited_up, disobeyed, with_failed}
use Rattle.sentinel_rules.specs.Endings.{is_vain, given_up, is_overtaken, taken_up, let_go}
use Rattle.sentinel_rules.specs.Votes.{book_of, with_book, mark_for, requested}
use Rattle.sentinel_rules.specs.Ticks.{peers_part, nodes_part, odown_part, ask_part, ask_candidate, ask_frames, is_ask_due, with_vote, with_win, turn_of, campaign_epoch, row_part, after_start, start_turn, starts_now, start_part, failover_part, judging_part, master_part, with_reading, tick, planned_start, with_plan, odown_kept}
use Rattle.sentinel_rules.specs.News.{at_same_address, at_new_address, card_taken, is_heeded, is_newer, raised_to, adopted, hello_of_known, hello_heeded, hello_read, reported, vote_heard, answered, pinged_at, peer_lost, lost_at, connection_lost, disconnected, pinged, info_kept, promotion, has_followed, reconfiguration, correction, is_reconfiguring, judged, info_at_node, info_of_node, info_read, order_taker, refusal_at, refusal_heard, with_frames, closing_frames, greeted_at, greeted, announced_at}
use Rattle.sentinel_rules.specs.Answers.{asked_of, master_with_card, commanded, Answered, unchanged, reply, named, is_engaged, has_heir, wished, asked_to_switch}
use Rattle.sentinel_rules.specs.Takes.{next, next_at, cleared}
use Rattle.sentinel_rules.specs.Changes.{ChangesAt, ChangesOne, InputsChangeAt, InputsChangeOne, asked_about, concerned, listed_by, told_of}
use Rattle.sentinel_rules.proofs.KeptParts.{other_entry}

-- the other masters' entries stay
abbrev Touches : ℕ → Core → Core → Type 0
Touches m core core2 = (k : ℕ) → k ≢ m → kept_of core2.kept k ≡ kept_of core.kept k

stays : (m : ℕ) (core : Core) → Touches m core core
stays m core k apart = refl

chained : (m : ℕ) (first second third : Core) → Touches m first second → Touches m second third → Touches m first third
chained m first second third f g k apart = g k apart ∙ f k apart

by_test : (m : ℕ) (core : Core) (test : Bool) (a b : Core) → Touches m core a → Touches m core b → Touches m core (if test then a else b)
by_test m core true a b f g = f
by_test m core false a b f g = g

by_part : (m : ℕ) (core : Core) (test : Bool) (a b : Part) → Touches m core a.core → Touches m core b.core → Touches m core (if test then a else b).core
by_part m core true a b f g = f
by_part m core false a b f g = g

if_part : (m : ℕ) (core : Core) (test : Bool) (part : Core → Part) → Touches m core (part core).core → Touches m core (part_if test core part).core
if_part m core true part f = f
if_part m core false part f = stays m core

-- Votes

booked : (m : ℕ) (book : Book) (core : Core) → Touches m core (with_book core m book)
booked m book core k apart = other_entry core.kept book.current m k (record (kept_of core.kept m) { voted = book.voted; candidate = book.leader }) apart

mark_touches : (plan : Plan) (m now : ℕ) (candidate : RunId) (core : Core) → Touches m core (mark_for plan m now candidate core)
mark_touches plan m now candidate core =
    by_test m core (same_id candidate (me plan)) core (with_failover core m (marked (marked_at plan core m now) (failover_of core m))) (stays m core) (λ k apart. refl)

voted : (plan : Plan) (m now epoch : ℕ) (candidate : RunId) (core : Core) →
    Touches m core (mark_for plan m now candidate (with_book core m (asked (book_of core m) epoch candidate)))
voted plan m now epoch candidate core =
    let after : Core = with_book core m (asked (book_of core m) epoch candidate) in
    chained m core after (mark_for plan m now candidate after) (booked m (asked (book_of core m) epoch candidate) core) (mark_touches plan m now candidate after)

requested_touches : (plan : Plan) (m now epoch : ℕ) (candidate : RunId) (core : Core) → Touches m core (requested plan m now epoch candidate core)
requested_touches plan m now epoch candidate core =
    let after : Core = with_book core m (asked (book_of core m) epoch candidate) in
    by_test m core (grants (book_of core m) epoch) (mark_for plan m now candidate after) after (voted plan m now epoch candidate core)
    (booked m (asked (book_of core m) epoch candidate) core)

-- A tick

peers_touch : (plan : Plan) (m now : ℕ) (core : Core) → Touches m core (peers_part plan m now core).core
peers_touch plan zero now core = λ k apart. refl
peers_touch plan (suc m) now core = λ k apart. refl

vote_touches : (plan : Plan) (m now epoch : ℕ) (vote : Option RunId) (core : Core) → Touches m core (with_vote plan m now epoch vote core)
vote_touches plan m now epoch None core = stays m core
vote_touches plan m now epoch (Some candidate) core = voted plan m now epoch candidate core

win_touches : (m epoch : ℕ) (row : Option Row) (core : Core) → Touches m core (with_win m epoch row core)
win_touches m epoch None core = stays m core
win_touches m epoch (Some Elected) core = λ k apart. refl
win_touches m epoch (Some _) core = stays m core

rest_touches : (plan : Plan) (m now : ℕ) (rest : Option ℕ) (core : Core) → Touches m core (rested plan m now rest core)
rest_touches plan m now None core = stays m core
rest_touches plan m now (Some rest) core = λ k apart. refl

failed_touches : (m now : ℕ) (failed : Option ℕ) (core : Core) → Touches m core (with_failed m now failed core)
failed_touches m now None core = stays m core
failed_touches m now (Some k) core = λ k apart. refl

row_touches : (plan : Plan) (m now : ℕ) (core : Core) → Touches m core (row_part plan m now core).core
row_touches plan m now core =
    let turn : Turn = turn_of plan core m now false in
    let epoch : ℕ = campaign_epoch core m in
    let first : Core = with_failover core m turn.failover in
    let second : Core = with_vote plan m now epoch turn.vote first in
    let third : Core = with_win m epoch turn.row second in
    let rest : Option ℕ = rest_of plan.profile turn.row (election_ms plan m) in
    let fourth : Core = rested plan m now rest third in
    let failed : Option ℕ = disobeyed turn.row (awaited_up plan core m now) in
    chained m core fourth (with_failed m now failed fourth)
    (chained m core third fourth
    (chained m core second third (chained m core first second (λ k apart. refl) (vote_touches plan m now epoch turn.vote first)) (win_touches m epoch turn.row second))
    (rest_touches plan m now rest third))
    (failed_touches m now failed fourth)

begun : (m : ℕ) (turn : Turn) (core : Core) → Touches m core (after_start m turn core)
begun m turn core =
    let after : Core = with_failover core m turn.failover in
    by_test m core (is_some turn.row) (with_current after (core.kept.current + 1)) after (λ k apart. refl) (λ k apart. refl)

start_touches : (plan : Plan) (m now : ℕ) (core : Core) → Touches m core (start_part plan m now core).core
start_touches plan m now core =
    let first : Core = after_start m (start_turn plan core m now) core in
    if_part m core (not (is_failing_over core m)) (λ c. quiet (planned_start m now (start_turn plan c m now) c))
    (by_test m core (is_some (start_turn plan core m now).row) (with_plan m now first) first
    (chained m core first (with_plan m now first) (begun m (start_turn plan core m now) core) (λ k apart. refl)) (begun m (start_turn plan core m now) core))

ask_touches : (plan : Plan) (m now : ℕ) (started : Bool) (core : Core) → Touches m core (ask_part plan m now started core).core
ask_touches plan m now started core = known (is_asking plan core m now && is_ask_due started (master_of core m).ask_sent now)
  where
    known : (b : Bool) → Touches m core (part_if b core (λ c. record {
      core = with_master c m (record (master_of c m) { ask_sent = Some now });
      frames = Rattle.sentinel_rules.specs.Parts.frames_from (ask_frames plan m (ask_candidate plan c m)) 0 c.peers;
    })).core
    known true = λ k apart. refl
    known false = λ k apart. refl

failover_touches : (plan : Plan) (m now : ℕ) (core : Core) → Touches m core (failover_part plan m now core).core
failover_touches plan m now core =
    let first : Core = (start_part plan m now core).core in
    let second : Core = (part_if (is_failing_over first m) first (row_part plan m now)).core in
    chained m core second (ask_part plan m now (starts_now plan core m now) second).core
    (chained m core first second (start_touches plan m now core) (if_part m first (is_failing_over first m) (row_part plan m now) (row_touches plan m now first)))
    (ask_touches plan m now (starts_now plan core m now) second)

let_go_touches : (plan : Plan) (m now : ℕ) (core : Core) → Touches m core (let_go plan m now core)
let_go_touches plan m now core = by_rule plan.profile (is_vain plan core m now) (is_overtaken plan core m now)
  where
    by_rule : (profile : Profile) (vain overtaken : Bool) →
        Touches m core (by_profile profile core (if vain then given_up plan m now core else (if overtaken then taken_up m now core else core)))
    by_rule Strict vain overtaken = stays m core
    by_rule Redis true overtaken = λ k apart. refl
    by_rule Redis false true = λ k apart. refl
    by_rule Redis false false = stays m core

judging_touches : (plan : Plan) (m now : ℕ) (core : Core) → Touches m core (judging_part plan m now core).core
judging_touches plan m now core =
    let first : Core = (odown_part plan m now core).core in
    by_part m core (not (is_tilted core)) (record { core = (failover_part plan m now first).core; frames = _ }) (quiet core)
    (chained m core first (failover_part plan m now first).core
    (chained m core (odown_kept plan m now core) first (λ k apart. refl) (let_go_touches plan m now (odown_kept plan m now core)))
    (failover_touches plan m now first))
    (stays m core)

tick_touches : (plan : Plan) (m random now : ℕ) (core : Core) → Touches m core (tick plan m random now core).core
tick_touches plan m random now core =
    let read : Core = with_reading now random core in
    let first : Core = (peers_part plan m now read).core in
    let second : Core = (nodes_part plan m now first).core in
    chained m core read (tick plan m random now core).core (λ k apart. refl)
    (if_part m read (nat_lt m (master_count plan)) (master_part plan m now)
    (chained m read second (judging_part plan m now second).core
    (chained m read first second (peers_touch plan m now read) (λ k apart. refl))
    (judging_touches plan m now second)))

-- News

carded : (m : ℕ) (card : Card) (core : Core) → Touches m core (with_card core m card)
carded m card core k apart = other_entry core.kept core.kept.current m k (record (kept_of core.kept m) { card = card }) apart

taken : (plan : Plan) (m now : ℕ) (card : Card) (core : Core) → Touches m core (card_taken plan m now card core).core
taken plan m now card core =
    by_part m core (same_addr (card_of core.kept m).addr card.addr)
    (quiet (with_card (with_master core m (at_same_address (master_of core m))) m card))
    (record { core = with_card (with_master core m (at_new_address plan.profile now (master_of core m))) m card; frames = _ })
    (carded m card (with_master core m (at_same_address (master_of core m))))
    (carded m card (with_master core m (at_new_address plan.profile now (master_of core m))))

adopted_touches : (plan : Plan) (m now : ℕ) (card : Card) (core : Core) → Touches m core (adopted plan m now card core).core
adopted_touches plan m now card core =
    let first : Core = with_failover (raised_to card.epoch core) m (ended (failover_of core m)) in
    chained m core first (card_taken plan m now card first).core (λ k apart. refl) (taken plan m now card first)

known_touches : (plan : Plan) (m now : ℕ) (hello : Hello) (core : Core) → Touches m core (hello_of_known plan m now hello core).core
known_touches plan m now hello core =
    let first : Core = raised_to hello.current core in
    chained m core first (hello_of_known plan m now hello core).core (λ k apart. refl)
    (if_part m first (is_newer plan first m hello.card) (adopted plan m now hello.card) (adopted_touches plan m now hello.card first))

-- of the master that is concerned, if one is
abbrev At : Option ℕ → Core → Core → Type 0
At master core core2 = ChangesAt master core.kept core2.kept

same : (master : Option ℕ) (core : Core) → At master core core
same master core k apart = refl

at_master : (m : ℕ) (core core2 : Core) → Touches m core core2 → At (Some m) core core2
at_master m core core2 f k apart = f k (λ e. apart (ap Some (sym e)))

at_by_test : (master : Option ℕ) (core : Core) (test : Bool) (a b : Core) → At master core a → At master core b → At master core (if test then a else b)
at_by_test master core true a b f g = f
at_by_test master core false a b f g = g

at_if_part : (master : Option ℕ) (core : Core) (test : Bool) (part : Core → Part) → At master core (part core).core → At master core (part_if test core part).core
at_if_part master core true part f = f
at_if_part master core false part f = same master core

-- what keeps all that the file holds comes before
at_after : (master : Option ℕ) (core first core2 : Core) → first.kept ≡ core.kept → At master first core2 → At master core core2
at_after master core first core2 e f = subst (λ (kept : Kept). ChangesAt master kept core2.kept) e f

greeted_kept : (now : ℕ) (at : Option ℕ) (core : Core) → (greeted_at now at core).kept ≡ core.kept
greeted_kept now None core = refl
greeted_kept now (Some place) core = refl

announced_kept : (announced : Bool) (at : Option NodePlace) (core : Core) → (announced_at announced at core).kept ≡ core.kept
announced_kept announced None core = refl
announced_kept announced (Some at) core = refl

heeded_at : (plan : Plan) (now : ℕ) (m : Option ℕ) (hello : Hello) (core : Core) → At m core (hello_heeded plan now m hello core).core
heeded_at plan now None hello core = same None core
heeded_at plan now (Some m) hello core = at_after (Some m) core first (hello_of_known plan m now hello first).core (greeted_kept now (candidate_place plan (Some hello.id)) core)
    (at_master m first (hello_of_known plan m now hello first).core (known_touches plan m now hello first))
  where
    first : Core
    first = greeted plan now hello core

hello_at : (plan : Plan) (now : ℕ) (read : Result Hello TextFault) (core : Core) → At (told_of plan read) core (hello_read plan now read core).core
hello_at plan now (Err fault) core = same None core
hello_at plan now (Ok hello) core =
    let m = master_named (roster_of plan) hello.master in
    at_if_part m core (is_heeded plan hello) (hello_heeded plan now m hello) (heeded_at plan now m hello core)

heard_at : (voter m epoch : ℕ) (leader : Option RunId) (core first : Core) → At None core first → At None core (vote_heard voter m epoch leader first)
heard_at voter m epoch None core first f = f
heard_at voter m epoch (Some leader) core first f = f

reported_at : (voter m now : ℕ) (addr : Addr) (down : Bool) (core : Core) → At None core (reported voter m now addr down core)
reported_at voter m now addr down core = known (same_addr addr (card_of core.kept m).addr)
  where
    known : (b : Bool) → At None core (if b then with_master core m
        (record (master_of core m) { reports = Rattle.ballot_law.specs.Reports.with_report voter (record { down = down; at = now }) (master_of core m).reports }) else core)
    known true = λ k apart. refl
    known false = same None core

answer_at : (plan : Plan) (voter : NodeName) (m now : ℕ) (addr : Addr) (down : Bool) (leader : Option RunId) (epoch : ℕ) (core : Core) →
    At None core (answered plan voter m now addr down leader epoch core)
answer_at plan (SentinelAt voter) m now addr down leader epoch core =
    at_by_test None core (nat_lt voter (group_size plan) && not (voter == plan.place) && nat_lt m (master_count plan))
    (vote_heard voter m epoch leader (reported voter m now addr down core)) core
    (heard_at voter m epoch leader core (reported voter m now addr down core) (reported_at voter m now addr down core)) (same None core)
answer_at plan (StoreAt number) m now addr down leader epoch core = same None core
answer_at plan (ClientAt number) m now addr down leader epoch core = same None core
answer_at plan (PortAt number) m now addr down leader epoch core = same None core

node_at : (now : ℕ) (reply : PingReply) (at : Option NodePlace) (core : Core) → At None core (pinged_at now reply at core)
node_at now reply None core = same None core
node_at now reply (Some at) core = λ k apart. refl

ping_at : (plan : Plan) (node : NodeName) (now : ℕ) (reply : PingReply) (core : Core) → At None core (pinged plan node now reply core)
ping_at plan (SentinelAt place) now reply core = known (nat_lt place (group_size plan) && not (place == plan.place))
  where
    known : (b : Bool) → At None core (if b then record core {
      peers =
          Rattle.std.specs.Prelude.slice_set core.peers place (Rattle.sentinel_rules.specs.News.peer_pinged now reply (Rattle.sentinel_rules.specs.States.peer_of core place));
    }
        else core)
    known true = λ k apart. refl
    known false = same None core
ping_at plan (StoreAt number) now reply core = node_at now reply (node_named plan (StoreAt number)) core
ping_at plan (ClientAt number) now reply core = same None core
ping_at plan (PortAt number) now reply core = same None core

no_at : (at : Option NodePlace) (core : Core) → At None core (lost_at at core)
no_at None core = same None core
no_at (Some at) core = λ k apart. refl

lost_at_none : (plan : Plan) (node : NodeName) (core : Core) → At None core (connection_lost plan node core)
lost_at_none plan (SentinelAt place) core =
    at_by_test None core (nat_lt place (group_size plan) && not (place == plan.place))
    (record core { peers = Rattle.std.specs.Prelude.slice_set core.peers place (peer_lost (Rattle.sentinel_rules.specs.States.peer_of core place)) }) core (λ k apart. refl)
    (same None core)
lost_at_none plan (StoreAt number) core = no_at (node_named plan (StoreAt number)) core
lost_at_none plan (ClientAt number) core = same None core
lost_at_none plan (PortAt number) core = same None core

loss_at : (plan : Plan) (node : NodeName) (core : Core) → At None core (disconnected plan node core)
loss_at plan node core = at_by_test None core (is_redis plan.profile) (connection_lost plan node core) core (lost_at_none plan node core) (same None core)

no_refusal : (plan : Plan) (at : Option NodePlace) (core : Core) → At None core (refusal_at plan at core)
no_refusal plan None core = same None core
no_refusal plan (Some at) core =
    at_by_test None core (is_awaiting (failover_of core at.master).state && is_at (order_taker plan core at.master) at.place)
    (with_master core at.master (record (master_of core at.master) { refused = true })) core (λ k apart. refl) (same None core)

refused_at : (plan : Plan) (node : NodeName) (core : Core) → At None core (refusal_heard plan node core)
refused_at plan node core =
    at_by_test None core (is_redis plan.profile) (refusal_at plan (node_named plan node) core) core (no_refusal plan (node_named plan node) core) (same None core)

promotion_touches : (plan : Plan) (m k now : ℕ) (info : Info) (state : FailoverState) (core : Core) → Touches m core (promotion plan m k now info state core).core
promotion_touches plan m k now info (WaitPromotion epoch choice former) core =
    let first : Core = with_failover core m (promoted (WaitPromotion epoch choice former) (record (failover_of core m) { moment = now })) in
    let card : Card = record { epoch = epoch; addr = choice.addr } in
    if_part m core ((k == choice.place) && is_master_role info.role)
    (λ c. with_frames
    (card_taken plan m now (record { epoch = epoch; addr = choice.addr })
    (with_failover c m (promoted (WaitPromotion epoch choice former) (record (failover_of c m) { moment = now }))))
    (closing_frames plan m k (card_place plan c m) (is_planned c m)))
    (chained m core first (card_taken plan m now card first).core (λ k apart. refl) (taken plan m now card first))
promotion_touches plan m k now info _ core = stays m core

reconfiguration_touches : (m k : ℕ) (info : Info) (core : Core) → Touches m core (reconfiguration m k info core).core
reconfiguration_touches m k info core =
    if_part m core (has_followed info (card_of core.kept m).addr)
    (λ c. quiet (with_failover c m (Rattle.failover_states.specs.Calls.reconfigured (failover_of c m).state (failover_of c m) k))) (λ k apart. refl)

judged_touches : (plan : Plan) (m k now : ℕ) (info : Info) (core : Core) → Touches m core (judged plan m k now info core).core
judged_touches plan m k now info core =
    by_part m core (is_failing_over core m)
    (if is_reconfiguring (failover_of core m).state then reconfiguration m k info core else promotion plan m k now info (failover_of core m).state core)
    (part_if (not (k == card_place plan core m)) core (correction plan m k now info))
    (by_part m core (is_reconfiguring (failover_of core m).state) (reconfiguration m k info core) (promotion plan m k now info (failover_of core m).state core)
    (reconfiguration_touches m k info core) (promotion_touches plan m k now info (failover_of core m).state core))
    (if_part m core (not (k == card_place plan core m)) (correction plan m k now info) (λ j apart. refl))

info_at : (plan : Plan) (now : ℕ) (at : Option NodePlace) (info : Info) (core : Core) → At (listed_by at) core (info_of_node plan now at info core).core
info_at plan now None info core = same None core
info_at plan now (Some at) info core =
    let first : Core = info_kept at.master at.place now info core in
    at_master at.master core (info_at_node plan at.master at.place now info core).core
    (chained at.master core first (info_at_node plan at.master at.place now info core).core (λ k apart. refl)
    (if_part at.master first (not (is_tilted first)) (judged plan at.master at.place now info) (judged_touches plan at.master at.place now info first)))

read_at : (plan : Plan) (node : NodeName) (now : ℕ) (read : Result Info TextFault) (announced : Bool) (core : Core) →
    At (listed_by (node_named plan node)) core (info_read plan node now read announced core).core
read_at plan node now (Err fault) announced core = same (listed_by (node_named plan node)) core
read_at plan node now (Ok info) announced core =
    let first = announced_at announced (node_named plan node) core in
    at_after (listed_by (node_named plan node)) core first (info_of_node plan now (node_named plan node) info first).core
    (announced_kept announced (node_named plan node) core) (info_at plan now (node_named plan node) info first)

-- Commands

asked_at_most : (plan : Plan) (now : ℕ) (addr : Addr) (epoch : ℕ) (candidate : Option RunId) (m : Option ℕ) (core : Core) →
    At m core (asked_of plan now addr epoch candidate m core).core
asked_at_most plan now addr epoch candidate None core = same None core
asked_at_most plan now addr epoch None (Some m) core = same (Some m) core
asked_at_most plan now addr epoch (Some candidate) (Some m) core =
    at_master m core (requested plan m now epoch candidate core) (requested_touches plan m now epoch candidate core)

switch_changes : (plan : Plan) (m now : ℕ) (busy tilted heir : Bool) (core : Core) →
    At None core (if busy then unchanged core (reply core [] in_progress)
    else (if tilted then unchanged core (reply core [] in_tilt)
    else (if heir then record { core = wished m now core; body = reply core [] ok_line } else unchanged core (reply core [] no_good_replica)))).core
switch_changes plan m now true tilted heir core = same None core
switch_changes plan m now false true heir core = same None core
switch_changes plan m now false false true core = λ k apart. refl
switch_changes plan m now false false false core = same None core

asked_changes : (plan : Plan) (now : ℕ) (m : Option ℕ) (core : Core) → At None core (asked_to_switch plan now m core).core
asked_changes plan now None core = same None core
asked_changes plan now (Some m) core = switch_changes plan m now (is_engaged plan core m now) (is_tilted core) (has_heir plan core m now) core

either_changes : (core : Core) (profile : Profile) (strict redis : Answered) → At None core strict.core → At None core redis.core → At None core (by_profile profile strict redis).core
either_changes core Strict strict redis f g = f
either_changes core Redis strict redis f g = g

commanded_at : (plan : Plan) (now : ℕ) (command : Command) (core : Core) → At (asked_about command core.kept) core (commanded plan now command core).core
commanded_at plan now (IsMasterDownByAddr addr epoch candidate) core = asked_at_most plan now addr epoch (candidate_heeded plan candidate) (master_with_card core.kept.masters addr) core
commanded_at plan now Ping core = same None core
commanded_at plan now (GetMasterAddrByName name) core = same None core
commanded_at plan now Masters core = same None core
commanded_at plan now (Master name) core = same None core
commanded_at plan now (Replicas name) core = same None core
commanded_at plan now (Sentinels name) core = same None core
commanded_at plan now MyId core = same None core
commanded_at plan now (CkQuorum name) core = same None core
commanded_at plan now (Failover name) core =
    either_changes core plan.profile (unchanged core (reply core [] (command_fault UnknownCommand))) (asked_to_switch plan now (named plan name) core) (same None core)
    (asked_changes plan now (named plan name) core)
commanded_at plan now FlushConfig core = same None core
commanded_at plan now Subscribe core = same None core
commanded_at plan now InfoCommand core = same None core

-- One input

input_at : (plan : Plan) (now : ℕ) (event : Event) (core : Core) → At (concerned plan event core.kept) core (next_at plan now event core).core
input_at plan now (Tick m random) core = at_master m core (tick plan m random now core).core (tick_touches plan m random now core)
input_at plan now (Commanded sender command) core = commanded_at plan now command core
input_at plan now (AnswerCame voter m addr down leader epoch) core = answer_at plan voter m now addr down leader epoch core
input_at plan now (Pinged node reply) core = ping_at plan node now reply core
input_at plan now (InfoRead node text) core = read_at plan node now (info_of text) (is_announced text) core
input_at plan now (HelloRead text) core = hello_at plan now (hello_of text) core
input_at plan now (Disconnected node) core = loss_at plan node core
input_at plan now (Refused node) core = refused_at plan node core
input_at plan now (Become priority offset link_down) core = same None core
input_at plan now (Handed message) core = same None core

pub inputs_change_at : InputsChangeAt
inputs_change_at plan core now event = input_at plan (clock now) event (cleared core)

-- so that of one master alone
one_of : (master : Option ℕ) (kept kept2 : Kept) → ChangesAt master kept kept2 → ChangesOne kept kept2
one_of None kept kept2 f = (0, λ k apart. f k (λ e. let no : ⊥ = cc in no))
one_of (Some m) kept kept2 f = (m, λ k apart. f k (λ e. apart (sym (same_Some m k e))))

pub inputs_change_one : InputsChangeOne
inputs_change_one plan core now event =
    one_of (concerned plan event core.kept) core.kept (next plan core now event).core.kept (inputs_change_at plan core now event)
