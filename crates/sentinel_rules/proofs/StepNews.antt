-- What is heard, and what is asked, by steps of the ballot model.
use Rattle.std.proofs.Common.{◌≡◌, ◌≢◌, ℕ, ◌+◌, ◌-◌, ◌<◌, ◌≤◌, max, Bool, true, false, cond, Option, Some, None, List, [], ◌∷◌, ◌++◌, length, length-set, slice_set, refl, sym, ap, subst, ◌∙◌, ⊎_elim, arith, get_or-set_same, get_or-set_other}
use Rattle.std.specs.Prelude.{Result, Ok, Err, Contains, not, nat_lt, nat_le, ◌==◌, ◌&&◌, if◌then◌else◌}
use Rattle.std.specs.List.{list_any}
use Rattle.std.proofs.lemmas.Bool.{cases_eq, cases_lt, ltb-true, leb-true}
use Rattle.std.proofs.lemmas.List.Elements.{Contains-push, Contains-append_left}
use Rattle.ballot_law.specs.declared.addresses.Addr.{Addr}
use Rattle.ballot_law.specs.declared.addresses.RunId.{RunId}
use Rattle.ballot_law.specs.declared.cards.Card.{Card}
use Rattle.ballot_law.specs.declared.events.Event.{Event}
use Rattle.ballot_law.specs.declared.events.Event.TheVariants.{Answered as AnswerCame, HelloRead}
use Rattle.ballot_law.specs.declared.hearings.HeardVote.{HeardVote}
use Rattle.ballot_law.specs.declared.messages.NodeName.{NodeName}
use Rattle.ballot_law.specs.declared.messages.NodeName.TheVariants.{SentinelAt, StoreAt, ClientAt, PortAt}
use Rattle.ballot_law.specs.declared.replies.Hello.{Hello}
use Rattle.ballot_law.specs.declared.replies.Info.{Info}
use Rattle.ballot_law.specs.declared.replies.PingReply.{PingReply}
use Rattle.ballot_law.specs.Ballots.{Idle as NoCampaign, Chosen, Parts, Hear, Enact, Adopt, ShowsCard, after, card_of, voted_of, open_of, vote}
use Rattle.ballot_law.specs.Hellos.{SpellsHello}
use Rattle.ballot_law.specs.Orders.{same_addr, same_id}
use Rattle.ballot_law.specs.OwnVotes.{Book, grants, asked, raised}
use Rattle.ballot_law.specs.Rosters.{MasterPlan, HasNode, master_named}
use Rattle.ballot_law.specs.VotesHeard.{greater, kept_at, with_hearing}
use Rattle.ballot_law.proofs.RosterLemmas.{named_master}
use Rattle.ballot_law.specs.Reports.{with_report}
use Rattle.failover_states.specs.declared.states.FailoverState.{FailoverState}
use Rattle.failover_states.specs.declared.states.FailoverState.TheVariants.{WaitPromotion, ReconfReplicas}
use Rattle.failover_states.specs.Calls.{promoted, reconfigured}
use Rattle.failover_states.specs.Failovers.{Failover, ended}
use Rattle.node_texts.specs.declared.faults.TextFault.{TextFault}
use Rattle.node_texts.specs.Hellos.{hello_of}
use Rattle.node_texts.proofs.HelloBack.{hello_is}
use Rattle.ballot_law.proofs.CountedVotes.{both}
use Rattle.ballot_law.specs.declared.node_places.NodePlace.{NodePlace}
use Rattle.ballot_law.specs.NodePlaces.{node_numbered}
use Rattle.sentinel_rules.specs.Plans.{Plan, roster_of, me, group_size, master_count, settings_at, nodes_of, node_named}
use Rattle.sentinel_rules.specs.States.{is_master_role, Core, MasterState, NodeState, master_of, node_of, peer_of, failover_of, card_place, is_failing_over, is_tilted, with_master, with_node, with_failover, with_current, with_card, is_awaiting, is_at, is_planned}
use Rattle.sentinel_rules.specs.Parts.{Part, quiet, puts, part_if}
use Rattle.sentinel_rules.specs.Profiles.{is_redis, marked_at, marked, rested_at, rested, candidate_place, with_failed}
use Rattle.sentinel_rules.specs.Votes.{book_of, with_book, mark_for, requested}
use Rattle.sentinel_rules.specs.News.{at_same_address, at_new_address, card_taken, is_heeded, is_newer, raised_to, adopted, hello_of_known, hello_heeded, hello_read, reported, vote_heard, answer_of, answered, node_pinged, peer_pinged, pinged_at, pinged, node_lost, peer_lost, lost_at, connection_lost, disconnected, with_info, promotion, has_followed, reconfiguration, Wrong, wrong_of, can_be_followed, is_role_overdue, is_address_overdue, anew, correction, is_reconfiguring, judged, info_kept, info_at_node, info_of_node, info_read, closing_frames, with_frames, order_taker, refusal_at, refusal_heard, peer_greeted, greeted_at, greeted, node_announced, announced_at}
use Rattle.sentinel_rules.specs.Facts.{IsSound}
use Rattle.sentinel_rules.specs.Steps.{campaign_in, IsOpenOf}
use Rattle.sentinel_rules.proofs.Framing.{master_same, master_other}
use Rattle.sentinel_rules.proofs.SoundNews.{parts3, reported_sound, greeted_at_sound, announced_at_sound}
use Rattle.sentinel_rules.proofs.StepsTo.{StepsTo, steps_then, steps_more, kept_as, steps_one, parts_at, IsTwin, twin_steps, twin_master, twin_state, same_steps, raise_steps, voted_core, cast_steps, kept_back}

-- Ifs

pub stay_steps : (plan : Plan) (event : Event) (most : ℕ) (core : Core) → StepsTo plan event most core core
stay_steps plan event most core = same_steps plan event most core core refl refl refl

pub steps_if : (plan : Plan) (event : Event) (most : ℕ) (test : Bool) (core : Core) (part : Core → Part) → (test ≡ true → StepsTo plan event most core (part core).core) →
    StepsTo plan event most core (part_if test core part).core
steps_if plan event most true core part f = f refl
steps_if plan event most false core part f = stay_steps plan event most core

pub steps_cond : (plan : Plan) (event : Event) (most : ℕ) (core : Core) (test : Bool) (a b : Core) → (test ≡ true → StepsTo plan event most core a) →
    (test ≡ false → StepsTo plan event most core b) → StepsTo plan event most core (if test then a else b)
steps_cond plan event most core true a b f g = f refl
steps_cond plan event most core false a b f g = g refl

pub steps_part : (plan : Plan) (event : Event) (most : ℕ) (core : Core) (test : Bool) (a b : Part) → (test ≡ true → StepsTo plan event most core a.core) →
    (test ≡ false → StepsTo plan event most core b.core) → StepsTo plan event most core (if test then a else b).core
steps_part plan event most core true a b f g = f refl
steps_part plan event most core false a b f g = g refl

-- a master is among those of a sound core
pub within_core : (plan : Plan) (core : Core) (m : ℕ) → IsSound plan core → m < master_count plan → m < length core.masters
within_core plan core m s lt = subst (λ (n : ℕ). m < n) (sym s.masters) lt

-- The current epoch, and votes

pub raised_steps : (plan : Plan) (event : Event) (epoch : ℕ) (core : Core) → StepsTo plan event 1 core (raised_to epoch core)
raised_steps plan event epoch core = ⊎_elim above (λ (le : epoch ≤ core.kept.current). below le) (cases_lt core.kept.current epoch)
  where
    is_max : (current : ℕ) → current ≡ max core.kept.current epoch → StepsTo plan event 1 core (with_current core current) → StepsTo plan event 1 core (raised_to epoch core)
    is_max current e f = subst (λ (n : ℕ). StepsTo plan event 1 core (with_current core n)) e f

    above : core.kept.current < epoch → StepsTo plan event 1 core (raised_to epoch core)
    above lt = is_max epoch (omega arith) (raise_steps plan event epoch core lt)

    below : epoch ≤ core.kept.current → StepsTo plan event 1 core (raised_to epoch core)
    below le = is_max core.kept.current (omega arith) (stay_steps plan event 1 core)

pub mark_twin : (plan : Plan) (m now : ℕ) (candidate : RunId) (core : Core) → m < length core.masters →
    IsTwin m core (mark_for plan m now candidate core) (campaign_in (failover_of core m).state)
mark_twin plan m now candidate core lt = known (same_id candidate (me plan))
  where
    self : IsTwin m core core (campaign_in (failover_of core m).state)
    self = record { kept = refl; won = refl; count = refl; others = λ k apart. refl; heard = refl; runs = refl }

    known : (b : Bool) → IsTwin m core (if b then core else with_failover core m (marked (marked_at plan core m now) (failover_of core m))) (campaign_in (failover_of core m).state)
    known true = self
    known false = twin_master core m (record (master_of core m) { failover = marked (marked_at plan core m now) (failover_of core m) }) lt refl

-- where the next campaign is put off, nothing that the model sees changes
pub rested_twin : (plan : Plan) (m now : ℕ) (rest : Option ℕ) (core : Core) → m < length core.masters →
    IsTwin m core (rested plan m now rest core) (campaign_in (failover_of core m).state)
rested_twin plan m now None core lt = record { kept = refl; won = refl; count = refl; others = λ k apart. refl; heard = refl; runs = refl }
rested_twin plan m now (Some rest) core lt =
    twin_master core m (record (master_of core m) { failover = marked (rested_at plan core m now rest) (failover_of core m) }) lt refl

pub rested_count : (plan : Plan) (m now : ℕ) (rest : Option ℕ) (core : Core) → length (rested plan m now rest core).masters ≡ length core.masters
rested_count plan m now None core = refl
rested_count plan m now (Some rest) core =
    length-set core.masters m (record (master_of core m) { failover = marked (rested_at plan core m now rest) (failover_of core m) })

-- nor where a replica that didn't obey is kept
pub failed_twin : (m now : ℕ) (failed : Option ℕ) (core : Core) → m < length core.masters → IsTwin m core (with_failed m now failed core) (campaign_in (failover_of core m).state)
failed_twin m now None core lt = record { kept = refl; won = refl; count = refl; others = λ k apart. refl; heard = refl; runs = refl }
failed_twin m now (Some k) core lt = twin_master core m (record (master_of core m) { failed = slice_set (master_of core m).failed k (Some now) }) lt refl

pub failed_count : (m now : ℕ) (failed : Option ℕ) (core : Core) → length (with_failed m now failed core).masters ≡ length core.masters
failed_count m now None core = refl
failed_count m now (Some k) core = length-set core.masters m (record (master_of core m) { failed = slice_set (master_of core m).failed k (Some now) })

granted : (b : Bool) (book : Book) (epoch : ℕ) (candidate : RunId) → b ≡ true →
    (if b then record { current = epoch; voted = epoch; leader = Some candidate } else raised book epoch) ≡ (let x : Book =
    record { current = epoch; voted = epoch; leader = Some candidate } in x)
granted true book epoch candidate h = refl
granted false book epoch candidate h = absurd (cc)

refused : (b : Bool) (book : Book) (epoch : ℕ) (candidate : RunId) → b ≡ false →
    (if b then record { current = epoch; voted = epoch; leader = Some candidate } else raised book epoch) ≡ raised book epoch
refused true book epoch candidate h = absurd (cc)
refused false book epoch candidate h = refl

-- the core after a vote that is given
pub voted_is : (core : Core) (m epoch : ℕ) (candidate : RunId) → grants (book_of core m) epoch ≡ true →
    with_book core m (asked (book_of core m) epoch candidate) ≡ voted_core core m epoch candidate
voted_is core m epoch candidate h =
    ap (λ (book : Book). with_book core m book) (granted (grants (book_of core m) epoch) (book_of core m) epoch candidate h)

-- a request: the current epoch is raised, and the vote given, or the epoch raised alone
pub requested_steps : (plan : Plan) (event : Event) (m now epoch : ℕ) (candidate : RunId) (core : Core) → m < length core.masters → m < master_count plan →
    StepsTo plan event 2 core (requested plan m now epoch candidate core)
requested_steps plan event m now epoch candidate core lt inside = known (grants (book_of core m) epoch) refl
  where
    book : Core
    book = with_book core m (asked (book_of core m) epoch candidate)

    raised_core : Core
    raised_core = raised_to epoch core

    voted : grants (book_of core m) epoch ≡ true → StepsTo plan event 2 core (mark_for plan m now candidate book)
    voted h =
        let parts = both (nat_lt (voted_of core.kept m) epoch) (nat_le core.kept.current epoch) h in
        let newer : voted_of core.kept m < epoch = ltb-true (voted_of core.kept m) epoch parts.0 in
        let low : core.kept.current ≤ epoch = leb-true core.kept.current epoch parts.1 in
        let at : max core.kept.current epoch ≡ epoch = omega arith in
        let high : StepsTo plan event 1 core (with_current core epoch) =
        subst (λ (n : ℕ). StepsTo plan event 1 core (with_current core n)) at (raised_steps plan event epoch core) in
        let cast : StepsTo plan event 1 (with_current core epoch) (voted_core core m epoch candidate) =
        cast_steps plan event m epoch candidate (with_current core epoch) lt inside refl newer in
        let mark : StepsTo plan event 0 (voted_core core m epoch candidate) (mark_for plan m now candidate (voted_core core m epoch candidate)) =
        twin_steps plan event 0 m (voted_core core m epoch candidate) (mark_for plan m now candidate (voted_core core m epoch candidate)) lt
        (mark_twin plan m now candidate (voted_core core m epoch candidate) lt) in
        subst (λ (c : Core). StepsTo plan event 2 core (mark_for plan m now candidate c)) (sym (voted_is core m epoch candidate h))
        (steps_then plan event 2 0 core (voted_core core m epoch candidate) (mark_for plan m now candidate (voted_core core m epoch candidate))
        (steps_then plan event 1 1 core (with_current core epoch) (voted_core core m epoch candidate) high cast) mark)

    same_twin : IsTwin m raised_core (with_book core m (raised (book_of core m) epoch)) (campaign_in (failover_of core m).state)
    same_twin =
        record { kept = kept_back raised_core.kept m; won = refl; count = refl; others = λ k apart. refl; heard = refl; runs = refl }

    past : grants (book_of core m) epoch ≡ false → StepsTo plan event 2 core book
    past h =
        let same : book ≡ with_book core m (raised (book_of core m) epoch) =
        ap (λ (b : Book). with_book core m b) (refused (grants (book_of core m) epoch) (book_of core m) epoch candidate h) in
        subst (λ (c : Core). StepsTo plan event 2 core c) (sym same)
        (steps_then plan event 1 1 core raised_core (with_book core m (raised (book_of core m) epoch)) (raised_steps plan event epoch core)
        (twin_steps plan event 1 m raised_core (with_book core m (raised (book_of core m) epoch)) lt same_twin))

    known : (b : Bool) → grants (book_of core m) epoch ≡ b → StepsTo plan event 2 core (if b then mark_for plan m now candidate book else book)
    known true h = voted h
    known false h = past h

-- A configuration is taken

pub enact_steps : (plan : Plan) (event : Event) (m epoch : ℕ) (choice : Addr) (core : Core) → m < length core.masters → m < master_count plan
    → campaign_in (failover_of core m).state ≡ Chosen epoch choice → StepsTo plan event 1 core (with_card core m (record { epoch = epoch; addr = choice }))
enact_steps plan event m epoch choice core lt inside runs =
    steps_one plan event (Enact m epoch choice) core (with_card core m (record { epoch = epoch; addr = choice }))
    (λ parts is. (inside, (is.each m lt).campaign ∙ runs))
    (λ parts is. parts_at core (with_card core m (record { epoch = epoch; addr = choice })) m (kept_as core parts) (after plan.place (kept_as core parts) (Enact m epoch choice))
    (open_of parts m) is lt refl (λ k apart. refl) (is.each m lt) refl refl is.wins)

abbrev pub stopped_core : Core → (m : ℕ) → Card → Core
stopped_core core m card = with_failover (raised_to card.epoch core) m (ended (failover_of core m))

pub adopt_steps : (plan : Plan) (event : Event) (m : ℕ) (card : Card) (core : Core) → m < length core.masters → m < master_count plan
    → ShowsCard (roster_of plan) event m card → (card_of core.kept m).epoch < card.epoch → HasNode (roster_of plan) m card.addr
    → StepsTo plan event 1 core (with_card (stopped_core core m card) m card)
adopt_steps plan event m card core lt inside shows newer there =
    steps_one plan event (Adopt m card) core core2
    (λ parts is. (inside, shows, newer, there))
    (λ parts is. let o : IsOpenOf m (master_of core m) (open_of parts m) = is.each m lt in
    parts_at core core2 m (kept_as core parts) (after plan.place (kept_as core parts) (Adopt m card)) (record (open_of parts m) { campaign = NoCampaign }) is lt
    (length-set core.masters m master) (λ k apart. master_other core m k master apart)
    (subst (λ (x : MasterState). IsOpenOf m x (record (open_of parts m) { campaign = NoCampaign })) (sym (master_same core m master lt))
    (record { heard = o.heard; campaign = refl }))
    refl refl is.wins)
  where
    core2 : Core
    core2 = with_card (stopped_core core m card) m card

    master : MasterState
    master = record (master_of core m) { failover = ended (failover_of core m) }

-- what is forgotten at the nodes is nothing to the model
pub taken_steps : (plan : Plan) (event : Event) (m now : ℕ) (card : Card) (core : Core) → m < length core.masters →
    StepsTo plan event 0 (with_card core m card) (card_taken plan m now card core).core
taken_steps plan event m now card core lt =
    steps_part plan event 0 (with_card core m card) (same_addr (card_of core.kept m).addr card.addr)
    (quiet (with_card (with_master core m (at_same_address (master_of core m))) m card))
    (puts (with_card (with_master core m (at_new_address plan.profile now (master_of core m))) m card) _)
    (λ h. twin_steps plan event 0 m (with_card core m card) (with_card (with_master core m (at_same_address (master_of core m))) m card) lt
    (twin_master (with_card core m card) m (at_same_address (master_of core m)) lt refl))
    (λ h. twin_steps plan event 0 m (with_card core m card) (with_card (with_master core m (at_new_address plan.profile now (master_of core m))) m card) lt
    (twin_master (with_card core m card) m (at_new_address plan.profile now (master_of core m)) lt refl))

-- Hellos

known_steps : (plan : Plan) (m now : ℕ) (text : List ℕ) (hello : Hello) (core : Core) → SpellsHello text hello → master_named (roster_of plan) hello.master ≡ Some m →
    IsSound plan core → StepsTo plan (HelloRead text) 2 core (hello_of_known plan m now hello core).core
known_steps plan m now text hello core spelled names s =
    steps_then plan (HelloRead text) 1 1 core high (hello_of_known plan m now hello core).core (raised_steps plan (HelloRead text) hello.current core)
    (steps_if plan (HelloRead text) 1 (is_newer plan high m hello.card) high (adopted plan m now hello.card)
    (λ h. let parts = both (nat_lt (card_of high.kept m).epoch hello.card.epoch) (list_any (same_addr hello.card.addr) (nodes_of plan m)) h in
    steps_then plan (HelloRead text) 1 0 high (with_card (stopped_core high m hello.card) m hello.card) (adopted plan m now hello.card high).core
    (adopt_steps plan (HelloRead text) m hello.card high lt inside (record { hello = hello; text = text; read = refl; spelled = spelled; names = names; shows = refl })
    (ltb-true (card_of high.kept m).epoch hello.card.epoch parts.0) parts.1)
    (taken_steps plan (HelloRead text) m now hello.card (stopped_core high m hello.card) stopped_lt)))
  where
    high : Core
    high = raised_to hello.current core

    inside : m < master_count plan
    inside = (named_master (roster_of plan) hello.master m names).0

    lt : m < length core.masters
    lt = within_core plan core m s inside

    stopped_lt : m < length (stopped_core high m hello.card).masters
    stopped_lt = subst (λ (n : ℕ). m < n) (sym (length-set core.masters m (record (master_of core m) { failover = ended (failover_of core m) }))) lt

greeted_at_steps : (plan : Plan) (event : Event) (now : ℕ) (at : Option ℕ) (core : Core) → StepsTo plan event 0 core (greeted_at now at core)
greeted_at_steps plan event now None core = stay_steps plan event 0 core
greeted_at_steps plan event now (Some place) core =
    same_steps plan event 0 core (record core { peers = slice_set core.peers place (peer_greeted now (peer_of core place)) }) refl refl refl

heeded_steps : (plan : Plan) (now : ℕ) (m : Option ℕ) (text : List ℕ) (hello : Hello) (core : Core) → SpellsHello text hello → master_named (roster_of plan) hello.master ≡ m →
    IsSound plan core → StepsTo plan (HelloRead text) 2 core (hello_heeded plan now m hello core).core
heeded_steps plan now None text hello core spelled names s = stay_steps plan (HelloRead text) 2 core
heeded_steps plan now (Some m) text hello core spelled names s =
    steps_then plan (HelloRead text) 0 2 core (greeted plan now hello core) (hello_of_known plan m now hello (greeted plan now hello core)).core
    (greeted_at_steps plan (HelloRead text) now (candidate_place plan (Some hello.id)) core)
    (known_steps plan m now text hello (greeted plan now hello core) spelled names (greeted_at_sound plan now (candidate_place plan (Some hello.id)) core s))

read_steps : (plan : Plan) (now : ℕ) (text : List ℕ) (read : Result Hello TextFault) (core : Core) → hello_of text ≡ read → IsSound plan core →
    StepsTo plan (HelloRead text) 2 core (hello_read plan now read core).core
read_steps plan now text (Err fault) core e s = stay_steps plan (HelloRead text) 2 core
read_steps plan now text (Ok hello) core e s =
    steps_if plan (HelloRead text) 2 (is_heeded plan hello) core (hello_heeded plan now (master_named (roster_of plan) hello.master) hello)
    (λ h. heeded_steps plan now (master_named (roster_of plan) hello.master) text hello core (hello_is text hello e) refl s)

pub hello_steps : (plan : Plan) (now : ℕ) (text : List ℕ) (core : Core) → IsSound plan core → StepsTo plan (HelloRead text) 2 core (hello_read plan now (hello_of text) core).core
hello_steps plan now text core s = read_steps plan now text (hello_of text) core refl s

-- Answers

reported_steps : (plan : Plan) (event : Event) (voter m now : ℕ) (addr : Addr) (down : Bool) (core : Core) → m < length core.masters →
    StepsTo plan event 0 core (reported voter m now addr down core)
reported_steps plan event voter m now addr down core lt =
    steps_cond plan event 0 core (same_addr addr (card_of core.kept m).addr) (with_master core m new) core
    (λ h. twin_steps plan event 0 m core (with_master core m new) lt (twin_master core m new lt refl))
    (λ h. stay_steps plan event 0 core)
  where
    new : MasterState
    new = record (master_of core m) { reports = with_report voter (record { down = down; at = now }) (master_of core m).reports }

greater_heard : (heard : List _) (voter m : ℕ) (kept : Option HeardVote) (new given : HeardVote) →
    ((old : HeardVote) → kept ≡ Some old → Contains heard (vote voter m old.epoch old.candidate))
    → Some (greater kept new) ≡ Some given → Contains (heard ++ vote voter m new.epoch new.candidate ∷ []) (vote voter m given.epoch given.candidate)
greater_heard heard voter m kept new given old e = of_case kept old e
  where
    last : new ≡ given → Contains (heard ++ vote voter m new.epoch new.candidate ∷ []) (vote voter m given.epoch given.candidate)
    last e = subst (λ (g : HeardVote). Contains (heard ++ vote voter m new.epoch new.candidate ∷ []) (vote voter m g.epoch g.candidate)) e
        (Contains-push heard (vote voter m new.epoch new.candidate))

    earlier : (x : HeardVote) → Contains heard (vote voter m x.epoch x.candidate) → x ≡ given →
        Contains (heard ++ vote voter m new.epoch new.candidate ∷ []) (vote voter m given.epoch given.candidate)
    earlier x there e = subst (λ (g : HeardVote). Contains (heard ++ vote voter m new.epoch new.candidate ∷ []) (vote voter m g.epoch g.candidate)) e
        (Contains-append_left heard (vote voter m new.epoch new.candidate ∷ []) (vote voter m x.epoch x.candidate) there)

    by_test : (b : Bool) (x : HeardVote) → Contains heard (vote voter m x.epoch x.candidate) → Some (cond b new x) ≡ Some given →
        Contains (heard ++ vote voter m new.epoch new.candidate ∷ []) (vote voter m given.epoch given.candidate)
    by_test true x there e = last cc
    by_test false x there e = earlier x there cc

    of_case : (kept : Option HeardVote) → ((old : HeardVote) → kept ≡ Some old → Contains heard (vote voter m old.epoch old.candidate)) → Some (greater kept new) ≡ Some given →
        Contains (heard ++ vote voter m new.epoch new.candidate ∷ []) (vote voter m given.epoch given.candidate)
    of_case None old e = last cc
    of_case (Some x) old e = by_test (nat_lt x.epoch new.epoch) x (old x refl) e

-- a vote is heard
pub hear_steps : (plan : Plan) (voter m : ℕ) (addr : Addr) (down : Bool) (leader : RunId) (epoch : ℕ) (core : Core) → m < length core.masters → m < master_count plan →
    voter < length (master_of core m).heard
    → StepsTo plan (AnswerCame (SentinelAt voter) m addr down (Some leader) epoch) 1 core (vote_heard voter m epoch (Some leader) core)
hear_steps plan voter m addr down leader epoch core lt inside room =
    steps_one plan (AnswerCame (SentinelAt voter) m addr down (Some leader) epoch) (Hear voter m epoch leader) core core2
    (λ parts is. (inside, refl))
    (λ parts is. let o : IsOpenOf m (master_of core m) (open_of parts m) = is.each m lt in
    parts_at core core2 m (kept_as core parts) (after plan.place (kept_as core parts) (Hear voter m epoch leader))
    (record (open_of parts m) { heard = (open_of parts m).heard ++ vote voter m epoch leader ∷ [] }) is lt
    (length-set core.masters m master) (λ k apart. master_other core m k master apart)
    (subst (λ (x : MasterState). IsOpenOf m x (record (open_of parts m) { heard = (open_of parts m).heard ++ vote voter m epoch leader ∷ [] })) (sym (master_same core m master lt))
    (record {
      heard = λ v given h. ⊎_elim (λ (e : v ≡ voter). own parts o v given e h) (λ (apart : v ≢ voter). others parts o v given apart h) (cases_eq v voter);
      campaign = o.campaign;
    }))
    (kept_back core.kept m) refl is.wins)
  where
    core2 : Core
    core2 = vote_heard voter m epoch (Some leader) core

    master : MasterState
    master = record (master_of core m) { heard = with_hearing voter epoch leader (master_of core m).heard }

    others : (parts : Parts) → IsOpenOf m (master_of core m) (open_of parts m) → (v : ℕ) (given : HeardVote) → v ≢ voter → kept_at master.heard v ≡ Some given →
        Contains ((open_of parts m).heard ++ vote voter m epoch leader ∷ []) (vote v m given.epoch given.candidate)
    others parts o v given apart h =
        let same : kept_at master.heard v ≡ kept_at (master_of core m).heard v =
        get_or-set_other (master_of core m).heard voter v (Some (greater (kept_at (master_of core m).heard voter) (record { candidate = leader; epoch = epoch }))) None
        apart in
        Contains-append_left (open_of parts m).heard (vote voter m epoch leader ∷ []) (vote v m given.epoch given.candidate) (o.heard v given (sym same ∙ h))

    own : (parts : Parts) → IsOpenOf m (master_of core m) (open_of parts m) → (v : ℕ) (given : HeardVote) → v ≡ voter → kept_at master.heard v ≡ Some given →
        Contains ((open_of parts m).heard ++ vote voter m epoch leader ∷ []) (vote v m given.epoch given.candidate)
    own parts o v given e h =
        let there : kept_at master.heard voter ≡ Some (greater (kept_at (master_of core m).heard voter) (record { candidate = leader; epoch = epoch })) =
        get_or-set_same (master_of core m).heard voter (Some (greater (kept_at (master_of core m).heard voter) (record { candidate = leader; epoch = epoch }))) None room in
        let h2 : kept_at master.heard voter ≡ Some given = subst (λ (i : ℕ). kept_at master.heard i ≡ Some given) e h in
        subst (λ (i : ℕ). Contains ((open_of parts m).heard ++ vote voter m epoch leader ∷ []) (vote i m given.epoch given.candidate)) (sym e)
        (greater_heard (open_of parts m).heard voter m (kept_at (master_of core m).heard voter) (record { candidate = leader; epoch = epoch }) given (λ old k. o.heard voter old k)
        (sym there ∙ h2))

heard_steps : (plan : Plan) (voter m : ℕ) (addr : Addr) (down : Bool) (leader : Option RunId) (epoch : ℕ) (core : Core) → m < length core.masters → m < master_count plan →
    voter < length (master_of core m).heard
    → StepsTo plan (AnswerCame (SentinelAt voter) m addr down leader epoch) 1 core (vote_heard voter m epoch leader core)
heard_steps plan voter m addr down None epoch core lt inside room = stay_steps plan (AnswerCame (SentinelAt voter) m addr down None epoch) 1 core
heard_steps plan voter m addr down (Some leader) epoch core lt inside room = hear_steps plan voter m addr down leader epoch core lt inside room

answer_steps : (plan : Plan) (voter m now : ℕ) (addr : Addr) (down : Bool) (leader : Option RunId) (epoch : ℕ) (core : Core) → IsSound plan core
    → StepsTo plan (AnswerCame (SentinelAt voter) m addr down leader epoch) 1 core (answer_of plan voter m now addr down leader epoch core)
answer_steps plan voter m now addr down leader epoch core s =
    steps_cond plan (AnswerCame (SentinelAt voter) m addr down leader epoch) 1 core (nat_lt voter (group_size plan) && not (voter == plan.place) && nat_lt m (master_count plan))
    (vote_heard voter m epoch leader (reported voter m now addr down core)) core
    (λ h. let parts = parts3 (nat_lt voter (group_size plan)) (not (voter == plan.place)) (nat_lt m (master_count plan)) h in
    heard (ltb-true voter (group_size plan) parts.0) (ltb-true m (master_count plan) parts.2))
    (λ h. stay_steps plan (AnswerCame (SentinelAt voter) m addr down leader epoch) 1 core)
  where
    heard : voter < group_size plan → m < master_count plan →
        StepsTo plan (AnswerCame (SentinelAt voter) m addr down leader epoch) 1 core (vote_heard voter m epoch leader (reported voter m now addr down core))
    heard in_group inside =
        let t : IsSound plan (reported voter m now addr down core) = reported_sound plan voter m now addr down core s in
        steps_then plan (AnswerCame (SentinelAt voter) m addr down leader epoch) 0 1 core (reported voter m now addr down core)
        (vote_heard voter m epoch leader (reported voter m now addr down core))
        (reported_steps plan (AnswerCame (SentinelAt voter) m addr down leader epoch) voter m now addr down core (within_core plan core m s inside))
        (heard_steps plan voter m addr down leader epoch (reported voter m now addr down core) (within_core plan (reported voter m now addr down core) m t inside) inside
        (subst (λ (n : ℕ). voter < n) (sym (t.each m inside).heard) in_group))

pub answered_steps : (plan : Plan) (voter : NodeName) (m now : ℕ) (addr : Addr) (down : Bool) (leader : Option RunId) (epoch : ℕ) (core : Core) → IsSound plan core
    → StepsTo plan (AnswerCame voter m addr down leader epoch) 1 core (answered plan voter m now addr down leader epoch core)
answered_steps plan (SentinelAt voter) m now addr down leader epoch core s = answer_steps plan voter m now addr down leader epoch core s
answered_steps plan (StoreAt number) m now addr down leader epoch core s = stay_steps plan (AnswerCame (StoreAt number) m addr down leader epoch) 1 core
answered_steps plan (ClientAt number) m now addr down leader epoch core s = stay_steps plan (AnswerCame (ClientAt number) m addr down leader epoch) 1 core
answered_steps plan (PortAt number) m now addr down leader epoch core s = stay_steps plan (AnswerCame (PortAt number) m addr down leader epoch) 1 core

-- Nodes

numbered_within : (masters : List MasterPlan) (first number : ℕ) (at : NodePlace) → node_numbered masters first number ≡ Some at → at.master < first + length masters
numbered_within [] first number at h = absurd (cc)
numbered_within (master ∷ masters) first number at h = known (nat_lt number (length master.nodes)) h
    (λ (e : node_numbered masters (first + 1) (number - length master.nodes) ≡ Some at). numbered_within masters (first + 1) (number - length master.nodes) at e)
  where
    known : (b : Bool) → (if b then Some (let x : NodePlace = record { master = first; place = number } in x) else node_numbered masters (first + 1)
        (number - length master.nodes)) ≡ Some at
        → (node_numbered masters (first + 1) (number - length master.nodes) ≡ Some at → at.master < first + 1 + length masters) → at.master < first + length (master ∷ masters)
    known true h more = let e : (let x : NodePlace = record { master = first; place = number } in x) ≡ at =
        cc in subst (λ (a : NodePlace). a.master < first + length (master ∷ masters)) e (omega arith)
    known false h more = let l : at.master < first + 1 + length masters = more h in omega arith

pub named_within : (plan : Plan) (node : NodeName) (at : NodePlace) → node_named plan node ≡ Some at → at.master < master_count plan
named_within plan (StoreAt number) at h = let l : at.master < 0 + length (roster_of plan).masters = numbered_within (roster_of plan).masters 0 number at h in omega arith
named_within plan (SentinelAt place) at h = absurd (cc)
named_within plan (ClientAt number) at h = absurd (cc)
named_within plan (PortAt number) at h = absurd (cc)

pub node_steps : (plan : Plan) (event : Event) (m k : ℕ) (node : NodeState) (core : Core) → m < length core.masters → StepsTo plan event 0 core (with_node core m k node)
node_steps plan event m k node core lt =
    twin_steps plan event 0 m core (with_node core m k node) lt (twin_master core m (record (master_of core m) { nodes = slice_set (master_of core m).nodes k node }) lt refl)

pinged_at_steps : (plan : Plan) (event : Event) (now : ℕ) (reply : PingReply) (at : Option NodePlace) (core : Core) →
    ((a : NodePlace) → at ≡ Some a → a.master < master_count plan) → IsSound plan core → StepsTo plan event 0 core (pinged_at now reply at core)
pinged_at_steps plan event now reply None core f s = stay_steps plan event 0 core
pinged_at_steps plan event now reply (Some at) core f s = node_steps plan event at.master at.place (node_pinged now reply (node_of core at.master at.place)) core
    (within_core plan core at.master s (f at refl))

lost_at_steps : (plan : Plan) (event : Event) (at : Option NodePlace) (core : Core) → ((a : NodePlace) → at ≡ Some a → a.master < master_count plan) → IsSound plan core →
    StepsTo plan event 0 core (lost_at at core)
lost_at_steps plan event None core f s = stay_steps plan event 0 core
lost_at_steps plan event (Some at) core f s = node_steps plan event at.master at.place (node_lost (node_of core at.master at.place)) core
    (within_core plan core at.master s (f at refl))

lost_steps : (plan : Plan) (event : Event) (node : NodeName) (core : Core) → IsSound plan core → StepsTo plan event 0 core (connection_lost plan node core)
lost_steps plan event (SentinelAt place) core s =
    steps_cond plan event 0 core (nat_lt place (group_size plan) && not (place == plan.place))
    (record core { peers = slice_set core.peers place (peer_lost (peer_of core place)) }) core
    (λ h. same_steps plan event 0 core (record core { peers = slice_set core.peers place (peer_lost (peer_of core place)) }) refl refl refl)
    (λ h. stay_steps plan event 0 core)
lost_steps plan event (StoreAt number) core s = lost_at_steps plan event (node_named plan (StoreAt number)) core (λ at e. named_within plan (StoreAt number) at e) s
lost_steps plan event (ClientAt number) core s = stay_steps plan event 0 core
lost_steps plan event (PortAt number) core s = stay_steps plan event 0 core

-- a connection that was lost is nothing to the model
pub disconnected_steps : (plan : Plan) (event : Event) (node : NodeName) (core : Core) → IsSound plan core → StepsTo plan event 0 core (disconnected plan node core)
disconnected_steps plan event node core s =
    steps_cond plan event 0 core (is_redis plan.profile) (connection_lost plan node core) core (λ h. lost_steps plan event node core s) (λ h. stay_steps plan event 0 core)

refusal_at_steps : (plan : Plan) (event : Event) (at : Option NodePlace) (core : Core) → ((a : NodePlace) → at ≡ Some a → a.master < master_count plan) → IsSound plan core →
    StepsTo plan event 0 core (refusal_at plan at core)
refusal_at_steps plan event None core f s = stay_steps plan event 0 core
refusal_at_steps plan event (Some at) core f s =
    let lt : at.master < length core.masters = within_core plan core at.master s (f at refl) in
    steps_cond plan event 0 core (is_awaiting (failover_of core at.master).state && is_at (order_taker plan core at.master) at.place)
    (with_master core at.master (record (master_of core at.master) { refused = true })) core
    (λ h. twin_steps plan event 0 at.master core (with_master core at.master (record (master_of core at.master) { refused = true })) lt
    (twin_master core at.master (record (master_of core at.master) { refused = true }) lt refl))
    (λ h. stay_steps plan event 0 core)

-- nor is that a node refuses to hand over, or to be the master
pub refusal_steps : (plan : Plan) (event : Event) (node : NodeName) (core : Core) → IsSound plan core → StepsTo plan event 0 core (refusal_heard plan node core)
refusal_steps plan event node core s =
    steps_cond plan event 0 core (is_redis plan.profile) (refusal_at plan (node_named plan node) core) core
    (λ h. refusal_at_steps plan event (node_named plan node) core (λ at e. named_within plan node at e) s) (λ h. stay_steps plan event 0 core)

pub pinged_steps : (plan : Plan) (event : Event) (node : NodeName) (now : ℕ) (reply : PingReply) (core : Core) → IsSound plan core →
    StepsTo plan event 0 core (pinged plan node now reply core)
pinged_steps plan event (SentinelAt place) now reply core s =
    steps_cond plan event 0 core (nat_lt place (group_size plan) && not (place == plan.place))
    (record core { peers = slice_set core.peers place (peer_pinged now reply (peer_of core place)) }) core
    (λ h. same_steps plan event 0 core (record core { peers = slice_set core.peers place (peer_pinged now reply (peer_of core place)) }) refl refl refl)
    (λ h. stay_steps plan event 0 core)
pinged_steps plan event (StoreAt number) now reply core s = pinged_at_steps plan event now reply (node_named plan (StoreAt number)) core
    (λ at e. named_within plan (StoreAt number) at e) s
pinged_steps plan event (ClientAt number) now reply core s = stay_steps plan event 0 core
pinged_steps plan event (PortAt number) now reply core s = stay_steps plan event 0 core

-- INFO

promotion_steps : (plan : Plan) (event : Event) (m k now : ℕ) (info : Info) (state : FailoverState) (core : Core) → m < length core.masters → m < master_count plan →
    (failover_of core m).state ≡ state → StepsTo plan event 1 core (promotion plan m k now info state core).core
promotion_steps plan event m k now info (WaitPromotion epoch choice former) core lt inside e =
    steps_if plan event 1 ((k == choice.place) && is_master_role info.role) core
    (λ c. with_frames
    (card_taken plan m now (record { epoch = epoch; addr = choice.addr })
    (with_failover c m (promoted (WaitPromotion epoch choice former) (record (failover_of c m) { moment = now }))))
    (closing_frames plan m k (card_place plan c m) (is_planned c m)))
    (λ h. steps_then plan event 1 0 core (with_card told m card) (card_taken plan m now card told).core
    (steps_then plan event 0 1 core told (with_card told m card)
    (twin_steps plan event 0 m core told lt (twin_state m core told (campaign_in f.state) (campaign_in (failover_of core m).state)
    (sym (ap (λ (st : FailoverState). campaign_in st) e)) (twin_master core m (record (master_of core m) { failover = f }) lt refl)))
    (enact_steps plan event m epoch choice.addr told told_lt inside
    (ap (λ (master : MasterState). campaign_in master.failover.state) (master_same core m (record (master_of core m) { failover = f }) lt))))
    (taken_steps plan event m now card told told_lt))
  where
    f : Failover
    f = promoted (WaitPromotion epoch choice former) (record (failover_of core m) { moment = now })

    card : Card
    card = record { epoch = epoch; addr = choice.addr }

    told : Core
    told = with_failover core m f

    told_lt : m < length told.masters
    told_lt = subst (λ (n : ℕ). m < n) (sym (length-set core.masters m (record (master_of core m) { failover = f }))) lt
promotion_steps plan event m k now info _ core lt inside e = stay_steps plan event 1 core

reconfigured_state : (state : FailoverState) (f : Failover) (k : ℕ) → (reconfigured state f k).state ≡ f.state
reconfigured_state (ReconfReplicas epoch choice former) f k = refl
reconfigured_state _ f k = refl

reconfiguration_steps : (plan : Plan) (event : Event) (m k : ℕ) (info : Info) (core : Core) → m < length core.masters →
    StepsTo plan event 1 core (reconfiguration m k info core).core
reconfiguration_steps plan event m k info core lt =
    steps_if plan event 1 (has_followed info (card_of core.kept m).addr) core (λ c. quiet (with_failover c m (reconfigured (failover_of c m).state (failover_of c m) k)))
    (λ h. twin_steps plan event 1 m core (with_failover core m f) lt
    (twin_state m core (with_failover core m f) (campaign_in f.state) (campaign_in (failover_of core m).state)
    (ap (λ (st : FailoverState). campaign_in st) (reconfigured_state (failover_of core m).state (failover_of core m) k))
    (twin_master core m (record (master_of core m) { failover = f }) lt refl)))
  where
    f : Failover
    f = reconfigured (failover_of core m).state (failover_of core m) k

judged_steps : (plan : Plan) (event : Event) (m k now : ℕ) (info : Info) (core : Core) → m < length core.masters → m < master_count plan →
    StepsTo plan event 1 core (judged plan m k now info core).core
judged_steps plan event m k now info core lt inside =
    steps_part plan event 1 core (is_failing_over core m)
    (if is_reconfiguring (failover_of core m).state then reconfiguration m k info core else promotion plan m k now info (failover_of core m).state core)
    (part_if (not (k == card_place plan core m)) core (correction plan m k now info))
    (λ h. steps_part plan event 1 core (is_reconfiguring (failover_of core m).state) (reconfiguration m k info core) (promotion plan m k now info (failover_of core m).state core)
    (λ h2. reconfiguration_steps plan event m k info core lt)
    (λ h2. promotion_steps plan event m k now info (failover_of core m).state core lt inside refl))
    (λ h. steps_if plan event 1 (not (k == card_place plan core m)) core (correction plan m k now info)
    (λ h2. steps_more plan event 0 1 core (correction plan m k now info core).core (omega arith)
    (node_steps plan event m k (record (node_of core m k) { wrong_role = anew role_told now wrong.role; wrong_address = anew address_told now wrong.address }) core lt)))
  where
    wrong : Wrong
    wrong = wrong_of now info (card_of core.kept m).addr (node_of core m k)

    role_told : Bool
    role_told = is_role_overdue now wrong && can_be_followed plan core m now

    address_told : Bool
    address_told = is_address_overdue (settings_at plan m).timeout now wrong && can_be_followed plan core m now

at_node_steps : (plan : Plan) (event : Event) (m k now : ℕ) (info : Info) (core : Core) → m < length core.masters → m < master_count plan →
    StepsTo plan event 1 core (info_at_node plan m k now info core).core
at_node_steps plan event m k now info core lt inside =
    steps_then plan event 0 1 core kept (info_at_node plan m k now info core).core
    (node_steps plan event m k (with_info now info (node_of core m k)) core lt)
    (steps_if plan event 1 (not (is_tilted kept)) kept (judged plan m k now info) (λ h. judged_steps plan event m k now info kept kept_lt inside))
  where
    kept : Core
    kept = info_kept m k now info core

    kept_lt : m < length kept.masters
    kept_lt = subst (λ (n : ℕ). m < n) (sym (length-set core.masters m
        (record (master_of core m) { nodes = slice_set (master_of core m).nodes k (with_info now info (node_of core m k)) }))) lt

of_node_steps : (plan : Plan) (event : Event) (now : ℕ) (at : Option NodePlace) (info : Info) (core : Core) → ((a : NodePlace) → at ≡ Some a → a.master < master_count plan) →
    IsSound plan core → StepsTo plan event 1 core (info_of_node plan now at info core).core
of_node_steps plan event now None info core f s = stay_steps plan event 1 core
of_node_steps plan event now (Some at) info core f s = at_node_steps plan event at.master at.place now info core (within_core plan core at.master s (f at refl)) (f at refl)

announced_at_steps : (plan : Plan) (event : Event) (announced : Bool) (at : Option NodePlace) (core : Core) →
    ((a : NodePlace) → at ≡ Some a → a.master < master_count plan) → IsSound plan core → StepsTo plan event 0 core (announced_at announced at core)
announced_at_steps plan event announced None core f s = stay_steps plan event 0 core
announced_at_steps plan event announced (Some at) core f s =
    node_steps plan event at.master at.place (node_announced announced (node_of core at.master at.place)) core (within_core plan core at.master s (f at refl))

pub info_steps : (plan : Plan) (event : Event) (node : NodeName) (now : ℕ) (read : Result Info TextFault) (announced : Bool) (core : Core) → IsSound plan core →
    StepsTo plan event 1 core (info_read plan node now read announced core).core
info_steps plan event node now (Err fault) announced core s = stay_steps plan event 1 core
info_steps plan event node now (Ok info) announced core s =
    let told = announced_at announced (node_named plan node) core in
    steps_then plan event 0 1 core told (info_of_node plan now (node_named plan node) info told).core
    (announced_at_steps plan event announced (node_named plan node) core (λ at e. named_within plan node at e) s)
    (of_node_steps plan event now (node_named plan node) info told (λ at e. named_within plan node at e)
    (announced_at_sound plan announced (node_named plan node) core s))
