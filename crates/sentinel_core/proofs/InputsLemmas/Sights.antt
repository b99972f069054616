-- What a tick does to a master leaves whether this Sentinel finds it down: it changes neither its nodes nor the address of its configuration.
use Rattle.std.proofs.Common.{◌≡◌, ℕ, zero, suc, Bool, true, false, List, [], ◌∷◌, Option, Some, None, slice_index_or, slice_set, refl, ap, ◌∙◌}
use Rattle.std.specs.Prelude.{not, is_some, unwrap_or, ◌==◌, if◌then◌else◌}
use Rattle.ballot_law.specs.declared.addresses.RunId.{RunId}
use Rattle.ballot_law.specs.declared.cards.Card.{Card}
use Rattle.ballot_law.specs.declared.cards.KeptMaster.{KeptMaster}
use Rattle.ballot_law.specs.Ballots.{card_of, kept_of, no_kept}
use Rattle.ballot_law.specs.Orders.{same_id}
use Rattle.ballot_law.specs.OwnVotes.{Book, asked}
use Rattle.ballot_law.specs.Watches.{down_since_of, earlier_of}
use Rattle.failover_states.specs.declared.states.Row.{Row}
use Rattle.failover_states.specs.declared.states.Row.TheVariants.{Elected}
use Rattle.failover_states.specs.Failovers.{Failover, ended}
use Rattle.failover_states.specs.Table.{Turn}
use Rattle.vote_book.specs.Elections.{next_epoch}
use Rattle.sentinel_rules.specs.Contacts.{since_after}
use Rattle.sentinel_rules.specs.Parts.{Part, quiet, part_if}
use Rattle.sentinel_rules.specs.Plans.{Plan, me, node_place, settings_at, reboot_ms}
use Rattle.sentinel_rules.specs.States.{Core, MasterState, NodeState, no_master, no_node, master_of, failover_of, is_failing_over, is_master_down, is_odown_at, loading_since, with_master, with_failover, with_current, is_wished, is_planned, later_of, place_followed, node_of, card_place, reboot_down_since, stray_down_since}
use Rattle.sentinel_rules.specs.Profiles.{election_ms, marked_at, marked, rest_of, rested_at, rested, awaited_up, disobeyed, with_failed, by_profile}
use Rattle.sentinel_rules.specs.declared.assumed.TheConstants.{ASSUMED_INFO}
use Rattle.sentinel_rules.specs.declared.profiles.Profile.{Profile}
use Rattle.sentinel_rules.specs.declared.profiles.Profile.TheVariants.{Strict, Redis}
use Rattle.sentinel_rules.specs.Endings.{is_vain, given_up, is_overtaken, taken_up, let_go}
use Rattle.sentinel_rules.specs.Votes.{book_of, with_book, mark_for}
use Rattle.sentinel_rules.specs.Ticks.{campaign_epoch, turn_of, with_vote, with_win, row_part, after_start, start_turn, start_part, planned_start, with_plan, planned_if, odown_kept, odown_part}
use Rattle.sentinel_state.specs.declared.states.State.{State}
use Rattle.sentinel_state.specs.Parts.{with_part}
use Rattle.failover_states.specs.Calls.{epoch_of, recalled}

-- the configuration of the master, and its nodes, are the same
abbrev pub LooksAlike : ℕ → Core → Core → Type 0
LooksAlike m core core2 = (card_of core2.kept m ≡ card_of core.kept m) × ((master_of core2 m).nodes ≡ (master_of core m).nodes)

alike : (m : ℕ) (core : Core) → LooksAlike m core core
alike m core = (refl, refl)

chained : (m : ℕ) (one two three : Core) → LooksAlike m one two → LooksAlike m two three → LooksAlike m one three
chained m one two three f g = (g.0 ∙ f.0, g.1 ∙ f.1)

-- an item that is written in its place has what the former one had
same_in_place : {X Y : Type 0} (f : X → Y) (xs : List X) (m : ℕ) (x none : X) → f x ≡ f (slice_index_or xs m none) →
    f (slice_index_or (slice_set xs m x) m none) ≡ f (slice_index_or xs m none)
same_in_place f [] m x none h = refl
same_in_place f (y ∷ ys) zero x none h = h
same_in_place f (y ∷ ys) (suc m) x none h = same_in_place f ys m x none h

same_nodes : (m : ℕ) (core : Core) (master : MasterState) → master.nodes ≡ (master_of core m).nodes → LooksAlike m core (with_master core m master)
same_nodes m core master h = (refl, same_in_place (λ (x : MasterState). x.nodes) core.masters m master no_master h)

failover_alike : (m : ℕ) (core : Core) (failover : Failover) → LooksAlike m core (with_failover core m failover)
failover_alike m core failover = same_nodes m core (record (master_of core m) { failover = failover }) refl

book_alike : (m : ℕ) (core : Core) (book : Book) → LooksAlike m core (with_book core m book)
book_alike m core book = (
  same_in_place (λ (x : KeptMaster). x.card) core.kept.masters m (record (kept_of core.kept m) { voted = book.voted; candidate = book.leader }) no_kept refl,
  refl,
)

mark_alike : (plan : Plan) (m now : ℕ) (candidate : RunId) (core : Core) → LooksAlike m core (mark_for plan m now candidate core)
mark_alike plan m now candidate core = by_test (same_id candidate (me plan))
  where
    by_test : (b : Bool) → LooksAlike m core (if b then core else with_failover core m (marked (marked_at plan core m now) (failover_of core m)))
    by_test true = alike m core
    by_test false = failover_alike m core (marked (marked_at plan core m now) (failover_of core m))

vote_alike : (plan : Plan) (m now epoch : ℕ) (vote : Option RunId) (core : Core) → LooksAlike m core (with_vote plan m now epoch vote core)
vote_alike plan m now epoch None core = alike m core
vote_alike plan m now epoch (Some candidate) core =
    let book = asked (book_of core m) epoch candidate in
    let after : Core = with_book core m book in
    chained m core after (mark_for plan m now candidate after) (book_alike m core book) (mark_alike plan m now candidate after)

win_alike : (m epoch : ℕ) (row : Option Row) (core : Core) → LooksAlike m core (with_win m epoch row core)
win_alike m epoch None core = alike m core
win_alike m epoch (Some Elected) core = alike m core
win_alike m epoch (Some _) core = alike m core

rest_alike : (plan : Plan) (m now : ℕ) (rest : Option ℕ) (core : Core) → LooksAlike m core (rested plan m now rest core)
rest_alike plan m now None core = alike m core
rest_alike plan m now (Some rest) core = failover_alike m core (marked (rested_at plan core m now rest) (failover_of core m))

failed_alike : (m now : ℕ) (failed : Option ℕ) (core : Core) → LooksAlike m core (with_failed m now failed core)
failed_alike m now None core = alike m core
failed_alike m now (Some k) core = same_nodes m core (record (master_of core m) { failed = slice_set (master_of core m).failed k (Some now) }) refl

row_alike : (plan : Plan) (m now : ℕ) (core : Core) → LooksAlike m core (row_part plan m now core).core
row_alike plan m now core =
    let turn : Turn = turn_of plan core m now Bool.false in
    let epoch : ℕ = campaign_epoch core m in
    let first : Core = with_failover core m turn.failover in
    let second : Core = with_vote plan m now epoch turn.vote first in
    let third : Core = with_win m epoch turn.row second in
    let rest : Option ℕ = rest_of plan.profile turn.row (election_ms plan m) in
    let fourth : Core = rested plan m now rest third in
    let failed : Option ℕ = disobeyed turn.row (awaited_up plan core m now) in
    chained m core fourth (with_failed m now failed fourth)
    (chained m core third fourth
    (chained m core second third (chained m core first second (failover_alike m core turn.failover) (vote_alike plan m now epoch turn.vote first))
    (win_alike m epoch turn.row second))
    (rest_alike plan m now rest third))
    (failed_alike m now failed fourth)

begun_alike : (m : ℕ) (turn : Turn) (core : Core) → LooksAlike m core (after_start m turn core)
begun_alike m turn core = by_test (is_some turn.row)
  where
    by_test : (b : Bool) → LooksAlike m core (if b then with_current (with_failover core m turn.failover) (next_epoch (book_of core m)) else with_failover core m turn.failover)
    by_test true = failover_alike m core turn.failover
    by_test false = failover_alike m core turn.failover

planned_alike : (m now : ℕ) (turn : Turn) (core : Core) → LooksAlike m core (planned_start m now turn core)
planned_alike m now turn core = by_test (is_some turn.row)
  where
    first : Core
    first = after_start m turn core

    by_test : (b : Bool) → LooksAlike m core (if b then with_plan m now first else first)
    by_test true =
        chained m core first (with_plan m now first) (begun_alike m turn core)
        (same_nodes m first (record (master_of first m) { planned = planned_if (is_wished first m now) (epoch_of (failover_of first m).state) (master_of first m).planned; refused = false }) refl)
    by_test false = begun_alike m turn core

if_alike : (m : ℕ) (core : Core) (test : Bool) (part : Core → Part) → LooksAlike m core (part core).core → LooksAlike m core (part_if test core part).core
if_alike m core true part h = h
if_alike m core false part h = alike m core

seen_alike : (plan : Plan) (m now : ℕ) (core core2 : Core) → LooksAlike m core core2 → is_master_down plan core2 m now ≡ is_master_down plan core m now
seen_alike plan m now core core2 h = by_rule plan.profile
  where
    silent : List NodeState → Option ℕ → Option ℕ
    silent nodes None = None
    silent nodes (Some k) = down_since_of (slice_index_or nodes k no_node).watch now (settings_at plan m).after_ms false

    seen : (stray : ℕ → List NodeState → Option ℕ) → Card → List NodeState → Bool
    seen stray card nodes =
        let place = node_place plan m card.addr in
        let node = slice_index_or nodes place no_node in
        is_some
        (earlier_of (earlier_of (down_since_of node.watch now (settings_at plan m).after_ms (place == place))
        (if place == place then loading_since node.rebooted (reboot_ms plan m) now else None))
        (stray place nodes))

    same : (stray : ℕ → List NodeState → Option ℕ) →
        seen stray (card_of core2.kept m) (master_of core2 m).nodes ≡ seen stray (card_of core.kept m) (master_of core m).nodes
    same stray = ap (λ (card : Card). seen stray card (master_of core2 m).nodes) h.0 ∙ ap (λ (nodes : List NodeState). seen stray (card_of core.kept m) nodes) h.1

    is_seen : Profile → Core → Bool
    is_seen profile c =
        let place = card_place plan c m in
        is_some
        (earlier_of (earlier_of (down_since_of (node_of c m place).watch now (settings_at plan m).after_ms (place == card_place plan c m)) (reboot_down_since plan c m now place))
        (stray_down_since profile plan c m now place))

    by_rule : (profile : Profile) → is_seen profile core2 ≡ is_seen profile core
    by_rule Strict = same (λ place nodes. None)
    by_rule Redis =
        same
        (λ place nodes. if place == place then later_of (slice_index_or nodes place no_node).watch.replica_since
        (silent nodes (place_followed plan m (unwrap_or (slice_index_or nodes place no_node).info ASSUMED_INFO).master))
        else None)

-- a failover that ends, or goes on in another way
let_go_alike : (plan : Plan) (m now : ℕ) (core : Core) → LooksAlike m core (let_go plan m now core)
let_go_alike plan m now core = by_rule plan.profile (is_vain plan core m now) (is_overtaken plan core m now)
  where
    by_rule : (profile : Profile) (vain overtaken : Bool) →
        LooksAlike m core (by_profile profile core (if vain then given_up plan m now core else (if overtaken then taken_up m now core else core)))
    by_rule Strict vain overtaken = alike m core
    by_rule Redis true overtaken =
        same_nodes m core
        (record (master_of core m) {
          failover = marked (rested_at plan core m now 0) (ended (failover_of core m));
          planned = if is_planned core m then None else (master_of core m).planned;
        }) refl
    by_rule Redis false true = same_nodes m core (record (master_of core m) { failover = recalled now (failover_of core m); planned = None; refused = false }) refl
    by_rule Redis false false = alike m core

-- after it was kept whether the master is objectively down
pub seen_after_odown : (old mid : State) (m now : ℕ) → mid ≡ with_part old (odown_part old.plan m now old.core)
    → is_master_down mid.plan mid.core m now ≡ is_master_down old.plan old.core m now
seen_after_odown old mid m now e =
    ap (λ (s : State). is_master_down s.plan s.core m now) e
    ∙ seen_alike old.plan m now old.core (odown_part old.plan m now old.core).core
    (chained m old.core (odown_kept old.plan m now old.core) (odown_part old.plan m now old.core).core (same_nodes m old.core master refl)
    (let_go_alike old.plan m now (odown_kept old.plan m now old.core)))
  where
    master : MasterState
    master =
        record (master_of old.core m) {
          odown = is_odown_at old.plan old.core m now;
          odown_since = since_after (is_odown_at old.plan old.core m now) now (master_of old.core m).odown_since;
        }

-- after a start where one is due, and a row where a failover runs
row_seen : (plan : Plan) (m now : ℕ) (core : Core) →
    is_master_down plan (part_if (is_failing_over (start_part plan m now core).core m) (start_part plan m now core).core (row_part plan m now)).core m now ≡ is_master_down plan
    core m now
row_seen plan m now core =
    let first : Core = (start_part plan m now core).core in
    let second : Core = (part_if (is_failing_over first m) first (row_part plan m now)).core in
    seen_alike plan m now core second
    (chained m core first second
    (if_alike m core (not (is_failing_over core m)) (λ c. quiet (planned_start m now (start_turn plan c m now) c)) (planned_alike m now (start_turn plan core m now) core))
    (if_alike m first (is_failing_over first m) (row_part plan m now) (row_alike plan m now first)))

pub seen_after_row : (old mid after : State) (m now : ℕ) → mid ≡ with_part old (start_part old.plan m now old.core)
    → after ≡ with_part mid (part_if (is_failing_over mid.core m) mid.core (row_part mid.plan m now))
    → is_master_down after.plan after.core m now ≡ is_master_down old.plan old.core m now
seen_after_row old mid after m now e f =
    ap (λ (s : State). is_master_down s.plan s.core m now) f
    ∙ ap (λ (s : State). is_master_down s.plan (part_if (is_failing_over s.core m) s.core (row_part s.plan m now)).core m now) e
    ∙ row_seen old.plan m now old.core
