-- A tick by steps of the ballot model.
use Rattle.std.proofs.Common.{◌≡◌, ℕ, zero, suc, ◌+◌, ◌<◌, ◌≤◌, Bool, true, false, eqb, Option, Some, None, List, length, length-set, refl, sym, ap, subst, ◌∙◌, inl, inr, arith}
use Rattle.std.specs.Prelude.{Contains, IfSome, is_some, not, unwrap_or, nat_lt, nat_le, ◌&&◌, if◌then◌else◌}
use Rattle.std.proofs.lemmas.Bool.{eqb-true, ltb-true, leb-true}
use Rattle.std.proofs.lemmas.List.Folds.{list_any_at}
use Rattle.ballot_law.specs.declared.addresses.Addr.{Addr}
use Rattle.ballot_law.specs.declared.addresses.RunId.{RunId}
use Rattle.ballot_law.specs.declared.events.Event.{Event}
use Rattle.ballot_law.specs.declared.hearings.HeardVote.{HeardVote}
use Rattle.ballot_law.specs.Ballots.{Idle as NoCampaign, Won, Parts, HasVoted, kept_of, card_of, voted_of, candidate_of, open_of, vote}
use Rattle.ballot_law.specs.Orders.{same_addr, same_id}
use Rattle.ballot_law.specs.OwnVotes.{Book, grants, asked, raised}
use Rattle.ballot_law.specs.Rosters.{AtLeast, HasNode, size, need, no_addr}
use Rattle.ballot_law.specs.VotesHeard.{kept_at, is_for, count_in, own_votes, IsElectedIn}
use Rattle.ballot_law.proofs.CountedVotes.{both, AtLeast-kept, same_id-equal}
use Rattle.failover_states.specs.declared.states.FailoverState.{FailoverState}
use Rattle.failover_states.specs.declared.states.FailoverState.TheVariants.{Idle, WaitStart, SelectReplica, SendPromotion, WaitPromotion, ReconfReplicas, UpdateConfig}
use Rattle.failover_states.specs.declared.states.Row.{Row}
use Rattle.failover_states.specs.declared.states.Row.TheVariants.{ReplicaChosen}
use Rattle.failover_states.specs.Calls.{epoch_of, recalled, recalled_to}
use Rattle.failover_states.specs.Elections.{vote_in, is_elected}
use Rattle.failover_states.specs.Failovers.{Failover, ended}
use Rattle.failover_states.specs.Known.{Known}
use Rattle.failover_states.specs.Table.{Turn, turned, turn_in, table, quieted, expiring, vote_of, chosen, started}
use Rattle.sentinel_rules.specs.Plans.{Plan, roster_of, me, group_size, master_count, nodes_of}
use Rattle.sentinel_rules.specs.States.{Core, MasterState, master_of, failover_of, is_failing_over, is_tilted, is_odown_at, with_master, with_failover, with_current, is_planned, is_wished}
use Rattle.sentinel_rules.specs.Parts.{Part, quiet, puts, then_part, part_if, changed_from, frames_from}
use Rattle.sentinel_rules.specs.Profiles.{is_asking, election_ms, rest_of, rested, awaited_up, disobeyed, with_failed, by_profile, marked, rested_at}
use Rattle.sentinel_rules.specs.declared.profiles.Profile.{Profile}
use Rattle.sentinel_rules.specs.declared.profiles.Profile.TheVariants.{Strict, Redis}
use Rattle.sentinel_rules.specs.Endings.{is_contested, is_vain, given_up, is_overtaken, taken_up, let_go}
use Rattle.sentinel_rules.specs.Votes.{book_of, mark_for}
use Rattle.sentinel_rules.specs.Contacts.{since_after}
use Rattle.sentinel_rules.specs.Ticks.{peer_after, peers_part, sending_of, node_after, nodes_part, campaign_epoch, count_of, known_of, turn_of, with_vote, with_win, row_part, after_start, is_start_due, start_turn, starts_now, start_part, is_ask_due, ask_frames, ask_candidate, ask_part, odown_kept, odown_part, failover_part, judging_part, master_part, with_reading, tick, planned_start, with_plan, planned_if}
use Rattle.sentinel_rules.specs.Facts.{IsSoundPlan, IsSound, IsAwaited}
use Rattle.sentinel_rules.specs.Steps.{campaign_in, IsOpenOf, IsPartsOf}
use Rattle.sentinel_rules.proofs.KeptParts.{own_entry}
use Rattle.std.proofs.lemmas.Option.{IfSome_then}
use Rattle.ballot_law.specs.declared.cards.KeptMaster.{KeptMaster}
use Rattle.sentinel_rules.proofs.Framing.{sound_alike, awaited_still}
use Rattle.sentinel_rules.proofs.Turns.{Best, turn_by, turn_vote}
use Rattle.sentinel_rules.proofs.Choices.{same_addr-same, best_awaited}
use Rattle.sentinel_rules.proofs.SoundTicks.{keeps_if, row_keeps, busy_is, idle_is, as_idle, start_within, start_keeps, peers_keeps, nodes_keeps, odown_keeps, start_sound}
use Rattle.sentinel_rules.proofs.StepsTo.{StepsTo, steps_then, steps_more, kept_as, IsTwin, twin_then, twin_steps, twin_master, twin_state, same_steps, drop_steps, choose_steps, win_steps, open_steps, voted_core, cast_steps}
use Rattle.sentinel_rules.proofs.StepNews.{stay_steps, steps_if, within_core, mark_twin, rested_twin, rested_count, failed_twin, failed_count, voted_is}

-- Votes that are counted

-- a vote of the table that is for the candidate
table_vote : (heard : List (Option HeardVote)) (epoch : ℕ) (candidate : RunId) (v : ℕ) (P : (e : ℕ) → RunId → Type 0) →
    ((given : HeardVote) → kept_at heard v ≡ Some given → P given.epoch given.candidate) → is_for epoch candidate (kept_at heard v) ≡ true → P epoch candidate
table_vote heard epoch candidate v P f h = known (kept_at heard v) refl h
  where
    known : (kept : Option HeardVote) → kept_at heard v ≡ kept → is_for epoch candidate kept ≡ true → P epoch candidate
    known None e h = absurd (cc)
    known (Some given) e h =
        let parts = both (eqb given.epoch epoch) (same_id given.candidate candidate) h in
        subst (λ (c : RunId). P epoch c) (same_id-equal given.candidate candidate parts.1) (subst (λ (n : ℕ). P n given.candidate) (eqb-true given.epoch epoch parts.0) (f given e))

-- as many votes of the table, with the own one, as are needed
enough_votes : (plan : Plan) (master : MasterState) (m epoch : ℕ) (book : Book) (parts : Parts) → IsSoundPlan plan
    → IsOpenOf m master (open_of parts m)
    → length master.heard ≡ group_size plan
    → kept_at master.heard plan.place ≡ None
    → book.voted ≡ voted_of parts.kept m
    → book.leader ≡ candidate_of parts m
    → IsElectedIn (kept_at master.heard) book (length master.heard) epoch (me plan) (need (roster_of plan) m)
    → AtLeast (HasVoted (roster_of plan) plan.place parts m epoch) (size (roster_of plan)) (need (roster_of plan) m)
enough_votes plan master m epoch book parts p o long none voted leader elected =
    AtLeast-kept
    (HasVoted (roster_of plan) plan.place parts m epoch)
    (kept_at master.heard)
    book
    (group_size plan)
    plan.place
    epoch
    (me plan)
    (need (roster_of plan) m)
    p.place
    (ap (λ (kept : Option HeardVote). is_for epoch (me plan) kept) none)
    (λ v h. inl (table_vote master.heard epoch (me plan) v (λ e c. Contains (open_of parts m).heard (vote v m e c)) (λ given e. o.heard v given e) h))
    (λ at mine. inr (refl, sym voted ∙ at, sym leader ∙ mine))
    (subst (λ (n : ℕ). IsElectedIn (kept_at master.heard) book n epoch (me plan) (need (roster_of plan) m)) long elected)

-- The row of a failover

-- how the core with the row's failover is reached
abbrev IsReached : Plan → Event → (m epoch : ℕ) → Core → Option Row → Failover → Type 0
IsReached plan event m epoch core row f = (last : Core) → IsTwin m core last (campaign_in f.state) → StepsTo plan event 1 core (with_win m epoch row last)

pub place_is_node : (plan : Plan) (core : Core) (m place : ℕ) (addr : Addr) → IsAwaited plan core.kept m (record { place = place; addr = addr }) → HasNode (roster_of plan) m addr
place_is_node plan core m place addr a =
    list_any_at (same_addr addr) (nodes_of plan m) place no_addr a.listed (subst (λ (x : Addr). same_addr addr x ≡ true) a.addressed (same_addr-same addr))

module _ (plan : Plan) (event : Event) (m : ℕ) (k : Known) (f : Failover) (core : Core) (lt : m < length core.masters) (inside : m < master_count plan) (none : core.won ≡ None)
    (best : Best plan core.kept m k.best) where
  stay : (epoch : ℕ) (row : Option Row) (state : FailoverState) (last : Core) → campaign_in (failover_of core m).state ≡ campaign_in state →
      IsTwin m core last (campaign_in state) → StepsTo plan event 1 core last
  stay epoch row state last runs t = twin_steps plan event 1 m core last lt (twin_state m core last (campaign_in state) (campaign_in (failover_of core m).state) (sym runs) t)

  chosen_steps : (epoch : ℕ) (best : Option (ℕ × Addr)) (g : Failover) → Best plan core.kept m best → campaign_in (failover_of core m).state ≡ Won epoch → is_some best ≡ true →
      IsReached plan event m epoch core (Some ReplicaChosen) (chosen epoch best g k)
  chosen_steps epoch None g b won h last t = absurd (cc)
  chosen_steps epoch (Some choice) g b won h last t =
      choose_steps plan event m epoch choice.1 core last lt inside won (place_is_node plan core m choice.0 choice.1 b) b.other t

  pub turn_steps : (state : FailoverState) → f.state ≡ state → campaign_in (failover_of core m).state ≡ campaign_in state → (state ≡ Idle → ⊥)
      → ((epoch : ℕ) → state ≡ WaitStart epoch → is_elected epoch k ≡ true → (parts : Parts) → IsPartsOf core (kept_as core parts) →
      AtLeast (HasVoted (roster_of plan) plan.place (kept_as core parts) m epoch) (size (roster_of plan)) (need (roster_of plan) m))
      → IsReached plan event m (unwrap_or (epoch_of state) 0) core (turn_in state (expiring state k.now (quieted f)) k).row
      (turn_in state (expiring state k.now (quieted f)) k).failover
  turn_steps Idle e runs busy enough = absurd (busy refl)
  turn_steps (WaitStart epoch) e runs busy enough =
      let same = ap (λ (st : FailoverState). campaign_in st) e in
      turn_by (IsReached plan event m epoch core) (quieted f) (vote_of (WaitStart epoch) k) (table (WaitStart epoch) (quieted f) k)
      (λ last t. stay epoch None f.state last (runs ∙ sym same) t) (
        (λ fits last t. win_steps plan event m epoch core last lt inside none runs (enough epoch refl fits) t),
        ((λ fits last t. drop_steps plan event m core last lt inside t), ((λ fits last t. stay epoch None f.state last (runs ∙ sym same) t), tt)),
      )
  turn_steps (SelectReplica epoch) e runs busy enough =
      let same = ap (λ (st : FailoverState). campaign_in st) e in
      turn_by (IsReached plan event m epoch core) (quieted f) None (table (SelectReplica epoch) (quieted f) k)
      (λ last t. stay epoch None f.state last (runs ∙ sym same) t)
      ((λ fits. chosen_steps epoch k.best (quieted f) best runs fits), ((λ fits last t. drop_steps plan event m core last lt inside t), tt))
  turn_steps (SendPromotion epoch choice) e runs busy enough =
      let same = ap (λ (st : FailoverState). campaign_in st) e in
      turn_by (IsReached plan event m epoch core) (quieted f) None (table (SendPromotion epoch choice) (quieted f) k)
      (λ last t. stay epoch None f.state last (runs ∙ sym same) t) (
        (λ fits last t. drop_steps plan event m core last lt inside t),
        (
          (λ fits last t. stay epoch None f.state last (runs ∙ sym same) t),
          ((λ fits last t. stay epoch None (SendPromotion epoch choice) last runs t), tt),
        ),
      )
  turn_steps (WaitPromotion epoch choice former) e runs busy enough =
      let same = ap (λ (st : FailoverState). campaign_in st) e in
      turn_by (IsReached plan event m epoch core) (quieted f) None (table (WaitPromotion epoch choice former) (quieted f) k)
      (λ last t. stay epoch None f.state last (runs ∙ sym same) t)
      ((λ fits last t. drop_steps plan event m core last lt inside t), ((λ fits last t. stay epoch None f.state last (runs ∙ sym same) t), tt))
  turn_steps (ReconfReplicas epoch choice former) e runs busy enough =
      let same = ap (λ (st : FailoverState). campaign_in st) e in
      let g : Failover = expiring (ReconfReplicas epoch choice former) k.now (quieted f) in
      turn_by (IsReached plan event m epoch core) g None (table (ReconfReplicas epoch choice former) g k)
      (λ last t. stay epoch None f.state last (runs ∙ sym same) t) (
        (λ fits last t. stay epoch None (UpdateConfig epoch choice) last runs t),
        (
          (λ fits last t. stay epoch None (UpdateConfig epoch choice) last runs t),
          ((λ fits last t. stay epoch None f.state last (runs ∙ sym same) t), tt),
        ),
      )
  turn_steps (UpdateConfig epoch choice) e runs busy enough =
      let same = ap (λ (st : FailoverState). campaign_in st) e in
      turn_by (IsReached plan event m epoch core) (quieted f) None (table (UpdateConfig epoch choice) (quieted f) k)
      (λ last t. stay epoch None f.state last (runs ∙ sym same) t)
      ((λ fits last t. drop_steps plan event m core last lt inside t), tt)

-- The own vote

asked_given : (book : Book) (epoch : ℕ) (candidate : RunId) → grants book epoch ≡ true →
    asked book epoch candidate ≡ record { current = epoch; voted = epoch; leader = Some candidate }
asked_given book epoch candidate h =
    ap (λ (b : Bool). let after : Book = if b then record { current = epoch; voted = epoch; leader = Some candidate } else raised book epoch in after) h

asked_refused : (book : Book) (epoch : ℕ) (candidate : RunId) → grants book epoch ≡ false → asked book epoch candidate ≡ raised book epoch
asked_refused book epoch candidate h =
    ap (λ (b : Bool). let after : Book = if b then record { current = epoch; voted = epoch; leader = Some candidate } else raised book epoch in after) h

some_if_true : {X : Type 0} (b : Bool) (x : X) → b ≡ true → (if b then Some x else None) ≡ Some x
some_if_true true x e = refl
some_if_true false x e = absurd (cc)

some_if_false : {X : Type 0} (b : Bool) (x : X) → b ≡ false → (if b then Some x else None) ≡ None
some_if_false true x e = absurd (cc)
some_if_false false x e = refl

-- a core that voted, and one with another failover that voted
voted_twin : (core : Core) (m epoch : ℕ) (candidate : RunId) (f : Failover) → m < length core.masters →
    IsTwin m (voted_core core m epoch candidate) (voted_core (with_failover core m f) m epoch candidate) (campaign_in f.state)
voted_twin core m epoch candidate f lt =
    twin_master (voted_core core m epoch candidate) m (record (master_of core m) { failover = f }) lt refl

-- The row, after the vote of its turn

module _ (plan : Plan) (event : Event) (m now : ℕ) (core : Core) (p : IsSoundPlan plan) (s : IsSound plan core) (inside : m < master_count plan) (none : core.won ≡ None) where
  lt : m < length core.masters
  lt = within_core plan core m s inside

  kept_lt : m < length core.kept.masters
  kept_lt = subst (λ (n : ℕ). m < n) (sym s.kept_masters) inside

  abbrev turn_in_state : FailoverState → Turn
  turn_in_state state = turn_in state (expiring state (known_of plan core m now false).now (quieted (failover_of core m))) (known_of plan core m now false)

  -- the own vote of a turn
  abbrev book_asked : (epoch : ℕ) → Book
  book_asked epoch = asked (book_of core m) epoch (known_of plan core m now false).pick

  -- no more votes count than were heard
  counted_most : (test : Bool) (heard own : ℕ) → need (roster_of plan) m ≤ (if test then 0 else heard) + own → need (roster_of plan) m ≤ heard + own
  counted_most true heard own h = omega (arith, h)
  counted_most false heard own h = h

  -- the votes that elect in the campaign's epoch
  elected_by : (epoch : ℕ) → (failover_of core m).state ≡ WaitStart epoch → is_elected epoch (known_of plan core m now false) ≡ true
      → IsElectedIn (kept_at (master_of core m).heard) (book_asked epoch) (length (master_of core m).heard) epoch (me plan) (need (roster_of plan) m)
  elected_by epoch e h =
      let at : campaign_epoch core m ≡ epoch = ap (λ (st : FailoverState). unwrap_or (epoch_of st) 0) e in
      subst
      (λ (n : ℕ). need (roster_of plan) m ≤ count_in (kept_at (master_of core m).heard) (length (master_of core m).heard) n (me plan) + own_votes (book_asked epoch) epoch
      (me plan))
      at
      (counted_most (is_contested plan core m now) (count_of plan core m (campaign_epoch core m)) (own_votes (book_asked epoch) epoch (me plan))
      (leb-true (need (roster_of plan) m) ((known_of plan core m now false).count + own_votes (book_asked epoch) epoch (me plan)) h))

  -- where no vote is given
  quiet_turn : (state : FailoverState) → (failover_of core m).state ≡ state → (state ≡ Idle → ⊥) → (turn_in_state state).vote ≡ None
      → ((epoch : ℕ) → state ≡ WaitStart epoch → grants (book_of core m) epoch ≡ false)
      → StepsTo plan event 2 core (with_win m (unwrap_or (epoch_of state) 0) (turn_in_state state).row
      (with_vote plan m now (unwrap_or (epoch_of state) 0) (turn_in_state state).vote (with_failover core m (turn_in_state state).failover)))
  quiet_turn state e busy no_vote past =
      subst
      (λ (vote : Option RunId). StepsTo plan event 2 core (with_win m (unwrap_or (epoch_of state) 0) (turn_in_state state).row
      (with_vote plan m now (unwrap_or (epoch_of state) 0) vote (with_failover core m (turn_in_state state).failover))))
      (sym no_vote)
      (steps_more plan event 1 2 core (with_win m (unwrap_or (epoch_of state) 0) (turn_in_state state).row (with_failover core m (turn_in_state state).failover)) (omega arith)
      (turn_steps plan event m (known_of plan core m now false) (failover_of core m) core lt inside none (best_awaited plan core m now p inside) state e
      (ap (λ (st : FailoverState). campaign_in st) e) busy enough
      (with_failover core m (turn_in_state state).failover)
      (twin_master core m (record (master_of core m) { failover = (turn_in_state state).failover }) lt refl)))
    where
      enough : (epoch : ℕ) → state ≡ WaitStart epoch → is_elected epoch (known_of plan core m now false) ≡ true → (parts : Parts) → IsPartsOf core (kept_as core parts) →
          AtLeast (HasVoted (roster_of plan) plan.place (kept_as core parts) m epoch) (size (roster_of plan)) (need (roster_of plan) m)
      enough epoch at h parts is =
          let same : book_asked epoch ≡ raised (book_of core m) epoch = asked_refused (book_of core m) epoch (known_of plan core m now false).pick (past epoch at) in
          enough_votes plan (master_of core m) m epoch (book_asked epoch) (kept_as core parts) p (is.each m lt) (s.each m inside).heard (s.each m inside).own
          (ap (λ (book : Book). book.voted) same) (ap (λ (book : Book). book.leader) same) (elected_by epoch (e ∙ at) h)

  -- where the own vote is given
  voting_turn : (epoch : ℕ) → (failover_of core m).state ≡ WaitStart epoch → grants (book_of core m) epoch ≡ true →
      (turn_in_state (WaitStart epoch)).vote ≡ Some (known_of plan core m now false).pick
      → StepsTo plan event 2 core (with_win m epoch (turn_in_state (WaitStart epoch)).row
      (with_vote plan m now epoch (turn_in_state (WaitStart epoch)).vote (with_failover core m (turn_in_state (WaitStart epoch)).failover)))
  voting_turn epoch e can gives =
      subst
      (λ (vote : Option RunId). StepsTo plan event 2 core (with_win m epoch turn.row (with_vote plan m now epoch vote next)))
      (sym gives)
      (subst
      (λ (c : Core). StepsTo plan event 2 core (with_win m epoch turn.row (mark_for plan m now pick c)))
      (sym (voted_is next m epoch pick can_next))
      (steps_then plan event 1 1 core voted (with_win m epoch turn.row (mark_for plan m now pick (voted_core next m epoch pick)))
      (cast_steps plan event m epoch pick core lt inside (omega (arith, low, high)) newer)
      (turn_steps plan event m (known_of plan core m now false) (failover_of core m) voted lt inside none best_voted (WaitStart epoch) e
      (ap (λ (st : FailoverState). campaign_in st) e)
      (λ b. absurd (cc))
      enough
      (mark_for plan m now pick (voted_core next m epoch pick))
      (twin_then m voted (voted_core next m epoch pick) (mark_for plan m now pick (voted_core next m epoch pick)) (campaign_in turn.failover.state)
      (campaign_in turn.failover.state)
      (voted_twin core m epoch pick turn.failover lt)
      (twin_state m (voted_core next m epoch pick) (mark_for plan m now pick (voted_core next m epoch pick)) (campaign_in (failover_of (voted_core next m epoch pick) m).state)
      (campaign_in turn.failover.state)
      (voted_twin core m epoch pick turn.failover lt).runs
      (mark_twin plan m now pick (voted_core next m epoch pick) next_lt))))))
    where
      turn : Turn
      turn = turn_in_state (WaitStart epoch)

      pick : RunId
      pick = (known_of plan core m now false).pick

      next : Core
      next = with_failover core m (turn_in_state (WaitStart epoch)).failover

      can_next : grants (book_of next m) epoch ≡ true
      can_next = can

      voted : Core
      voted = voted_core core m epoch (known_of plan core m now false).pick

      next_lt : m < length (voted_core next m epoch pick).masters
      next_lt = subst (λ (n : ℕ). m < n) (sym (voted_twin core m epoch pick turn.failover lt).count) lt

      newer : voted_of core.kept m < epoch
      newer = ltb-true (voted_of core.kept m) epoch (both (nat_lt (voted_of core.kept m) epoch) (nat_le core.kept.current epoch) can).0

      low : core.kept.current ≤ epoch
      low = leb-true core.kept.current epoch (both (nat_lt (voted_of core.kept m) epoch) (nat_le core.kept.current epoch) can).1

      high : epoch ≤ core.kept.current
      high = subst (λ (st : FailoverState). IfSome (epoch_of st) (λ epoch. epoch ≤ core.kept.current)) e (s.each m inside).epoch

      entry : kept_of voted.kept m ≡ record (kept_of core.kept m) { voted = epoch; candidate = Some (known_of plan core m now false).pick }
      entry = own_entry core.kept epoch m (record (kept_of core.kept m) { voted = epoch; candidate = Some (known_of plan core m now false).pick }) kept_lt

      same_card : card_of voted.kept m ≡ card_of core.kept m
      same_card = ap (λ (x : KeptMaster). x.card) entry

      best_voted : Best plan voted.kept m (known_of plan core m now false).best
      best_voted =
          IfSome_then (known_of plan core m now false).best (best_awaited plan core m now p inside)
          (λ b a. awaited_still plan core.kept voted.kept m same_card (record { place = b.0; addr = b.1 }) a)

      given : book_asked epoch ≡ record { current = epoch; voted = epoch; leader = Some pick }
      given = asked_given (book_of core m) epoch pick can

      enough : (epoch2 : ℕ) → WaitStart epoch ≡ WaitStart epoch2 → is_elected epoch2 (known_of plan core m now false) ≡ true → (parts : Parts) →
          IsPartsOf voted (kept_as voted parts) → AtLeast (HasVoted (roster_of plan) plan.place (kept_as voted parts) m epoch2) (size (roster_of plan)) (need (roster_of plan) m)
      enough epoch2 at h parts is =
          let same : epoch ≡ epoch2 = cc in
          subst
          (λ (n : ℕ). AtLeast (HasVoted (roster_of plan) plan.place (kept_as voted parts) m n) (size (roster_of plan)) (need (roster_of plan) m))
          same
          (enough_votes plan (master_of core m) m epoch (book_asked epoch) (kept_as voted parts) p (is.each m lt)
          (s.each m inside).heard (s.each m inside).own
          (ap (λ (book : Book). book.voted) given ∙ sym (ap (λ (x : KeptMaster). x.voted) entry))
          (ap (λ (book : Book). book.leader) given ∙ sym (ap (λ (x : KeptMaster). x.candidate) entry))
          (elected_by epoch e (subst (λ (n : ℕ). is_elected n (known_of plan core m now false) ≡ true) (sym same) h)))

  turn_by_state : (state : FailoverState) → (failover_of core m).state ≡ state → (state ≡ Idle → ⊥)
      → StepsTo plan event 2 core (with_win m (unwrap_or (epoch_of state) 0) (turn_in_state state).row
      (with_vote plan m now (unwrap_or (epoch_of state) 0) (turn_in_state state).vote (with_failover core m (turn_in_state state).failover)))
  turn_by_state Idle e busy = absurd (busy refl)
  turn_by_state (WaitStart epoch) e busy = known (grants (book_of core m) epoch) refl
    where
      given : (turn_in_state (WaitStart epoch)).vote ≡ vote_in epoch (known_of plan core m now false)
      given = turn_vote (quieted (failover_of core m)) (vote_in epoch (known_of plan core m now false))
          (table (WaitStart epoch) (quieted (failover_of core m)) (known_of plan core m now false))

      known : (b : Bool) → grants (book_of core m) epoch ≡ b
          → StepsTo plan event 2 core (with_win m epoch (turn_in_state (WaitStart epoch)).row
          (with_vote plan m now epoch (turn_in_state (WaitStart epoch)).vote (with_failover core m (turn_in_state (WaitStart epoch)).failover)))
      known true h = voting_turn epoch e h (given ∙ some_if_true (grants (book_of core m) epoch) (known_of plan core m now false).pick h)
      known false h =
          quiet_turn (WaitStart epoch) e busy (given ∙ some_if_false (grants (book_of core m) epoch) (known_of plan core m now false).pick h)
          (λ epoch2 at. let same : epoch ≡ epoch2 = cc in subst (λ (n : ℕ). grants (book_of core m) n ≡ false) same h)
  turn_by_state (SelectReplica epoch) e busy =
      quiet_turn (SelectReplica epoch) e busy (turn_vote (quieted (failover_of core m)) None
      (table (SelectReplica epoch) (quieted (failover_of core m)) (known_of plan core m now false))) (λ epoch2 at. absurd (cc))
  turn_by_state (SendPromotion epoch choice) e busy =
      quiet_turn (SendPromotion epoch choice) e busy (turn_vote (quieted (failover_of core m)) None
      (table (SendPromotion epoch choice) (quieted (failover_of core m)) (known_of plan core m now false))) (λ epoch2 at. absurd (cc))
  turn_by_state (WaitPromotion epoch choice former) e busy =
      quiet_turn (WaitPromotion epoch choice former) e busy (turn_vote (quieted (failover_of core m)) None
      (table (WaitPromotion epoch choice former) (quieted (failover_of core m)) (known_of plan core m now false))) (λ epoch2 at. absurd (cc))
  turn_by_state (ReconfReplicas epoch choice former) e busy =
      let g : Failover = expiring (ReconfReplicas epoch choice former) (known_of plan core m now false).now (quieted (failover_of core m)) in
      quiet_turn (ReconfReplicas epoch choice former) e busy (turn_vote g None (table (ReconfReplicas epoch choice former) g (known_of plan core m now false)))
      (λ epoch2 at. absurd (cc))
  turn_by_state (UpdateConfig epoch choice) e busy =
      quiet_turn (UpdateConfig epoch choice) e busy (turn_vote (quieted (failover_of core m)) None
      (table (UpdateConfig epoch choice) (quieted (failover_of core m)) (known_of plan core m now false))) (λ epoch2 at. absurd (cc))

  -- a vote at most, and a step of the campaign at most
  pub row_steps : ((failover_of core m).state ≡ Idle → ⊥) → StepsTo plan event 2 core (row_part plan m now core).core
  row_steps busy =
      steps_then plan event 2 0 core rests (row_part plan m now core).core
      (steps_then plan event 2 0 core won rests (turn_by_state (failover_of core m).state refl busy)
      (twin_steps plan event 0 m won rests won_lt (rested_twin plan m now rest won won_lt)))
      (twin_steps plan event 0 m rests (with_failed m now failed rests) rests_lt (failed_twin m now failed rests rests_lt))
    where
      turn : Turn
      turn = turn_of plan core m now false

      rest : Option ℕ
      rest = rest_of plan.profile turn.row (election_ms plan m)

      -- before the next one's beginning is put off
      won : Core
      won = with_win m (campaign_epoch core m) turn.row (with_vote plan m now (campaign_epoch core m) turn.vote (with_failover core m turn.failover))

      -- and before the replica that didn't obey is kept
      rests : Core
      rests = rested plan m now rest won

      failed : Option ℕ
      failed = disobeyed turn.row (awaited_up plan core m now)

      rests_lt : m < length rests.masters
      rests_lt = subst (λ (n : ℕ). m < n) (failed_count m now failed rests)
          (within_core plan (row_part plan m now core).core m (row_keeps plan m now core p inside busy s).sound inside)

      won_lt : m < length won.masters
      won_lt = subst (λ (n : ℕ). m < n) (rested_count plan m now rest won) rests_lt

-- A start

start_steps : (plan : Plan) (event : Event) (m now : ℕ) (core : Core) → IsSound plan core → m < master_count plan → (failover_of core m).state ≡ Idle →
    StepsTo plan event 1 core (after_start m (start_turn plan core m now) core)
start_steps plan event m now core s inside idle = subst (λ (x : Failover). StepsTo plan event 1 core (after_start m (turned x k) core)) (sym (as_idle (failover_of core m) idle))
    from_idle
  where
    k : Known
    k = known_of plan core m now (is_start_due plan core m now)

    f : Failover
    f = record (failover_of core m) { state = Idle }

    lt : m < length core.masters
    lt = within_core plan core m s inside

    runs : campaign_in (failover_of core m).state ≡ NoCampaign
    runs = ap (λ (st : FailoverState). campaign_in st) idle

    Q : Option Row → Failover → Type 0
    Q row f2 = StepsTo plan event 1 core (if is_some row then with_current (with_failover core m f2) (core.kept.current + 1) else with_failover core m f2)

    from_idle : StepsTo plan event 1 core (after_start m (turned f k) core)
    from_idle =
        turn_by Q (quieted f) None (table Idle (quieted f) k)
        (twin_steps plan event 1 m core (with_failover core m (quieted f)) lt
        (twin_state m core (with_failover core m (quieted f)) NoCampaign (campaign_in (failover_of core m).state) (sym runs)
        (twin_master core m (record (master_of core m) { failover = quieted f }) lt refl))) (
          (λ h. open_steps plan event m core (with_failover core m (started (quieted f) k)) lt inside runs (start_within (quieted f) k h)
              (twin_master core m (record (master_of core m) { failover = started (quieted f) k }) lt refl)),
          tt,
        )

-- what is kept of a switch that was asked for is nothing to the model
planned_steps : (plan : Plan) (event : Event) (m now : ℕ) (begins : Bool) (core : Core) → m < length core.masters →
    StepsTo plan event 0 core (if begins then with_plan m now core else core)
planned_steps plan event m now true core within =
    twin_steps plan event 0 m core (with_plan m now core) within
    (twin_master core m (record (master_of core m) { planned = planned_if (is_wished core m now) (epoch_of (failover_of core m).state) (master_of core m).planned; refused = false }) within refl)
planned_steps plan event m now false core within = stay_steps plan event 0 core

starts_steps : (plan : Plan) (event : Event) (m now : ℕ) (core : Core) → IsSound plan core → m < master_count plan → StepsTo plan event 1 core (start_part plan m now core).core
starts_steps plan event m now core s inside =
    steps_if plan event 1 (not (is_failing_over core m)) core (λ c. quiet (planned_start m now (start_turn plan c m now) c))
    (λ h. let idle = idle_is (failover_of core m).state h in
    let begun : Core = after_start m (start_turn plan core m now) core in
    steps_then plan event 1 0 core begun (planned_start m now (start_turn plan core m now) core)
    (start_steps plan event m now core s inside idle)
    (planned_steps plan event m now (is_some (start_turn plan core m now).row) begun (within_core plan begun m (start_sound plan m now core s idle) inside)))

-- no election yet

won_if : (test : Bool) (core : Core) (part : Core → Part) → (part core).core.won ≡ core.won → (part_if test core part).core.won ≡ core.won
won_if true core part e = e
won_if false core part e = refl

won_either : (test : Bool) (a b core : Core) → a.won ≡ core.won → b.won ≡ core.won → (if test then a else b).won ≡ core.won
won_either true a b core e f = e
won_either false a b core e f = f

start_won : (plan : Plan) (m now : ℕ) (core : Core) → (start_part plan m now core).core.won ≡ core.won
start_won plan m now core =
    won_if (not (is_failing_over core m)) core (λ c. quiet (planned_start m now (start_turn plan c m now) c))
    (won_either (is_some (start_turn plan core m now).row) (with_plan m now (after_start m (start_turn plan core m now) core))
    (after_start m (start_turn plan core m now) core) core after after)
  where
    after : (after_start m (start_turn plan core m now) core).won ≡ core.won
    after = won_either (is_some (start_turn plan core m now).row) (with_current (with_failover core m (start_turn plan core m now).failover) (core.kept.current + 1))
        (with_failover core m (start_turn plan core m now).failover) core refl refl

odown_won : (plan : Plan) (m now : ℕ) (core : Core) → (odown_part plan m now core).core.won ≡ core.won
odown_won plan m now core = by_rule plan.profile (is_vain plan kept m now) (is_overtaken plan kept m now)
  where
    kept : Core
    kept = odown_kept plan m now core

    by_rule : (profile : Profile) (vain overtaken : Bool) →
        (by_profile profile kept (if vain then given_up plan m now kept else (if overtaken then taken_up m now kept else kept))).won ≡ core.won
    by_rule Strict vain overtaken = refl
    by_rule Redis true overtaken = refl
    by_rule Redis false true = refl
    by_rule Redis false false = refl

peers_won : (plan : Plan) (m now : ℕ) (core : Core) → (peers_part plan m now core).core.won ≡ core.won
peers_won plan zero now core = refl
peers_won plan (suc m) now core = refl

-- The whole tick

peers_steps : (plan : Plan) (event : Event) (m now : ℕ) (core : Core) → StepsTo plan event 0 core (peers_part plan m now core).core
peers_steps plan event zero now core = same_steps plan event 0 core (record core { peers = changed_from (peer_after plan now) 0 core.peers }) refl refl refl
peers_steps plan event (suc m) now core = stay_steps plan event 0 core

nodes_steps : (plan : Plan) (event : Event) (m now : ℕ) (core : Core) → m < length core.masters → StepsTo plan event 0 core (nodes_part plan m now core).core
nodes_steps plan event m now core lt =
    let new : MasterState = record (master_of core m) { nodes = changed_from (node_after (sending_of plan core m now)) 0 (master_of core m).nodes } in
    twin_steps plan event 0 m core (with_master core m new) lt (twin_master core m new lt refl)

judged_steps : (plan : Plan) (event : Event) (m now : ℕ) (core : Core) → m < length core.masters → StepsTo plan event 0 core (odown_kept plan m now core)
judged_steps plan event m now core lt =
    let new : MasterState = record (master_of core m) {
      odown = is_odown_at plan core m now;
      odown_since = since_after (is_odown_at plan core m now) now (master_of core m).odown_since;
    } in
    twin_steps plan event 0 m core (with_master core m new) lt (twin_master core m new lt refl)

recalled_runs : (state : FailoverState) → campaign_in (recalled_to state) ≡ campaign_in state
recalled_runs Idle = refl
recalled_runs (WaitStart epoch) = refl
recalled_runs (SelectReplica epoch) = refl
recalled_runs (SendPromotion epoch choice) = refl
recalled_runs (WaitPromotion epoch choice former) = refl
recalled_runs (ReconfReplicas epoch choice former) = refl
recalled_runs (UpdateConfig epoch choice) = refl

-- a failover that comes to nothing ends by one step
let_go_steps : (plan : Plan) (event : Event) (m now : ℕ) (core : Core) → m < length core.masters → m < master_count plan → StepsTo plan event 1 core (let_go plan m now core)
let_go_steps plan event m now core lt inside = by_rule plan.profile (is_vain plan core m now) (is_overtaken plan core m now)
  where
    ended_master : MasterState
    ended_master =
        record (master_of core m) {
          failover = marked (rested_at plan core m now 0) (ended (failover_of core m));
          planned = if is_planned core m then None else (master_of core m).planned;
        }

    recalled_master : MasterState
    recalled_master = record (master_of core m) { failover = recalled now (failover_of core m); planned = None; refused = false }

    by_rule : (profile : Profile) (vain overtaken : Bool) →
        StepsTo plan event 1 core (by_profile profile core (if vain then given_up plan m now core else (if overtaken then taken_up m now core else core)))
    by_rule Strict vain overtaken = stay_steps plan event 1 core
    by_rule Redis true overtaken = drop_steps plan event m core (with_master core m ended_master) lt inside (twin_master core m ended_master lt refl)
    by_rule Redis false true =
        twin_steps plan event 1 m core (with_master core m recalled_master) lt
        (twin_state m core (with_master core m recalled_master) (campaign_in (recalled_to (failover_of core m).state)) (campaign_in (failover_of core m).state)
        (recalled_runs (failover_of core m).state)
        (twin_master core m recalled_master lt refl))
    by_rule Redis false false = stay_steps plan event 1 core

odown_steps : (plan : Plan) (event : Event) (m now : ℕ) (core : Core) → m < length core.masters → m < master_count plan →
    StepsTo plan event 1 core (odown_part plan m now core).core
odown_steps plan event m now core lt inside =
    steps_then plan event 0 1 core (odown_kept plan m now core) (let_go plan m now (odown_kept plan m now core)) (judged_steps plan event m now core lt)
    (let_go_steps plan event m now (odown_kept plan m now core) (subst (λ (n : ℕ). m < n) (sym (length-set core.masters m _)) lt) inside)

ask_steps : (plan : Plan) (event : Event) (m now : ℕ) (started : Bool) (core : Core) → m < length core.masters → StepsTo plan event 0 core (ask_part plan m now started core).core
ask_steps plan event m now started core lt =
    steps_if plan event 0 (is_asking plan core m now && is_ask_due started (master_of core m).ask_sent now) core
    (λ c. puts (with_master c m (record (master_of c m) { ask_sent = Some now })) (frames_from (ask_frames plan m (ask_candidate plan c m)) 0 c.peers))
    (λ h. twin_steps plan event 0 m core (with_master core m (record (master_of core m) { ask_sent = Some now })) lt
    (twin_master core m (record (master_of core m) { ask_sent = Some now }) lt refl))

failover_steps : (plan : Plan) (event : Event) (m now : ℕ) (core : Core) → IsSoundPlan plan → IsSound plan core → m < master_count plan → core.won ≡ None →
    StepsTo plan event 3 core (failover_part plan m now core).core
failover_steps plan event m now core p s inside none =
    steps_then plan event 3 0 core rowed (failover_part plan m now core).core
    (steps_then plan event 1 2 core begun rowed (starts_steps plan event m now core s inside) (rows begun (start_keeps plan m now core s).sound (start_won plan m now core ∙ none)))
    (ask_steps plan event m now (starts_now plan core m now) rowed (within_core plan rowed m rowed_sound inside))
  where
    begun : Core
    begun = (start_part plan m now core).core

    rowed : Core
    rowed = (part_if (is_failing_over begun m) begun (row_part plan m now)).core

    rows : (c : Core) → IsSound plan c → c.won ≡ None → StepsTo plan event 2 c (part_if (is_failing_over c m) c (row_part plan m now)).core
    rows c t n = steps_if plan event 2 (is_failing_over c m) c (row_part plan m now) (λ h. row_steps plan event m now c p t inside n (busy_is (failover_of c m).state h))

    rowed_sound : IsSound plan rowed
    rowed_sound = (keeps_if plan 257 (is_failing_over begun m) begun (row_part plan m now) (start_keeps plan m now core s).sound
        (λ h. row_keeps plan m now begun p inside (busy_is (failover_of begun m).state h) (start_keeps plan m now core s).sound)).sound

judging_steps : (plan : Plan) (event : Event) (m now : ℕ) (core : Core) → IsSoundPlan plan → IsSound plan core → m < master_count plan → core.won ≡ None →
    StepsTo plan event 4 core (judging_part plan m now core).core
judging_steps plan event m now core p s inside none =
    steps_if plan event 4 (not (is_tilted core)) core (λ c. then_part (odown_part plan m now c) (failover_part plan m now))
    (λ h. steps_then plan event 1 3 core first (failover_part plan m now first).core
    (odown_steps plan event m now core (within_core plan core m s inside) inside)
    (failover_steps plan event m now first p (odown_keeps plan m now core s).sound inside (odown_won plan m now core ∙ none)))
  where
    first : Core
    first = (odown_part plan m now core).core

master_steps : (plan : Plan) (event : Event) (m now : ℕ) (core : Core) → IsSoundPlan plan → IsSound plan core → m < master_count plan → core.won ≡ None →
    StepsTo plan event 4 core (master_part plan m now core).core
master_steps plan event m now core p s inside none =
    steps_then plan event 0 4 core sent (master_part plan m now core).core
    (steps_then plan event 0 0 core asked_peers sent (peers_steps plan event m now core)
    (nodes_steps plan event m now asked_peers (within_core plan asked_peers m asked_sound inside)))
    (judging_steps plan event m now sent p (nodes_keeps plan m now asked_peers p inside asked_sound).sound inside (peers_won plan m now core ∙ none))
  where
    asked_peers : Core
    asked_peers = (peers_part plan m now core).core

    asked_sound : IsSound plan asked_peers
    asked_sound = (peers_keeps plan m now core p s).sound

    sent : Core
    sent = (nodes_part plan m now asked_peers).core

pub tick_steps : (plan : Plan) (event : Event) (m random now : ℕ) (core : Core) → IsSoundPlan plan → IsSound plan core → core.won ≡ None →
    StepsTo plan event 4 core (tick plan m random now core).core
tick_steps plan event m random now core p s none =
    steps_then plan event 0 4 core (with_reading now random core) (tick plan m random now core).core
    (same_steps plan event 0 core (with_reading now random core) refl refl refl)
    (steps_if plan event 4 (nat_lt m (master_count plan)) (with_reading now random core) (master_part plan m now)
    (λ h. master_steps plan event m now (with_reading now random core) p (sound_alike plan core (with_reading now random core) refl refl refl s) (ltb-true m (master_count plan) h)
    none))
