-- One part of an input after another.
use Rattle.std.proofs.Common.{◌≡◌, ℕ, ◌<◌, Bool, true, false, nat_lt, List, refl, ap, sym, ◌∙◌}
use Rattle.std.specs.Prelude.{not}
use Rattle.std.proofs.lemmas.Bool.{lt-ltb}
use Rattle.std.specs.Prelude.{Option, ◌++◌}
use Rattle.ballot_law.specs.declared.addresses.RunId.{RunId}
use Rattle.failover_states.specs.declared.states.Row.{Row}
use Rattle.failover_states.specs.Calls.{choice_of}
use Rattle.failover_states.specs.Failovers.{Failover}
use Rattle.failover_states.specs.Table.{Turn}
use Rattle.sentinel_rules.specs.declared.frames.Frame.{Frame}
use Rattle.sentinel_rules.specs.Parts.{Part, then_part, part_if, frames_from}
use Rattle.sentinel_rules.specs.Plans.{Plan}
use Rattle.sentinel_rules.specs.Profiles.{with_pause, awaited_up, disobeyed, with_failed}
use Rattle.sentinel_rules.specs.States.{Core, failover_of, with_failover, is_unrefused}
use Rattle.sentinel_rules.specs.Ticks.{campaign_epoch, turn_of, with_vote, with_win, hands_over, promote_frames, order_frames, row_part}
use Rattle.sentinel_state.specs.declared.states.State.{State}
use Rattle.sentinel_state.specs.Parts.{with_part}
use Rattle.sentinel_state.specs.Nodes.Room.{added}
use Rattle.sentinel_state.proofs.NodesLemmas.RoomLemmas.{added_both}

pub then_parts : (old mid after : State) (first : Part) (next : Plan → Core → Part) → mid ≡ with_part old first → after ≡ with_part mid (next mid.plan mid.core)
    → after ≡ with_part old (then_part first (next old.plan))
then_parts old mid after first next e f =
    let last = next old.plan first.core in
    f
    ∙ ap (λ (s : State). with_part s (next s.plan s.core)) e
    ∙ ap (λ (frames : List Frame). let x : State = record old { core = last.core; frames = frames } in x) (added_both old.frames first.frames last.frames)

pub part_when : (test : Bool) (core : Core) (part : Core → Part) → test ≡ true → part_if test core part ≡ part core
part_when true core part h = refl
part_when false core part h = cc

pub part_unless : (test : Bool) (core : Core) (part : Core → Part) → test ≡ false → part_if (not test) core part ≡ part core
part_unless true core part h = cc
part_unless false core part h = refl

pub part_below : (m n count : ℕ) (core : Core) (part : Core → Part) → m < n → n ≡ count → part_if (nat_lt m count) core part ≡ part core
part_below m n count core part h e =
    part_when (nat_lt m count) core part (ap (λ k. nat_lt m k) (sym e) ∙ lt-ltb m n h)

-- a turn of the failover, the orders of its row, and what ends the row
pub row_taken : (old turned put : State) (m now epoch : ℕ) (awaited : Option ℕ) (unrefused hands : Bool) (row : Option Row) (vote : Option RunId) (last : Core)
    → turned ≡ record old { core = with_failover old.core m (turn_of old.plan old.core m now false).failover }
    → failover_of turned.core m ≡ (turn_of old.plan old.core m now false).failover → row ≡ (turn_of old.plan old.core m now false).row
    → vote ≡ (turn_of old.plan old.core m now false).vote → epoch ≡ campaign_epoch old.core m → awaited ≡ awaited_up old.plan old.core m now → unrefused ≡ is_unrefused old.core m
    → hands ≡ hands_over old.plan old.core m now → put ≡ record turned {
      frames =
          added turned.frames
          (promote_frames turned.plan turned.core m unrefused hands row (choice_of (failover_of turned.core m).state)
          ++ frames_from (order_frames turned.plan m) 0 (failover_of turned.core m).replicas);
    }
    → last ≡ with_failed m now (disobeyed row awaited) (with_pause put.plan m now row (with_win m epoch row (with_vote put.plan m now epoch vote put.core)))
    → record put { core = last } ≡ with_part old (row_part old.plan m now old.core)
row_taken old turned put m now epoch awaited unrefused hands row vote last is_turned failed is_row is_vote is_epoch is_awaited is_unref is_hands is_put is_last =
    ap (λ (core : Core). let s : State = record put { core = core } in s) is_last
    ∙ ap (λ (s : State). ended s row vote epoch awaited) is_put
    ∙ ap (λ (f : Failover). ended (ordered turned f row unrefused hands) row vote epoch awaited) failed
    ∙ ap (λ (s : State). ended (ordered s turn.failover row unrefused hands) row vote epoch awaited) is_turned
    ∙ ap (λ (r : Option Row). ended (ordered first turn.failover r unrefused hands) r vote epoch awaited) is_row
    ∙ ap (λ (v : Option RunId). ended (ordered first turn.failover turn.row unrefused hands) turn.row v epoch awaited) is_vote
    ∙ ap (λ (e : ℕ). ended (ordered first turn.failover turn.row unrefused hands) turn.row turn.vote e awaited) is_epoch
    ∙ ap (λ (a : Option ℕ). ended (ordered first turn.failover turn.row unrefused hands) turn.row turn.vote (campaign_epoch old.core m) a) is_awaited
    ∙ ap (λ (b : Bool). ended (ordered first turn.failover turn.row b hands) turn.row turn.vote (campaign_epoch old.core m) up) is_unref
    ∙ ap (λ (b : Bool). ended (ordered first turn.failover turn.row (is_unrefused old.core m) b) turn.row turn.vote (campaign_epoch old.core m) up) is_hands
  where
    turn : Turn
    turn = turn_of old.plan old.core m now false

    first : State
    first = record old { core = with_failover old.core m turn.failover }

    up : Option ℕ
    up = awaited_up old.plan old.core m now

    ended : State → Option Row → Option RunId → ℕ → Option ℕ → State
    ended s row vote epoch awaited =
        record s { core = with_failed m now (disobeyed row awaited) (with_pause s.plan m now row (with_win m epoch row (with_vote s.plan m now epoch vote s.core))) }

    ordered : State → Failover → Option Row → Bool → Bool → State
    ordered s f row unrefused hands =
        record s {
          frames =
              added s.frames
              (promote_frames s.plan s.core m unrefused hands row (choice_of f.state) ++ frames_from (order_frames s.plan m) 0 f.replicas);
        }
