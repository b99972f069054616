-- What two processes do is computed, and meets what the laws ask.
use Rattle.std.proofs.Common.{◌≡◌, ℕ, ◌<◌, ◌≤◌, true, Some, None, List, [], ◌∷◌, ◌++◌, length, append_assoc, refl, sym, ap, subst, ◌∙◌, inl, inr, arith, lit<, lit≤}
use lib.Utf8.{encode}
use mathlib.Core.List.{append-nil}
use Rattle.std.specs.Prelude.{⊤}
use Rattle.std.specs.Fmt.{digits}
use Rattle.std.specs.Str.{is_utf8, chars}
use Rattle.std.proofs.lemmas.List.Elements.{All-nil, All-cons}
use Rattle.ballot_law.specs.declared.addresses.RunId.{RunId}
use Rattle.ballot_law.specs.declared.cards.Kept.{Kept}
use Rattle.ballot_law.specs.declared.messages.Body.TheVariants.{Answer, Publish}
use Rattle.ballot_law.specs.declared.messages.Message.{Message}
use Rattle.ballot_law.specs.declared.messages.NodeName.TheVariants.{SentinelAt, StoreAt}
use Rattle.ballot_law.specs.declared.rosters.TheConstants.{NODES_MAX}
use Rattle.ballot_law.specs.Law.{IsFreshOther, IsStart}
use Rattle.ballot_law.specs.RosterFaults.{IsRoster}
use Rattle.ballot_law.specs.Rosters.{Roster, id_of, master_at}
use Rattle.ballot_law.specs.Words.{hex}
use Rattle.ballot_law.proofs.Scripts.{only_first, message, becomes}
use Rattle.failover_states.specs.Replicas.{told, is_due, is_next}
use Rattle.sentinel_conf.specs.Rewritten.{IsKeptPart}
use Rattle.sentinel_rules.specs.States.{is_unrefused}
use Rattle.sentinel_rules.specs.Ticks.{hands_over}
use Rattle.sentinel_rules.specs.Endings.{is_contested}
use Rattle.sentinel_rules.specs.Worked.{id_a, id_b, local}
use Rattle.process_laws.proofs.Differing.{same_differs}
use Rattle.process_laws.proofs.Safety.{after_both}
use Rattle.process_laws.proofs.TwoFiles.{node, is_fresh, distinct_ids, starts, opens_well, is_first}
use Rattle.process_laws.specs.TwoProcesses.{roster, begin, first_file, left_file, plan_at, hello_with, new_card, beginning, finding_down, electing, promoting, adopting, beginning_anew, actions, IsShown, ActionsHappen}
use Rattle.process_laws.specs.Actions.{Action, Process, IsOpened, AreActions, action_after, actions_after, all_sent, sent_by, at_first, opened_by}

-- what is unfolded to compute texts and failovers that are written out
unfoldable on_literals : ⊤
unfolding is_unrefused hands_over is_contested told is_due is_next is_utf8 chars encode digits hex
on_literals = tt

shown : IsShown
unfolding on_literals
shown = record { elected = refl; said = refl; first = refl; other = refl }

-- the roster

is_roster : IsRoster roster
is_roster =
    record {
      few_sentinels = lit≤ tt;
      few_masters = lit≤ tt;
      few_nodes = only_first (λ m. length (master_at roster m).nodes ≤ NODES_MAX) (lit≤ tt);
      made = ∣ record { given = roster; fits = refl; in_order = refl } ∣₁;
    }

-- the group at the start, and its files

pub starts_here : IsStart roster begin
starts_here =
    starts (6379 ∷ 6380 ∷ []) refl (node ∷ node ∷ [])
    (All-cons IsFreshOther node (node ∷ []) is_fresh (All-cons IsFreshOther node [] is_fresh (All-nil IsFreshOther)))

pub opens_here : (place : ℕ) (id : RunId) (kept : Kept) (now : ℕ) → place < 2 → id_of roster place ≡ id → IsKeptPart (plan_at place id kept).conf kept →
    IsOpened roster place kept now (opened_by (plan_at place id kept) now)
opens_here place id kept now low own is = opens_well 6380 (lit< tt) (lit≤ tt) roster (same_differs roster roster refl) place id kept now low own is

pub is_left : IsKeptPart (plan_at 0 id_a left_file).conf left_file
is_left =
    record {
      current = lit≤ tt;
      masters = (record { addr = (1, lit< tt, refl); epoch = lit≤ tt; voted = lit≤ tt; candidate = λ (e : 2 ≡ 0). absurd (omega arith) }, tt);
    }

-- the vote that the other one gives, and the hello

abbrev pub first_answer : Message
first_answer = message (SentinelAt 1) (SentinelAt 0) (Answer 0 (local 6379) true None 0)

abbrev pub vote_given : Message
vote_given = message (SentinelAt 1) (SentinelAt 0) (Answer 0 (local 6379) true (Some id_a) 1)

abbrev pub hello_published : Message
hello_published = message (SentinelAt 0) (StoreAt 0) (Publish (hello_with 1 new_card))

-- Each action meets what is asked of it where it stands

abbrev Meets : (before ds : List Action) → Type 0
Meets before ds = AreActions roster 2 (actions_after (at_first begin) before) (all_sent before) ds

begins : Meets [] beginning
unfolding on_literals
begins = (
  (lit< tt, opens_here 0 id_a first_file 0 (lit< tt) refl (is_first 6380 (lit< tt) (lit≤ tt) 0 id_a)),
  ((lit< tt, opens_here 1 id_b first_file 0 (lit< tt) refl (is_first 6380 (lit< tt) (lit≤ tt) 1 id_b)), tt),
)

finds_down : Meets beginning finding_down
unfolding on_literals
finds_down = (
  (lit< tt, refl, (refl, refl, lit≤ tt, tt), inl (inl tt)),
  (
    (lit< tt, refl, (refl, refl, lit≤ tt, lit≤ tt), inl (inl tt)),
    (
      (lit< tt, refl, (refl, refl, lit≤ tt, tt), inr (inl (first_answer, (8, lit< tt, refl), refl, tt, becomes first_answer))),
      ((lit< tt, refl, (refl, refl, lit≤ tt, tt), inl (inl tt)), ((lit< tt, refl, (refl, refl, lit≤ tt, tt), inl (inl tt)), tt)),
    ),
  ),
)

elects : Meets (beginning ++ finding_down) electing
unfolding on_literals
elects = (
  (lit< tt, refl, (refl, refl, lit≤ tt, tt), inl (inl tt)),
  (
    (lit< tt, refl, (refl, refl, lit≤ tt, lit≤ tt), inl (inl tt)),
    (
      (lit< tt, refl, (refl, refl, lit≤ tt, tt), inr (inl (vote_given, (10, lit< tt, refl), refl, tt, becomes vote_given))),
      ((lit< tt, refl, (refl, refl, lit≤ tt, tt), inl (inl tt)), tt),
    ),
  ),
)

promotes : Meets ((beginning ++ finding_down) ++ electing) promoting
unfolding on_literals
promotes = (
  (lit< tt, refl, (refl, refl, lit≤ tt, tt), inl (inl tt)),
  ((lit< tt, refl, (refl, refl, lit≤ tt, tt), inl (inl tt)), ((lit< tt, refl, (refl, refl, lit≤ tt, tt), inl (inl tt)), tt)),
)

adopts : Meets (((beginning ++ finding_down) ++ electing) ++ promoting) adopting
unfolding on_literals
adopts = (
  (lit< tt, refl, lit< tt),
  (
    (lit< tt, refl, lit< tt),
    (
      (lit< tt, refl, (refl, refl, lit≤ tt, tt), inl (inl tt)),
      (
        (lit< tt, refl, (refl, refl, lit≤ tt, tt), inl (inr refl)),
        (
          (lit< tt, refl, (refl, refl, lit≤ tt, tt), inr (inr (hello_published, hello_with 1 new_card, 0, (12, lit< tt, refl), refl, lit< tt, refl, refl))),
          ((lit< tt, refl, lit< tt), tt),
        ),
      ),
    ),
  ),
)

begins_anew : Meets ((((beginning ++ finding_down) ++ electing) ++ promoting) ++ adopting) beginning_anew
unfolding on_literals
begins_anew = (
  (lit< tt, refl, (refl, refl, lit< tt, lit≤ tt, refl), inl (inl tt)),
  (
    (lit< tt, opens_here 0 id_a left_file 1000 (lit< tt) refl is_left),
    ((lit< tt, refl, (refl, refl, lit≤ tt, tt), inr (inl (vote_given, (10, lit< tt, refl), refl, tt, becomes vote_given))), ((lit< tt, refl, lit< tt), tt)),
  ),
)

-- some actions, and those after them

pub sent_both : (ds more : List Action) → all_sent (ds ++ more) ≡ all_sent ds ++ all_sent more
sent_both [] more = refl
sent_both (d ∷ ds) more = ap (λ (l : List Message). sent_by d ++ l) (sent_both ds more) ∙ sym (append_assoc (sent_by d) (all_sent ds) (all_sent more))

pub actions_join : (roster : Roster) (stores : ℕ) (all : ℕ → Process) (messages : List Message) (ds more : List Action) → AreActions roster stores all messages ds →
    AreActions roster stores (actions_after all ds) (messages ++ all_sent ds) more → AreActions roster stores all messages (ds ++ more)
actions_join roster stores all messages [] more a b = subst (λ (l : List Message). AreActions roster stores all l more) (append-nil messages) b
actions_join roster stores all messages (d ∷ ds) more a b = (
  a.0,
  actions_join roster stores (action_after all d) (messages ++ sent_by d) ds more a.1
      (subst (λ (l : List Message). AreActions roster stores (actions_after (action_after all d) ds) l more) (sym (append_assoc messages (sent_by d) (all_sent ds))) b),
)

join : (before ds more : List Action) → Meets before ds → Meets (before ++ ds) more → Meets before (ds ++ more)
join before ds more a b =
    actions_join roster 2 (actions_after (at_first begin) before) (all_sent before) ds more a
    (subst (λ (x : (ℕ → Process) × List Message). AreActions roster 2 x.0 x.1 more) (λ j. (after_both (at_first begin) before ds j, sent_both before ds j)) b)

all_meet : Meets [] actions
all_meet =
    join [] beginning (finding_down ++ (electing ++ (promoting ++ (adopting ++ beginning_anew)))) begins
    (join beginning finding_down (electing ++ (promoting ++ (adopting ++ beginning_anew))) finds_down
    (join (beginning ++ finding_down) electing (promoting ++ (adopting ++ beginning_anew)) elects
    (join ((beginning ++ finding_down) ++ electing) promoting (adopting ++ beginning_anew) promotes
    (join (((beginning ++ finding_down) ++ electing) ++ promoting) adopting beginning_anew adopts
    begins_anew))))

pub actions_happen : ActionsHappen
actions_happen = (is_roster, distinct_ids (6379 ∷ 6380 ∷ []), starts_here, all_meet, shown)
