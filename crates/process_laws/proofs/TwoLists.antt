-- What two processes do whose lists differ is computed, and meets what the laws ask.
use Rattle.std.proofs.Common.{◌≡◌, ℕ, zero, suc, ◌<◌, ◌≤◌, List, [], ◌∷◌, ◌++◌, length, refl, subst, inl, inr, arith, lit<, lit≤}
use lib.Utf8.{encode}
use Rattle.std.specs.Prelude.{⊤, Contains}
use Rattle.std.specs.Fmt.{digits}
use Rattle.std.specs.Str.{is_utf8, chars}
use Rattle.std.proofs.lemmas.List.Elements.{All-nil, All-cons}
use Rattle.ballot_law.specs.declared.addresses.Addr.{Addr}
use Rattle.ballot_law.specs.declared.addresses.RunId.{RunId}
use Rattle.ballot_law.specs.declared.messages.Message.{Message}
use Rattle.ballot_law.specs.declared.rosters.TheConstants.{NODES_MAX}
use Rattle.ballot_law.specs.Law.{IsFreshOther, IsStart}
use Rattle.ballot_law.specs.RosterFaults.{IsRoster}
use Rattle.ballot_law.specs.Rosters.{master_at}
use Rattle.ballot_law.specs.Words.{hex}
use Rattle.ballot_law.proofs.Scripts.{only_first, becomes}
use Rattle.failover_states.specs.Replicas.{told, is_due, is_next}
use Rattle.sentinel_conf.specs.Rewritten.{IsKeptPart}
use Rattle.sentinel_rules.specs.States.{is_unrefused}
use Rattle.sentinel_rules.specs.Ticks.{hands_over}
use Rattle.sentinel_rules.specs.Endings.{is_contested}
use Rattle.sentinel_rules.specs.Worked.{id_a, id_b, local}
use Rattle.process_laws.specs.Actions.{Action, Process, AreActions, actions_after, all_sent, at_first}
use Rattle.process_laws.specs.Differing.{DifferInNodes}
use Rattle.process_laws.specs.TwoProcesses.{first_file, new_card, hello_with, finding_down, electing, promoting}
use Rattle.process_laws.specs.TwoLists.{with_nodes, new_list, old_list, both_lists, begin, plan_with, beginning, passing_over, following, passed_file, actions, IsShown, ListsMayDiffer}
use Rattle.process_laws.proofs.Safety.{after_both}
use Rattle.process_laws.proofs.TwoFiles.{node, is_fresh, distinct_ids, starts, opens_well, is_first}
use Rattle.process_laws.proofs.TwoProcesses.{first_answer, vote_given, hello_published, sent_both, actions_join}

-- what is unfolded to compute texts and failovers that are written out
unfoldable on_literals : ⊤
unfolding is_unrefused hands_over is_contested told is_due is_next is_utf8 chars encode digits hex
on_literals = tt

shown : IsShown
unfolding on_literals
shown = record { new_lacks = refl; old_lacks = refl; elected = refl; said = refl; first = refl; passed = refl; followed = refl }

-- the rosters

new_is_roster : IsRoster new_list
new_is_roster =
    record {
      few_sentinels = lit≤ tt;
      few_masters = lit≤ tt;
      few_nodes = only_first (λ m. length (master_at new_list m).nodes ≤ NODES_MAX) (lit≤ tt);
      made = ∣ record { given = new_list; fits = refl; in_order = refl } ∣₁;
    }

old_is_roster : IsRoster old_list
old_is_roster =
    record {
      few_sentinels = lit≤ tt;
      few_masters = lit≤ tt;
      few_nodes = only_first (λ m. length (master_at old_list m).nodes ≤ NODES_MAX) (lit≤ tt);
      made = ∣ record { given = old_list; fits = refl; in_order = refl } ∣₁;
    }

-- a list of the master and one replica, of which the other list has both
within : (port : ℕ) (others : List ℕ) → Contains (master_at (with_nodes others) 0).nodes (local 6379) → Contains (master_at (with_nodes others) 0).nodes (local port) →
    DifferInNodes (with_nodes (6379 ∷ port ∷ [])) (with_nodes others)
within port others one two = ((refl, λ i. refl), (record { name = refl; quorum = omega arith; nodes = each }, tt))
  where
    each : (addr : Addr) → Contains (local 6379 ∷ local port ∷ []) addr → Contains (master_at (with_nodes others) 0).nodes addr
    each addr (zero, low, e) = subst (Contains (master_at (with_nodes others) 0).nodes) e one
    each addr (suc zero, low, e) = subst (Contains (master_at (with_nodes others) 0).nodes) e two
    each addr (suc (suc k), low, e) = let past : suc (suc k) < 2 = low in absurd (omega arith)

new_within : DifferInNodes new_list both_lists
new_within = within 6380 (6379 ∷ 6380 ∷ 6381 ∷ []) (0, lit< tt, refl) (1, lit< tt, refl)

old_within : DifferInNodes old_list both_lists
old_within = within 6381 (6379 ∷ 6380 ∷ 6381 ∷ []) (0, lit< tt, refl) (2, lit< tt, refl)

-- the group at the start, and the other one's file, changed

starts_with_both : IsStart both_lists begin
starts_with_both =
    starts (6379 ∷ 6380 ∷ 6381 ∷ []) refl (node ∷ node ∷ node ∷ [])
    (All-cons IsFreshOther node (node ∷ node ∷ []) is_fresh (All-cons IsFreshOther node (node ∷ []) is_fresh (All-cons IsFreshOther node [] is_fresh (All-nil IsFreshOther))))

is_passed : (place : ℕ) (id : RunId) → IsKeptPart (plan_with new_list place id passed_file).conf passed_file
is_passed place id =
    record {
      current = lit≤ tt;
      masters = (record { addr = (0, lit< tt, refl); epoch = lit≤ tt; voted = lit≤ tt; candidate = λ (e : 1 ≡ 0). absurd (omega arith) }, tt);
    }

-- Each action meets what is asked of it where it stands

abbrev Meets : (before ds : List Action) → Type 0
Meets before ds = AreActions both_lists 3 (actions_after (at_first begin) before) (all_sent before) ds

begins : Meets [] beginning
unfolding on_literals
begins = (
  (lit< tt, opens_well 6380 (lit< tt) (lit≤ tt) both_lists new_within 0 id_a first_file 0 (lit< tt) refl (is_first 6380 (lit< tt) (lit≤ tt) 0 id_a)),
  ((lit< tt, opens_well 6381 (lit< tt) (lit≤ tt) both_lists old_within 1 id_b first_file 0 (lit< tt) refl (is_first 6381 (lit< tt) (lit≤ tt) 1 id_b)), tt),
)

finds_down : Meets beginning finding_down
unfolding on_literals
finds_down = (
  (lit< tt, refl, (refl, refl, lit≤ tt, tt), inl (inl tt)),
  (
    (lit< tt, refl, (refl, refl, lit≤ tt, lit≤ tt), inl (inl tt)),
    (
      (lit< tt, refl, (refl, refl, lit≤ tt, tt), inr (inl (first_answer, (8, lit< tt, refl), refl, tt, becomes first_answer))),
      ((lit< tt, refl, (refl, refl, lit≤ tt, tt), inl (inl tt)), ((lit< tt, refl, (refl, refl, lit≤ tt, tt), inl (inl tt)), tt)),
    ),
  ),
)

elects : Meets (beginning ++ finding_down) electing
unfolding on_literals
elects = (
  (lit< tt, refl, (refl, refl, lit≤ tt, tt), inl (inl tt)),
  (
    (lit< tt, refl, (refl, refl, lit≤ tt, lit≤ tt), inl (inl tt)),
    (
      (lit< tt, refl, (refl, refl, lit≤ tt, tt), inr (inl (vote_given, (10, lit< tt, refl), refl, tt, becomes vote_given))),
      ((lit< tt, refl, (refl, refl, lit≤ tt, tt), inl (inl tt)), tt),
    ),
  ),
)

promotes : Meets ((beginning ++ finding_down) ++ electing) promoting
unfolding on_literals
promotes = (
  (lit< tt, refl, (refl, refl, lit≤ tt, tt), inl (inl tt)),
  ((lit< tt, refl, (refl, refl, lit≤ tt, tt), inl (inl tt)), ((lit< tt, refl, (refl, refl, lit≤ tt, tt), inl (inl tt)), tt)),
)

passes_over : Meets (((beginning ++ finding_down) ++ electing) ++ promoting) passing_over
unfolding on_literals
passes_over = (
  (lit< tt, refl, (refl, refl, lit≤ tt, tt), inl (inl tt)),
  (
    (lit< tt, refl, (refl, refl, lit≤ tt, tt), inr (inr (hello_published, hello_with 1 new_card, 0, (12, lit< tt, refl), refl, lit< tt, refl, refl))),
    ((lit< tt, refl, lit< tt), ((lit< tt, refl, lit< tt), tt)),
  ),
)

follows : Meets ((((beginning ++ finding_down) ++ electing) ++ promoting) ++ passing_over) following
unfolding on_literals
follows = (
  (lit< tt, opens_well 6380 (lit< tt) (lit≤ tt) both_lists new_within 1 id_b passed_file 1000 (lit< tt) refl (is_passed 1 id_b)),
  (
    (lit< tt, refl, (refl, refl, lit≤ tt, tt), inr (inr (hello_published, hello_with 1 new_card, 0, (12, lit< tt, refl), refl, lit< tt, refl, refl))),
    ((lit< tt, refl, lit< tt), tt),
  ),
)

join : (before ds more : List Action) → Meets before ds → Meets (before ++ ds) more → Meets before (ds ++ more)
join before ds more a b =
    actions_join both_lists 3 (actions_after (at_first begin) before) (all_sent before) ds more a
    (subst (λ (x : (ℕ → Process) × List Message). AreActions both_lists 3 x.0 x.1 more) (λ j. (after_both (at_first begin) before ds j, sent_both before ds j)) b)

all_meet : Meets [] actions
all_meet =
    join [] beginning (finding_down ++ (electing ++ (promoting ++ (passing_over ++ following)))) begins
    (join beginning finding_down (electing ++ (promoting ++ (passing_over ++ following))) finds_down
    (join (beginning ++ finding_down) electing (promoting ++ (passing_over ++ following)) elects
    (join ((beginning ++ finding_down) ++ electing) promoting (passing_over ++ following) promotes
    (join (((beginning ++ finding_down) ++ electing) ++ promoting) passing_over following passes_over
    follows))))

pub lists_may_differ : ListsMayDiffer
lists_may_differ = (new_is_roster, old_is_roster, distinct_ids (6379 ∷ 6380 ∷ 6381 ∷ []), starts_with_both, all_meet, shown)
