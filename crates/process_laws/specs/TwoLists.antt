-- A replica takes another one's place in one file after the other, and meanwhile the master goes down: what two processes do whose lists differ.
use Rattle.std.specs.Prelude.{◌≡◌, ℕ, false, Some, List, [], ◌∷◌, ◌++◌, map, length}
use Rattle.std.specs.List.{list_any}
use Rattle.ballot_law.specs.declared.addresses.RunId.{RunId}
use Rattle.ballot_law.specs.declared.cards.Kept.{Kept}
use Rattle.ballot_law.specs.declared.events.Event.TheVariants.{HelloRead}
use Rattle.ballot_law.specs.declared.messages.Body.TheVariants.{Publish}
use Rattle.ballot_law.specs.declared.messages.NodeName.TheVariants.{StoreAt}
use Rattle.ballot_law.specs.declared.records.Election.{Election}
use Rattle.ballot_law.specs.Hellos.{hello_text}
use Rattle.ballot_law.specs.Law.{IsStart}
use Rattle.ballot_law.specs.Orders.{same_addr}
use Rattle.ballot_law.specs.RosterFaults.{IsRoster}
use Rattle.ballot_law.specs.Rosters.{Roster, HasDistinctIds, master_at}
use Rattle.ballot_law.specs.Worlds.{World as Group, Ready, started}
use Rattle.sentinel_rules.specs.Plans.{Plan}
use Rattle.sentinel_rules.specs.Worked.{id_a, id_b, local, mymaster, members_from, kept_with, tick_at}
use Rattle.process_laws.specs.Actions.{Action, Opened, Told, AreActions, actions_after, all_said, all_elected, at_first, opened_by}
use Rattle.process_laws.specs.TwoProcesses.{first_card, new_card, first_file, plan_at, takes, sends, switched, hello_with, finding_down, electing, promoting, says}

-- two Sentinels, and a master with the data nodes at these ports
abbrev pub with_nodes : List ℕ → Roster
with_nodes ports =
    record {
      sentinels = members_from 26379 (10 ∷ 11 ∷ []);
      masters = record { name = mymaster; nodes = map local ports; quorum = 2 } ∷ [];
    }

-- of a file that names the new replica, and of one that still names the old one
abbrev pub new_list : Roster
new_list = with_nodes (6379 ∷ 6380 ∷ [])

abbrev pub old_list : Roster
old_list = with_nodes (6379 ∷ 6381 ∷ [])

-- the roster that has both lists
abbrev pub both_lists : Roster
both_lists = with_nodes (6379 ∷ 6380 ∷ 6381 ∷ [])

-- neither has voted yet, and all three data nodes run
abbrev pub begin : Group
begin =
    record {
      sentinels = started both_lists first_file ∷ started both_lists first_file ∷ [];
      stores = (record { state = Ready; held = [] }) ∷ (record { state = Ready; held = [] }) ∷ (record { state = Ready; held = [] }) ∷ [];
      clients = [];
      messages = [];
      votes = [];
      elected = [];
      said = [];
    }

-- a file of this Sentinel with these lists
abbrev pub plan_with : Roster → (place : ℕ) → RunId → Kept → Plan
plan_with lists place id kept = record (plan_at place id kept) { conf = record (plan_at place id kept).conf { roster = lists } }

abbrev pub opens_with : Roster → (place : ℕ) → RunId → Kept → (now : ℕ) → Action
opens_with lists place id kept now = Opened place (opened_by (plan_with lists place id kept) now) now

-- the first one's file was changed already, the other one's not yet
abbrev pub beginning : List Action
beginning = opens_with new_list 0 id_a first_file 0 ∷ opens_with old_list 1 id_b first_file 0 ∷ []

-- The first published the new replica's address. The other hears it, and goes on with the address that it has: so the two tell clients different ones, of different epochs
abbrev pub passing_over : List Action
passing_over =
    takes 0 (tick_at 900) (sends 0 (StoreAt 0) (Publish (hello_with 1 new_card)) ∷ sends 0 (StoreAt 1) (Publish (hello_with 1 new_card)) ∷ [])
    ∷ takes 1 (910, HelloRead (hello_text (hello_with 1 new_card))) []
    ∷ Told 0 0
    ∷ Told 1 0
    ∷ []

-- what the other one's file holds then: its vote for the first, and the first configuration
abbrev pub passed_file : Kept
passed_file = kept_with 1 first_card 1 (Some id_a)

-- the other one's file is changed too, and the same hello is heard again
abbrev pub following : List Action
following =
    opens_with new_list 1 id_b passed_file 1000
    ∷ takes 1 (1010, HelloRead (hello_text (hello_with 1 new_card))) (switched ∷ [])
    ∷ Told 1 0
    ∷ []

-- the first finds the master down, is elected by the other one's vote, and promotes the replica, as in `TwoProcesses`
abbrev pub until_passed : List Action
until_passed = beginning ++ (finding_down ++ (electing ++ (promoting ++ passing_over)))

abbrev pub actions : List Action
actions = beginning ++ (finding_down ++ (electing ++ (promoting ++ (passing_over ++ following))))

-- what came of it
pub record IsShown : Type 0 where
  -- neither list has the other's replica
  pub new_lacks : list_any (same_addr (local 6381)) (master_at new_list 0).nodes ≡ false
  pub old_lacks : list_any (same_addr (local 6380)) (master_at old_list 0).nodes ≡ false
  pub elected : all_elected (at_first begin) actions ≡ (let e : Election = record { sentinel = 0; master = 0; epoch = 1 } in e) ∷ []
  -- two hellos, a note, two hellos, an answer of each; then the other's note and answer
  pub said : all_said both_lists (at_first begin) actions
      ≡ says 0 first_card
      ∷ says 0 first_card
      ∷ says 0 new_card
      ∷ says 0 new_card
      ∷ says 0 new_card
      ∷ says 0 new_card
      ∷ says 1 first_card
      ∷ says 1 new_card
      ∷ says 1 new_card
      ∷ []
  pub first : (actions_after (at_first begin) until_passed 0).file ≡ kept_with 1 new_card 1 (Some id_a)
  pub passed : (actions_after (at_first begin) until_passed 1).file ≡ passed_file
  pub followed : (actions_after (at_first begin) actions 1).file ≡ kept_with 1 new_card 1 (Some id_a)

-- there are such processes, of rosters as `Roster::new` makes them
abbrev pub ListsMayDiffer : Type 0
ListsMayDiffer =
    IsRoster new_list × IsRoster old_list × HasDistinctIds both_lists × IsStart both_lists begin
    × AreActions both_lists (length begin.stores) (at_first begin) [] actions × IsShown
