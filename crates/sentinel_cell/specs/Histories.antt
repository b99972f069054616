-- Which histories of one Sentinel are legal, and what they leave.
use Rattle.std.specs.Prelude.{◌≡◌, ◌≢◌, ℕ, ◌+◌, ◌-◌, ◌^◌, ◌<◌, ◌≤◌, ◌⊎◌, Bool, true, false, not, ◌||◌, ◌&&◌, ◌==◌, cond, List, [], ◌∷◌, ◌++◌, drop, Option, Some, None, IfSome}
use Rattle.ballot_law.specs.declared.addresses.RunId.{RunId}
use Rattle.ballot_law.specs.declared.cards.Card.{Card}
use Rattle.ballot_law.specs.declared.cards.Kept.{Kept}
use Rattle.ballot_law.specs.declared.cards.KeptMaster.{KeptMaster}
use Rattle.ballot_law.specs.declared.events.Event.TheVariants.{Tick}
use Rattle.ballot_law.specs.declared.events.Input.{Input}
use Rattle.ballot_law.specs.declared.messages.Output.{Output}
use Rattle.ballot_law.specs.Ballots.{card_of}
use Rattle.ballot_law.specs.Orders.{same_addr, same_id}
use Rattle.ballot_law.specs.Rosters.{no_id}
use Rattle.sentinel_conf.specs.Rewritten.{rewritten, IsKeptPart}
use Rattle.sentinel_rules.specs.declared.profiles.Profile.TheVariants.{Strict}
use Rattle.sentinel_rules.specs.Plans.{Plan, addr_at, master_count}
use Rattle.sentinel_rules.specs.States.{Core}
use Rattle.sentinel_rules.specs.Facts.{IsSoundPlan, IsSound}
use Rattle.ballot_law.specs.Limits.{IsWithinEvent}
use Rattle.sentinel_rules.specs.Changes.{IsSameOrNewer, IsAhead}
use Rattle.sentinel_rules.specs.Takes.{Next, next}
use Rattle.sentinel_outbox.specs.declared.phase.Phase.TheVariants.{Ready, Halted}
use Rattle.sentinel_core.specs.Sentinels.{is_flush}
use Rattle.sentinel_cell.specs.declared.entry.Entry.{Entry}
use Rattle.sentinel_cell.specs.declared.entry.Outcome.{Outcome}
use Rattle.sentinel_cell.specs.declared.entry.Outcome.TheVariants.{Stored, Refused, Halted as HaltedBefore}
use Rattle.sentinel_cell.specs.declared.keeper.Keeper.{Keeper}
use Rattle.atomic_table.specs.Table.{State}
use Rattle.sentinel_cell.specs.declared.view.View.{View}
use Rattle.sentinel_cell.specs.Turns.{unpacked, Ruled}

-- A Sentinel between two entries: its plan, what it keeps, what it stored last, whether it is halted, and the master whose configuration the
-- last input changed; the text of its file, where that is known, and the text that its store refused; and its store's failure count
pub record World : Type 0 where
  pub plan : Plan
  pub core : Core
  pub stored : Kept
  pub halted : Bool
  pub change : Option ℕ
  pub text : Option (List ℕ)
  pub refused : Option (List ℕ)
  pub failures : ℕ

abbrev pub no_kept_part : Kept
no_kept_part = record { current = 0; masters = [] }

abbrev pub no_plan : Plan
no_plan =
    record {
      conf = record { kept_lines = []; roster = record { sentinels = []; masters = [] }; id = no_id; port = 0; settings = []; kept = no_kept_part };
      place = 0;
      profile = Strict;
      reboots = [];
    }

abbrev pub no_core : Core
no_core = record { kept = no_kept_part; masters = []; peers = []; clock = record { last = 0; entered = None }; random = 0; won = None }

-- a world where none is known
abbrev pub no_world : World
no_world = record { plan = no_plan; core = no_core; stored = no_kept_part; halted = false; change = None; text = None; refused = None; failures = 0 }

-- Whether two kept parts are the same

abbrev pub same_candidate : Option RunId → Option RunId → Bool
same_candidate None None = true
same_candidate None (Some d) = false
same_candidate (Some c) None = false
same_candidate (Some c) (Some d) = same_id c d

abbrev pub same_card : Card → Card → Bool
same_card a b = (a.epoch == b.epoch) && same_addr a.addr b.addr

abbrev pub same_entry : KeptMaster → KeptMaster → Bool
same_entry a b =
    (a.card.epoch == b.card.epoch)
    && (same_addr a.card.addr b.card.addr && ((a.voted == b.voted) && same_candidate a.candidate b.candidate))

abbrev pub same_entries : List KeptMaster → List KeptMaster → Bool
same_entries [] [] = true
same_entries [] (y ∷ ys) = false
same_entries (x ∷ xs) [] = false
same_entries (x ∷ xs) (y ∷ ys) = same_entry x y && same_entries xs ys

abbrev pub same_kept : Kept → Kept → Bool
same_kept a b = (a.current == b.current) && same_entries a.masters b.masters

-- the first master, from this number on, whose configuration is another one
abbrev pub changed_from : ℕ → List KeptMaster → List KeptMaster → Option ℕ
changed_from m [] ys = None
changed_from m (x ∷ xs) [] = None
changed_from m (x ∷ xs) (y ∷ ys) = cond (same_card x.card y.card) (changed_from (m + 1) xs ys) (Some m)

abbrev pub changed_card : Kept → Kept → Option ℕ
changed_card former now = changed_from 0 former.masters now.masters

-- One input

-- what it gives
abbrev pub next_of : World → Input → Next
next_of w i = next w.plan w.core i.now i.event

-- the file is written where what it is to hold changed, and for FLUSHCONFIG
abbrev pub must_store : World → Input → Bool
must_store w i = not (same_kept (next_of w i).core.kept w.core.kept) || is_flush i.event

abbrev pub text_of : World → Input → List ℕ
text_of w i = rewritten w.plan.conf (next_of w i).core.kept

abbrev pub after_outcome : World → Input → ℕ → Outcome → World
after_outcome w i failures Stored =
    record {
      plan = w.plan;
      core = (next_of w i).core;
      stored = (next_of w i).core.kept;
      halted = w.halted;
      change = changed_card w.core.kept (next_of w i).core.kept;
      text = cond (must_store w i) (Some (text_of w i)) w.text;
      refused = w.refused;
      failures = failures;
    }
after_outcome w i failures Refused =
    record {
      plan = w.plan;
      core = (next_of w i).core;
      stored = w.stored;
      halted = true;
      change = changed_card w.core.kept (next_of w i).core.kept;
      text = w.text;
      refused = Some (text_of w i);
      failures = failures;
    }
after_outcome w i failures HaltedBefore =
    record { plan = w.plan; core = w.core; stored = w.stored; halted = w.halted; change = w.change; text = w.text; refused = w.refused; failures = failures }

abbrev pub after : World → Entry → World
after w e = after_outcome w e.input e.failures e.outcome

-- A stored entry is one input by the rules. A refused one had something to store, shows nothing, and the store failed. A halted Sentinel
-- shows nothing. The epoch of a command is in range
abbrev pub IsOutcome : World → Input → List Output → ℕ → Outcome → Type 0
IsOutcome w i outputs failures Stored = (w.halted ≡ false) × (outputs ≡ (next_of w i).outputs) × (w.failures ≤ failures) × IsWithinEvent i.event
IsOutcome w i outputs failures Refused =
    (w.halted ≡ false) × (outputs ≡ []) × (w.failures < failures) × IsWithinEvent i.event × (must_store w i ≡ true)
IsOutcome w i outputs failures HaltedBefore = (w.halted ≡ true) × (outputs ≡ []) × (w.failures ≤ failures)

abbrev pub IsStep : World → Entry → Type 0
IsStep w e = IsOutcome w e.input e.outputs e.failures e.outcome

abbrev pub AreSteps : World → List Entry → Type 0
AreSteps w [] = Unit {0}
AreSteps w (e ∷ es) = IsStep w e × AreSteps (after w e) es

-- what a history leaves
abbrev pub replay : World → List Entry → World
replay w [] = w
replay w (e ∷ es) = replay (after w e) es

-- the stored configuration of a master after a history
abbrev pub stored_at : World → List Entry → ℕ → Card
stored_at start history m = card_of (replay start history).stored m

-- what is known of each world on the way: what is kept is sound, and is stored unless the store refused it
pub record IsGood (w : World) : Type 0 where
  pub plan : IsSoundPlan w.plan
  pub core : IsSound w.plan w.core
  pub ahead : IsAhead w.core
  pub settled : w.halted ≡ false → w.core.kept ≡ w.stored

-- a history from a sound world
abbrev pub IsLegal : World → List Entry → Type 0
IsLegal w history = IsGood w × AreSteps w history

module _ {S : Type 0} (text : S → Option (List ℕ)) (failures : S → ℕ) where
  -- the world that a cell was made with
  abbrev pub opened : Keeper S → World
  opened k =
      record {
        plan = k.sentinel.plan;
        core = k.sentinel.core;
        stored = k.sentinel.stored;
        halted = false;
        change = k.sentinel.change;
        text = text k.store;
        refused = None;
        failures = failures k.store;
      }

  -- a text that is known is the last one stored, or after a refusal that one or the refused one
  abbrev pub IsText : World → List ℕ → Type 0
  IsText w bytes = (w.text ≡ Some bytes) ⊎ ((w.halted ≡ true) × (w.refused ≡ Some bytes))

  -- The Sentinel and its store are those that this world leaves
  pub record IsLeft (w : World) (k : Keeper S) : Type 0 where
    pub plan : k.sentinel.plan ≡ w.plan
    pub core : k.sentinel.core ≡ w.core
    pub stored : k.sentinel.stored ≡ w.stored
    pub phase : k.sentinel.phase ≡ cond w.halted Halted Ready
    pub change : k.sentinel.change ≡ w.change
    pub failures_are : failures k.store ≡ w.failures
    pub text_is : IfSome (text k.store) (IsText w)
    pub kept : IsKeptPart w.plan.conf w.stored
    pub room : w.halted ≡ false → failures k.store < 2 ^ 64 - 1

  abbrev pub Fits : World → List Entry → Option (Keeper S) → Type 0
  Fits start history c = (k : Keeper S) × (c ≡ Some k) × IsLeft (replay start history) k

  -- the rule of a cell that was made with this world, for so many seats
  abbrev pub Keeps : World → ℕ → State (Option (Keeper S)) View → Type 0
  Keeps start seats s = Ruled (IsLegal start) (stored_at start) (Fits start) None (addr_at start.plan) (master_count start.plan) seats s

abbrev pub entry_of : ℕ → Input → Outcome → ℕ → List Output → ℕ → Entry
entry_of number input outcome first shown failures = record { number = number; input = input; outcome = outcome; outputs = drop first shown; failures = failures }

abbrev pub no_entry : Entry
no_entry = record { number = 0; input = record { now = 0; event = Tick 0 0 }; outcome = HaltedBefore; outputs = []; failures = 0 }

-- The word has the stored configuration of the master after the entry, which is the one before or a newer one, and no other changes
abbrev pub Announces : World → List Entry → Entry → ℕ → ℕ → Type 0
Announces start history e m word =
    (unpacked (addr_at start.plan) m word ≡ stored_at start (history ++ e ∷ []) m)
    × IsSameOrNewer (stored_at start history m) (stored_at start (history ++ e ∷ []) m)
    × ((x : ℕ) → x ≢ m → stored_at start (history ++ e ∷ []) x ≡ stored_at start history x)
