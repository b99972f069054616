-- The lines of a rewritten file that its roster fixes.
use Rattle.std.specs.Prelude.{◌≡◌, ℕ, List, ◌∷◌, ◌++◌, map}
use Rattle.std.specs.List.{flat_map, zip}
use Rattle.ballot_law.specs.declared.addresses.RunId.{RunId}
use Rattle.ballot_law.specs.declared.rosters.Member.{Member}
use Rattle.ballot_law.specs.declared.cards.KeptMaster.{KeptMaster}
use Rattle.ballot_law.specs.Rosters.{MasterPlan, Roster}
use Rattle.conf_lines.specs.declared.lines.StateLine.{StateLine}
use Rattle.conf_lines.specs.declared.lines.StateLine.TheVariants.{MyId, Monitor, ConfigEpoch, LeaderEpoch}
use Rattle.conf_lines.specs.Lines.{spelled}
use Rattle.conf_lines.specs.Words.{ended}
use Rattle.sentinel_conf.specs.Rewritten.{text_of, candidate_states, replica_states, sentinel_states}
use Rattle.sentinel_conf.specs.Room.{bounded}

-- the line of the own run id, and the Sentinel lines of each master
pub record FixedTexts : Type 0 where
  pub own : List ℕ
  pub sentinels : List (List ℕ)

-- what the room holds of the Sentinel lines of a master
abbrev pub fixed_of : RunId → List Member → MasterPlan → List ℕ
fixed_of id members master = bounded (text_of (sentinel_states master.name id members))

-- as far as the room goes, these are the lines of a Sentinel with this run id in this roster
pub record IsFixedText (id : RunId) (roster : Roster) (fixed : FixedTexts) : Type 0 where
  pub own : bounded fixed.own ≡ bounded (ended (spelled (MyId id)))
  pub sentinels : map bounded fixed.sentinels ≡ map (fixed_of id roster.sentinels) roster.masters

-- the state lines of one master that no roster fixes
abbrev pub changing_lines : MasterPlan × KeptMaster → List StateLine
changing_lines (master, kept) =
    Monitor master.name kept.card.addr master.quorum
    ∷ ConfigEpoch master.name kept.card.epoch
    ∷ LeaderEpoch master.name kept.voted
    ∷ (candidate_states master.name kept.candidate ++ replica_states master.name kept.card.addr master.nodes)

-- the state lines of one master as text, of which the last ones are spelled already
abbrev pub with_fixed : MasterPlan × (KeptMaster × List ℕ) → List ℕ
with_fixed (master, (kept, fixed)) = text_of (changing_lines (master, kept)) ++ fixed

abbrev pub all_with_fixed : List MasterPlan → List KeptMaster → List (List ℕ) → List ℕ
all_with_fixed masters kept fixed = flat_map with_fixed (zip masters (zip kept fixed))
