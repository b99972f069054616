-- What is known of each conf that was read.
use Rattle.std.specs.Prelude.{◌≡◌, ◌≢◌, ℕ, ◌≤◌, ◌<◌, ◌^◌, length, slice_index_or}
use Rattle.ballot_law.specs.declared.rosters.TheConstants.{MASTERS_MAX, NODES_MAX, SENTINELS_MAX}
use Rattle.ballot_law.specs.Hellos.{IsAddr, IsRunId}
use Rattle.ballot_law.specs.Names.{IsName}
use Rattle.ballot_law.specs.Rosters.{no_addr, no_member, master_at, HasDistinctIds, HasDistinctNames}
use Rattle.sentinel_conf.specs.declared.settings.Settings.{Settings}
use Rattle.sentinel_conf.specs.Meaning.{ConfPlan}
use Rattle.sentinel_conf.specs.Rewritten.{IsKeptPart}

-- the settings of no master
abbrev pub no_settings : Settings
no_settings = record { after_ms = 0; parallel_syncs = 0; timeout = 0 }

-- what is known of each conf: its sizes are within the limits, nothing stands in it twice, and each address, run id and
-- name in it is one
pub record IsSoundConf (conf : ConfPlan) : Type 0 where
  pub few_sentinels : length conf.roster.sentinels ≤ SENTINELS_MAX
  pub some_sentinel : 1 ≤ length conf.roster.sentinels
  pub few_masters : length conf.roster.masters ≤ MASTERS_MAX
  pub some_master : 1 ≤ length conf.roster.masters
  pub few_nodes : (m : ℕ) → m < length conf.roster.masters → length (master_at conf.roster m).nodes ≤ NODES_MAX
  pub some_node : (m : ℕ) → m < length conf.roster.masters → 1 ≤ length (master_at conf.roster m).nodes
  pub quorums : (m : ℕ) → m < length conf.roster.masters → (master_at conf.roster m).quorum < 2 ^ 32
  pub settings : length conf.settings ≡ length conf.roster.masters
  pub ids : HasDistinctIds conf.roster
  pub names : HasDistinctNames conf.roster
  pub nodes : (m j k : ℕ) → m < length conf.roster.masters → j < k → k < length (master_at conf.roster m).nodes
      → slice_index_or (master_at conf.roster m).nodes j no_addr ≢ slice_index_or (master_at conf.roster m).nodes k no_addr
  pub members : (i : ℕ) → i < length conf.roster.sentinels
      → IsAddr (slice_index_or conf.roster.sentinels i no_member).addr × IsRunId (slice_index_or conf.roster.sentinels i no_member).id
  pub listed : (m k : ℕ) → m < length conf.roster.masters → k < length (master_at conf.roster m).nodes
      → IsAddr (slice_index_or (master_at conf.roster m).nodes k no_addr)
  pub named : (m : ℕ) → m < length conf.roster.masters → IsName (master_at conf.roster m).name
  pub kept : IsKeptPart conf conf.kept
