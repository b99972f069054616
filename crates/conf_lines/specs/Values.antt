-- What a line gives.
use Rattle.std.specs.Prelude.{ℕ, List, Option, Some, None}
use Rattle.ballot_law.specs.declared.addresses.Addr.{Addr}
use Rattle.ballot_law.specs.declared.addresses.RunId.{RunId}
use Rattle.ballot_law.specs.declared.rosters.Member.{Member}
use Rattle.ballot_law.specs.Orders.{same_bytes}
use Rattle.ballot_law.specs.Words.{some_if}
use Rattle.conf_lines.specs.declared.lines.StateLine.{StateLine}
use Rattle.conf_lines.specs.declared.lines.StateLine.TheVariants.{MyId, CurrentEpoch, Monitor, ConfigEpoch, LeaderEpoch, LeaderId, KnownReplica, KnownSentinel}
use Rattle.conf_lines.specs.declared.lines.Setting.{Setting}
use Rattle.conf_lines.specs.declared.lines.Setting.TheVariants.{Port, AnnounceIp, AnnouncePort, DownAfter, ParallelSyncs, FailoverTimeout}

abbrev pub my_id_of : StateLine → Option RunId
my_id_of (MyId id) = Some id
my_id_of _ = None

abbrev pub name_of : StateLine → Option (List ℕ)
name_of (Monitor name addr quorum) = Some name
name_of _ = None

abbrev pub quorum_of : List ℕ → StateLine → Option ℕ
quorum_of name (Monitor other addr quorum) = some_if (same_bytes name other) quorum
quorum_of name _ = None

abbrev pub monitored_at : List ℕ → StateLine → Option Addr
monitored_at name (Monitor other addr quorum) = some_if (same_bytes name other) addr
monitored_at name _ = None

abbrev pub node_of : List ℕ → StateLine → Option Addr
node_of name (Monitor other addr quorum) = some_if (same_bytes name other) addr
node_of name (KnownReplica other addr) = some_if (same_bytes name other) addr
node_of name _ = None

abbrev pub config_of : List ℕ → StateLine → Option ℕ
config_of name (ConfigEpoch other epoch) = some_if (same_bytes name other) epoch
config_of name _ = None

abbrev pub voted_of : List ℕ → StateLine → Option ℕ
voted_of name (LeaderEpoch other epoch) = some_if (same_bytes name other) epoch
voted_of name _ = None

abbrev pub candidate_of : List ℕ → StateLine → Option RunId
candidate_of name (LeaderId other id) = some_if (same_bytes name other) id
candidate_of name _ = None

abbrev pub epoch_of : StateLine → Option ℕ
epoch_of (CurrentEpoch epoch) = Some epoch
epoch_of (ConfigEpoch name epoch) = Some epoch
epoch_of (LeaderEpoch name epoch) = Some epoch
epoch_of _ = None

abbrev pub known_of : StateLine → Option Member
known_of (KnownSentinel name addr id) = Some (record { id = id; addr = addr })
known_of _ = None

abbrev pub port_of : Setting → Option ℕ
port_of (Port port) = Some port
port_of _ = None

abbrev pub announce_ip_of : Setting → Option ℕ
announce_ip_of (AnnounceIp ip) = Some ip
announce_ip_of _ = None

abbrev pub announce_port_of : Setting → Option ℕ
announce_port_of (AnnouncePort port) = Some port
announce_port_of _ = None

abbrev pub after_of : List ℕ → Setting → Option ℕ
after_of name (DownAfter other ms) = some_if (same_bytes name other) ms
after_of name _ = None

abbrev pub syncs_of : List ℕ → Setting → Option ℕ
syncs_of name (ParallelSyncs other count) = some_if (same_bytes name other) count
syncs_of name _ = None

abbrev pub timeout_of : List ℕ → Setting → Option ℕ
timeout_of name (FailoverTimeout other ms) = some_if (same_bytes name other) ms
timeout_of name _ = None
