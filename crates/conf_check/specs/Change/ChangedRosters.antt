-- The roster of a group once it is changed.
use Rattle.std.specs.Prelude.{◌≡◌, ℕ, ◌==◌, not, if◌then◌else◌, List, [], ◌∷◌, ◌++◌, map, filter}
use Rattle.ballot_law.specs.declared.addresses.Addr.{Addr}
use Rattle.ballot_law.specs.declared.rosters.Member.{Member}
use Rattle.ballot_law.specs.Orders.{same_addr, same_bytes, same_id}
use Rattle.ballot_law.specs.Rosters.{Roster, MasterPlan, ordered}
use Rattle.sentinel_conf.specs.Meaning.{ConfPlan}
use Rattle.conf_check.specs.declared.change.changes.Replacement.{Replacement}
use Rattle.conf_check.specs.declared.change.changes.MasterSetting.{MasterSetting}
use Rattle.conf_check.specs.declared.change.changes.MasterSetting.TheVariants.{Quorum}
use Rattle.conf_check.specs.declared.change.changes.Change.{Change}
use Rattle.conf_check.specs.declared.creation.texts.NewMaster.{NewMaster}
use Rattle.conf_check.specs.declared.change.changes.Change.TheVariants.{AddMaster, RemoveMaster, AddReplica, RemoveReplica, AddSentinel, RemoveSentinel, ReplaceHost, Set}

-- an address of the host that goes is one of the host that comes, at its port
abbrev pub moved : Replacement → Addr → Addr
moved host addr = if addr.ip == host.old then record { ip = host.new; port = addr.port } else addr

-- and its Sentinel is another one
abbrev pub replaced : Replacement → Member → Member
replaced host member = if member.addr.ip == host.old then record { id = host.id; addr = record { ip = host.new; port = member.addr.port } } else member

abbrev pub changed_sentinels : Change → List Member → List Member
changed_sentinels (AddSentinel member) members = members ++ member ∷ []
changed_sentinels (RemoveSentinel id) members = filter (λ member. not (same_id id member.id)) members
changed_sentinels (ReplaceHost host) members = map (replaced host) members
changed_sentinels _ members = members

-- the data nodes of the master of this name
abbrev pub changed_nodes : Change → (name : List ℕ) → List Addr → List Addr
changed_nodes (AddReplica replica) name nodes = if same_bytes replica.master name then nodes ++ replica.addr ∷ [] else nodes
changed_nodes (RemoveReplica replica) name nodes = if same_bytes replica.master name then filter (λ addr. not (same_addr replica.addr addr)) nodes else nodes
changed_nodes (ReplaceHost host) name nodes = map (moved host) nodes
changed_nodes _ name nodes = nodes

-- what the setting says of a quorum
abbrev pub quorum_by : MasterSetting → (value quorum : ℕ) → ℕ
quorum_by Quorum value quorum = value
quorum_by _ value quorum = quorum

abbrev pub changed_quorum : Change → (name : List ℕ) → ℕ → ℕ
changed_quorum (Set new) name quorum = if same_bytes new.master name then quorum_by new.setting new.value quorum else quorum
changed_quorum _ name quorum = quorum

abbrev pub changed_master : Change → MasterPlan → MasterPlan
changed_master change master = record {
  name = master.name;
  nodes = changed_nodes change master.name master.nodes;
  quorum = changed_quorum change master.name master.quorum;
}

-- a master that is new
abbrev pub plan_of : NewMaster → MasterPlan
plan_of new = record { name = new.name; nodes = new.nodes.items; quorum = new.quorum }

abbrev pub changed_masters : Change → List MasterPlan → List MasterPlan
changed_masters (AddMaster new) masters = map (changed_master (AddMaster new)) masters ++ plan_of new ∷ []
changed_masters (RemoveMaster name) masters = filter (λ master. not (same_bytes name master.name)) masters
changed_masters change masters = map (changed_master change) masters

abbrev pub changed_roster : Change → Roster → Roster
changed_roster change roster = ordered (record {
  sentinels = changed_sentinels change roster.sentinels;
  masters = changed_masters change roster.masters;
})

-- this is the roster of the first of these files, once it is changed so
abbrev pub IsChangedRoster : {X : Type 0} → (X → ConfPlan) → List X → Change → Roster → Type 0
IsChangedRoster conf_of [] change roster = ⊥
IsChangedRoster conf_of (first ∷ files) change roster = roster ≡ changed_roster change (conf_of first).roster

-- the file names that roster
abbrev pub HasChangedRoster : {X : Type 0} → (X → ConfPlan) → List X → Change → ConfPlan → Type 0
HasChangedRoster conf_of files change new = IsChangedRoster conf_of files change new.roster
