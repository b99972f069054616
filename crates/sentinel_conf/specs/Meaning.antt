-- What the lines of a file say, as folds over them.
use Rattle.std.specs.Prelude.{ℕ, max, Bool, true, false, ◌||◌, ◌&&◌, ◌==◌, if◌then◌else◌, List, [], ◌∷◌, map, Option, Some, None, unwrap_or, fold}
use Rattle.std.specs.List.{filter_map}
use Rattle.ballot_law.specs.declared.addresses.Addr.{Addr}
use Rattle.ballot_law.specs.declared.addresses.RunId.{RunId}
use Rattle.ballot_law.specs.declared.rosters.Member.{Member}
use Rattle.ballot_law.specs.Ordered.{in_order}
use Rattle.ballot_law.specs.Rosters.{Roster, MasterPlan}
use Rattle.ballot_law.specs.Orders.{same_id, addr_before, id_before, bytes_before}
use Rattle.ballot_law.specs.declared.cards.KeptMaster.{KeptMaster}
use Rattle.ballot_law.specs.declared.cards.Kept.{Kept}
use Rattle.ballot_law.specs.Rosters.{no_addr}
use Rattle.sentinel_conf.specs.declared.settings.Settings.{Settings}
use Rattle.sentinel_conf.specs.declared.settings.TheConstants.{DEFAULT_SETTINGS}
use Rattle.sentinel_conf.specs.declared.meaning.TheConstants.{DEFAULT_PORT, DEFAULT_IP}
use Rattle.conf_lines.specs.declared.lines.StateLine.{StateLine}
use Rattle.conf_lines.specs.declared.lines.Setting.{Setting}
use Rattle.conf_lines.specs.Values.{name_of, quorum_of, monitored_at, node_of, config_of, voted_of, candidate_of, epoch_of, known_of, port_of, announce_ip_of, announce_port_of, after_of, syncs_of, timeout_of}
use Rattle.conf_lines.specs.declared.lines.Line.{Line}
use Rattle.conf_lines.specs.declared.lines.Line.TheVariants as line

pub record ConfPlan : Type 0 where
  pub kept_lines : List (List ℕ)
  pub roster : Roster
  pub id : RunId
  pub port : ℕ
  pub settings : List Settings
  pub kept : Kept

abbrev pub state_of : Line → Option StateLine
state_of (line.State state) = Some state
state_of _ = None

abbrev pub setting_of : Line → Option Setting
setting_of (line.Setting setting) = Some setting
setting_of _ = None

abbrev pub states : List Line → List StateLine
states lines = filter_map state_of lines

abbrev pub settings : List Line → List Setting
settings lines = filter_map setting_of lines

-- the first that the function gives, or none
abbrev pub first_given : {X Y : Type 0} → (X → Option Y) → List X → Option Y
first_given h [] = None
first_given {X} {Y} h (x ∷ xs) = elim (h x) as (λ _. Option Y) [ Some y ↦ Some y | None ↦ first_given h xs ]

-- the last that the function gives, or else this
abbrev pub last : {X Y : Type 0} → (X → Option Y) → Y → List X → Y
last h otherwise xs = fold (λ found x. unwrap_or (h x) found) otherwise xs

-- the order of Sentinels: by run id, then by address
abbrev pub member_before : Member → Member → Bool
member_before a b = id_before a.id b.id || (same_id a.id b.id && addr_before a.addr b.addr)

abbrev pub names_of : List StateLine → List (List ℕ)
names_of states = in_order bytes_before (filter_map name_of states)

-- a master's nodes are the monitored address and the known replicas
abbrev pub master_of : List StateLine → List ℕ → MasterPlan
master_of states name = record {
  name = name;
  nodes = in_order addr_before (filter_map (node_of name) states);
  quorum = last (quorum_of name) 0 states;
}

-- the candidate of the vote in this epoch, where a line names one; no vote is given in epoch 0
abbrev pub candidate_at : ℕ → Option RunId → Option RunId
candidate_at voted named = if voted == 0 then None else named

abbrev pub kept_master_of : List StateLine → List ℕ → KeptMaster
kept_master_of states name = record {
  card = record { epoch = last (config_of name) 0 states; addr = last (monitored_at name) no_addr states };
  voted = last (voted_of name) 0 states;
  candidate = candidate_at (last (voted_of name) 0 states) (first_given (candidate_of name) states);
}

abbrev pub members_of : Member → List StateLine → List Member
members_of own states = in_order member_before (own ∷ filter_map known_of states)

abbrev pub greatest : List ℕ → ℕ
greatest [] = 0
greatest (n ∷ ns) = max n (greatest ns)

abbrev pub kept_of : List StateLine → Kept
kept_of states = record { current = greatest (filter_map epoch_of states); masters = map (kept_master_of states) (names_of states) }

abbrev pub own_port : List Setting → ℕ
own_port settings = last port_of DEFAULT_PORT settings

abbrev pub own_addr : List Setting → Addr
own_addr settings = record {
  ip = last announce_ip_of DEFAULT_IP settings;
  port = last announce_port_of (own_port settings) settings;
}

abbrev pub settings_of : List Setting → List ℕ → Settings
settings_of settings name = record {
  after_ms = last (after_of name) DEFAULT_SETTINGS.after_ms settings;
  parallel_syncs = last (syncs_of name) DEFAULT_SETTINGS.parallel_syncs settings;
  timeout = last (timeout_of name) DEFAULT_SETTINGS.timeout settings;
}

abbrev pub plan_of : Member → List StateLine → Roster
plan_of own states = record { sentinels = members_of own states; masters = map (master_of states) (names_of states) }

-- the lines that are kept as they are
abbrev pub is_kept : Line → Bool
is_kept (line.State state) = false
is_kept _ = true

-- the conf of these lines, read so, where this is the own run id
abbrev pub conf_of : List (List ℕ) → List StateLine → List Setting → RunId → ConfPlan
conf_of kept_lines states settings id = record {
  kept_lines = kept_lines;
  roster = plan_of (record { id = id; addr = own_addr settings }) states;
  id = id;
  port = own_port settings;
  settings = map (settings_of settings) (names_of states);
  kept = kept_of states;
}
