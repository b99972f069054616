-- With which words a Sentinel logs in to each node.
use Rattle.std.specs.Prelude.{ℕ, ◌==◌, List, [], ◌∷◌, length, codes, Option, Some, None, slice_get, if◌then◌else◌}
use Rattle.ballot_law.specs.declared.messages.NodeName.{NodeName}
use Rattle.ballot_law.specs.declared.messages.NodeName.TheVariants.{StoreAt}
use Rattle.ballot_law.specs.declared.node_places.NodePlace.{NodePlace}
use Rattle.ballot_law.specs.NodePlaces.{node_numbered}
use Rattle.ballot_law.specs.Rosters.{Roster, MasterPlan}
use Rattle.links.specs.Speaking.{command_bytes}
use Rattle.sentinel_conf.specs.Meaning.{last}
use Rattle.sentinel_conf.specs.Watch.WatchLines.{node_pass_of, node_user_of}
use Rattle.sentinel_conf.specs.declared.watch.settings.WatchSetting.{WatchSetting}

-- the words of a login: an empty password is none, an empty user the default one
pub record Words : Type 0 where
  pub user : List ℕ
  pub pass : List ℕ

-- the login to the nodes of a master, as the lines of a file say it
abbrev pub login_in : List WatchSetting → MasterPlan → Words
login_in settings master = record {
  user = last (node_user_of master.name) [] settings;
  pass = last (node_pass_of master.name) [] settings;
}

-- what is sent for it
abbrev pub sent_as : Words → List ℕ
sent_as words =
    if length words.pass == 0 then [] else if length words.user == 0 then command_bytes (codes "AUTH" ∷ words.pass ∷ [])
    else command_bytes (codes "AUTH" ∷ words.user ∷ words.pass ∷ [])

-- nothing is sent to the nodes of a master without a login
abbrev pub sent_for : Option Words → List ℕ
sent_for None = []
sent_for (Some words) = sent_as words

-- a data node gets the login of its own master
abbrev pub sent_at : List Words → Option NodePlace → List ℕ
sent_at masters None = []
sent_at masters (Some at) = sent_for (slice_get masters at.master)

-- what is sent to a node: by the logins of the masters, in their order, and that of all other Sentinels
abbrev pub sent_to : Roster → (masters : List Words) → (peers : Words) → NodeName → List ℕ
sent_to roster masters peers (StoreAt number) = sent_at masters (node_numbered roster.masters 0 number)
sent_to roster masters peers _ = sent_as peers
