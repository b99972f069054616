-- What the new files of a changed group keep of those of before.
use Rattle.std.specs.Prelude.{◌≡◌, ⊤, ℕ, ◌≤◌, ◌<◌, ◌==◌, true, false, if◌then◌else◌, List, [], ◌∷◌, length, map, All, slice_index_or, Option, Some, None}
use Rattle.std.specs.List.{list_any}
use Rattle.ballot_law.specs.Ballots.{no_kept}
use Rattle.ballot_law.specs.Orders.{same_id, same_bytes}
use Rattle.ballot_law.specs.declared.addresses.RunId.{RunId}
use Rattle.ballot_law.specs.declared.cards.KeptMaster.{KeptMaster}
use Rattle.ballot_law.specs.declared.rosters.Member.{Member}
use Rattle.ballot_law.specs.Rosters.{MasterPlan, no_addr}
use Rattle.ballot_law.specs.declared.addresses.Addr.{Addr}
use Rattle.sentinel_conf.specs.Meaning.{ConfPlan}
use Rattle.conf_check.specs.declared.change.changes.Change.{Change}
use Rattle.conf_check.specs.declared.change.changes.Change.TheVariants.{AddMaster, RemoveMaster, RemoveSentinel, ReplaceHost}
use Rattle.conf_check.specs.Repair.GroupTexts.{confs_of}
use Rattle.conf_check.specs.Repair.Mended.{vote_of, card_of, newest, last_epoch}

-- of a list with one of each master those of the masters with other names
abbrev pub others_of : {X : Type 0} → (name : List ℕ) → List MasterPlan → List X → List X
others_of name [] items = []
others_of name (master ∷ masters) [] = []
others_of name (master ∷ masters) (item ∷ items) = if same_bytes name master.name then others_of name masters items else item ∷ others_of name masters items

-- and that of the master of this name
abbrev pub own_of : {X : Type 0} → (name : List ℕ) → List MasterPlan → List X → List X
own_of name [] items = []
own_of name (master ∷ masters) [] = []
own_of name (master ∷ masters) (item ∷ items) = if same_bytes name master.name then item ∷ own_of name masters items else own_of name masters items

-- those of the masters that neither come nor go
abbrev pub staying : {X : Type 0} → Change → List MasterPlan → List X → List X
staying (AddMaster new) masters items = others_of new.name masters items
staying (RemoveMaster name) masters items = others_of name masters items
staying _ masters items = items

-- that of the master that comes
abbrev pub coming : {X : Type 0} → Change → List MasterPlan → List X → List X
coming (AddMaster new) masters items = own_of new.name masters items
coming _ masters items = []

-- what a file keeps of the masters that stay, and of the one that comes
abbrev pub kept_staying : Change → ConfPlan → List KeptMaster
kept_staying change conf = staying change conf.roster.masters conf.kept.masters

abbrev pub kept_coming : Change → ConfPlan → List KeptMaster
kept_coming change conf = coming change conf.roster.masters conf.kept.masters

abbrev pub first_node : List Addr → Addr
first_node [] = no_addr
first_node (addr ∷ addrs) = addr

-- a master that comes is where it is said to be, since epoch 0, and nobody has voted for it
abbrev pub begun : Change → List KeptMaster
begun (AddMaster new) = record { card = record { addr = first_node new.nodes.items; epoch = 0 }; voted = 0; candidate = None } ∷ []
begun _ = []

-- the masters of the first of these files
abbrev pub masters_of : List ConfPlan → List MasterPlan
masters_of [] = []
masters_of (file ∷ files) = file.roster.masters

-- no Sentinel of its roster has this run id
abbrev pub NamesNot : RunId → ConfPlan → Type 0
NamesNot id conf = list_any (λ (member : Member). same_id id member.id) conf.roster.sentinels ≡ false

-- no Sentinel and no data node of its roster is at this ip
pub record IsClearOf (ip : ℕ) (conf : ConfPlan) : Type 0 where
  pub sentinels : list_any (λ (member : Member). member.addr.ip == ip) conf.roster.sentinels ≡ false
  pub nodes : list_any (λ (master : MasterPlan). list_any (λ addr. addr.ip == ip) master.nodes) conf.roster.masters ≡ false

-- the second have the votes of the first: of each master the epoch and the candidate
pub record HaveSameVotes (was is : List KeptMaster) : Type 0 where
  pub count : length was ≡ length is
  pub each : (m : ℕ) → m < length was → vote_of (slice_index_or was m no_kept) ≡ vote_of (slice_index_or is m no_kept)

-- no vote was given
abbrev pub HaveNoVotes : List KeptMaster → Type 0
HaveNoVotes masters = (m : ℕ) → m < length masters → vote_of (slice_index_or masters m no_kept) ≡ (0, None)

-- its Sentinel has the votes of its file of before. One without such a file gave no vote, and no file of before names it
pub record KeepsVotes {X : Type 0} (conf_of : X → ConfPlan) (files : List X) (change : Change) (new : ConfPlan) : Type 0 where
  pub own : All (λ file. same_id (conf_of file).id new.id ≡ true → HaveSameVotes (kept_staying change (conf_of file)) (kept_staying change new)) files
  pub unknown : list_any (λ file. same_id (conf_of file).id new.id) files ≡ false → All (λ file. NamesNot new.id (conf_of file)) files
  pub none : list_any (λ file. same_id (conf_of file).id new.id) files ≡ false → HaveNoVotes new.kept.masters

-- no configuration of the second is of an earlier epoch than that of the first
pub record AreNotBelow (was is : List KeptMaster) : Type 0 where
  pub count : length was ≡ length is
  pub each : (m : ℕ) → m < length was → (slice_index_or was m no_kept).card.epoch ≤ (slice_index_or is m no_kept).card.epoch

-- no epoch of the second is below that of the first
pub record IsNotBelow (change : Change) (was is : ConfPlan) : Type 0 where
  pub current : was.kept.current ≤ is.kept.current
  pub masters : AreNotBelow (kept_staying change was) (kept_staying change is)

-- it holds the newest configuration of each master of these files that stays, and the greatest current epoch
pub record HasNewest (files : List ConfPlan) (change : Change) (new : ConfPlan) : Type 0 where
  pub current : new.kept.current ≡ last_epoch files
  pub cards : map card_of (kept_staying change new) ≡ staying change (masters_of files) (newest files)

-- it names nobody who goes by the change
abbrev pub LeavesOut : Change → ConfPlan → Type 0
LeavesOut (RemoveSentinel id) new = NamesNot id new
LeavesOut (ReplaceHost host) new = IsClearOf host.old new
LeavesOut _ new = ⊤

pub record Keeps {X : Type 0} (conf_of : X → ConfPlan) (files : List X) (change : Change) (new : ConfPlan) : Type 0 where
  pub votes : KeepsVotes conf_of files change new
  pub epochs : All (λ file. IsNotBelow change (conf_of file) new) files
  pub newest : HasNewest (map conf_of files) change new
  pub begins : kept_coming change new ≡ begun change
  pub out : LeavesOut change new

-- each of these files is such
abbrev pub AllAre : (ConfPlan → Type 0) → Option (List ConfPlan) → Type 0
AllAre P None = ⊥
AllAre P (Some confs) = All P confs

-- each of these texts is read, and what it says is such
abbrev pub AllSay : (ConfPlan → Type 0) → List (List ℕ) → Type 0
AllSay P texts = AllAre P (confs_of texts)
