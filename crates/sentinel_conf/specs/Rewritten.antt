-- The rewritten file of a conf and a kept part.
use Rattle.std.specs.Prelude.{ℕ, ◌≡◌, ◌≤◌, not, List, [], ◌∷◌, ◌++◌, map, filter, Contains, Option, Some, None, IfSome}
use Rattle.std.specs.List.{flat_map, zip, AllZip, AllByRecursion}
use Rattle.ballot_law.specs.declared.addresses.Addr.{Addr}
use Rattle.ballot_law.specs.declared.addresses.RunId.{RunId}
use Rattle.ballot_law.specs.declared.rosters.Member.{Member}
use Rattle.ballot_law.specs.Hellos.{IsRunId}
use Rattle.ballot_law.specs.Rosters.{MasterPlan, no_id}
use Rattle.ballot_law.specs.Orders.{same_id, same_addr}
use Rattle.ballot_law.specs.declared.cards.KeptMaster.{KeptMaster}
use Rattle.conf_lines.specs.declared.lines.StateLine.{StateLine}
use Rattle.conf_lines.specs.declared.lines.StateLine.TheVariants.{MyId, CurrentEpoch, Monitor, ConfigEpoch, LeaderEpoch, LeaderId, KnownReplica, KnownSentinel}
use Rattle.conf_lines.specs.Words.{ended}
use Rattle.conf_lines.specs.Lines.{spelled}
use Rattle.ballot_law.specs.declared.cards.TheConstants.{MAX_EPOCH}
use Rattle.sentinel_conf.specs.Meaning.{ConfPlan}
use Rattle.ballot_law.specs.declared.cards.Kept.{Kept}

abbrev pub others : ConfPlan → List Member
others conf = filter (λ member. not (same_id conf.id member.id)) conf.roster.sentinels

abbrev pub replicas : MasterPlan → KeptMaster → List Addr
replicas master kept = filter (λ addr. not (same_addr kept.card.addr addr)) master.nodes

abbrev pub replica_states : List ℕ → Addr → List Addr → List StateLine
replica_states name at nodes = map (KnownReplica name) (filter (λ addr. not (same_addr at addr)) nodes)

abbrev pub sentinel_states : List ℕ → RunId → List Member → List StateLine
sentinel_states name id members = map (λ member. KnownSentinel name member.addr member.id) (filter (λ member. not (same_id id member.id)) members)

-- the line of the candidate of the last vote, where there is one
abbrev pub candidate_states : List ℕ → Option RunId → List StateLine
candidate_states name None = []
candidate_states name (Some id) = LeaderId name id ∷ []

-- the state lines of one master, but for the Sentinel with this run id
abbrev pub master_lines : RunId → List Member → MasterPlan × KeptMaster → List StateLine
master_lines id members (master, kept) =
    Monitor master.name kept.card.addr master.quorum
    ∷ ConfigEpoch master.name kept.card.epoch
    ∷ LeaderEpoch master.name kept.voted
    ∷ (candidate_states master.name kept.candidate ++ (replica_states master.name kept.card.addr master.nodes ++ sentinel_states master.name id members))

abbrev pub master_states : ConfPlan → MasterPlan × KeptMaster → List StateLine
master_states conf = master_lines conf.id conf.roster.sentinels

abbrev pub state_lines : ConfPlan → Kept → List StateLine
state_lines conf kept = MyId conf.id ∷ CurrentEpoch kept.current ∷ flat_map (master_states conf) (zip conf.roster.masters kept.masters)

-- the lines of the rewritten file: those that are kept, then those of the state
abbrev pub rewritten_lines : ConfPlan → Kept → List (List ℕ)
rewritten_lines conf kept = conf.kept_lines ++ map spelled (state_lines conf kept)

-- the state lines as text
abbrev pub text_of : List StateLine → List ℕ
text_of states = flat_map ended (map spelled states)

abbrev pub rewritten : ConfPlan → Kept → List ℕ
rewritten conf kept = flat_map ended (rewritten_lines conf kept)

abbrev pub at_last_epoch : KeptMaster → KeptMaster
at_last_epoch kept = record { card = record { epoch = MAX_EPOCH; addr = kept.card.addr }; voted = MAX_EPOCH; candidate = Some no_id }

-- the kept part with every epoch the last one, which has the most digits, and a candidate for each master; every run id has as
-- many digits
abbrev pub longest : Kept → Kept
longest kept = record { current = MAX_EPOCH; masters = map at_last_epoch kept.masters }

pub record IsKeptMaster (current : ℕ) (master : MasterPlan) (kept : KeptMaster) : Type 0 where
  pub addr : Contains master.nodes kept.card.addr
  pub epoch : kept.card.epoch ≤ current
  pub voted : kept.voted ≤ current
  pub candidate : kept.voted ≡ 0 → kept.candidate ≡ None

-- each candidate is a run id of 40 digits, as every value of its type is
abbrev pub HasRunIds : Kept → Type 0
HasRunIds kept = AllByRecursion (λ (master : KeptMaster). IfSome master.candidate IsRunId) kept.masters

-- a kept part of this conf's masters
pub record IsKeptPart (conf : ConfPlan) (kept : Kept) : Type 0 where
  pub current : kept.current ≤ MAX_EPOCH
  pub masters : AllZip (IsKeptMaster kept.current) conf.roster.masters kept.masters
