-- Files of a Sentinel, of before and after a change, with which it may begin while the others run.
use Rattle.std.specs.Prelude.{◌≡◌, map}
use Rattle.std.specs.List.{AllZip}
use Rattle.ballot_law.specs.declared.cards.Kept.{Kept}
use Rattle.ballot_law.specs.Rosters.{Roster, MasterPlan}
use Rattle.conf_check.specs.Repair.Mended.{card_of}

abbrev pub IsSameMaster : MasterPlan → MasterPlan → Type 0
IsSameMaster one other = (one.name ≡ other.name) × (one.quorum ≡ other.quorum)

-- the same Sentinels and masters in the same order; of the data nodes nothing is asked
abbrev pub AreSameButForNodes : Roster → Roster → Type 0
AreSameButForNodes one other = (one.sentinels ≡ other.sentinels) × AllZip IsSameMaster one.masters other.masters

-- the same current epoch, and the same configuration of each master
abbrev pub HoldTheSame : Kept → Kept → Type 0
HoldTheSame one other = (one.current ≡ other.current) × (map card_of one.masters ≡ map card_of other.masters)
