-- Of what a group is made.
use Rattle.std.specs.Prelude.{◌≡◌, List, length}
use Rattle.sentinel_conf.specs.Meaning.{ConfPlan}
use Rattle.conf_check.specs.Group.Groups.{IsOneGroup}

-- the confs are those of one group, as `check` finds them, and each has a store
abbrev pub AreOneGroup : {S : Type 0} → List ConfPlan → List S → Type 0
AreOneGroup confs stores = (length stores ≡ length confs) × IsOneGroup (λ conf. conf) confs
