-- When texts are the files of one group.
use Rattle.std.specs.Prelude.{ℕ, List, [], ◌∷◌, Option, Some, None, Result, Ok, Err}
use Rattle.conf_check.specs.Group.Groups.{IsOneGroup}
use Rattle.sentinel_conf.specs.Meaning.{ConfPlan}
use Rattle.sentinel_conf.specs.Reading.{conf_of_bytes}

-- the first file and the others, where all of them can be read
abbrev pub joined : {F : Type 0} → Result ConfPlan F → Option (List ConfPlan) → Option (List ConfPlan)
joined (Ok conf) (Some confs) = Some (conf ∷ confs)
joined (Ok conf) None = None
joined (Err fault) confs = None

-- what these texts say as files, where each can be read
abbrev pub confs_of : List (List ℕ) → Option (List ConfPlan)
confs_of [] = Some []
confs_of (text ∷ texts) = joined (conf_of_bytes text) (confs_of texts)

abbrev pub AreOneGroup : Option (List ConfPlan) → Type 0
AreOneGroup None = ⊥
AreOneGroup (Some confs) = IsOneGroup (λ conf. conf) confs

-- each is read, and what they say is one group
abbrev pub AreFilesOfOneGroup : List (List ℕ) → Type 0
AreFilesOfOneGroup texts = AreOneGroup (confs_of texts)
