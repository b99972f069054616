use Rattle.std.proofs.Common.{◌≡◌, ◌++◌, length}
use Rattle.conf_check.specs.Change.Keeping.{own_of}
use Rattle.conf_check.proofs.change.keeping.own_of.Given as goal

abbrev pub invariant-loop-rest : goal.invariant-loop-rest
invariant-loop-rest g l = own_of l.name l.masters l.items ≡ l.list.items ++ own_of l.name l.rest l.others

abbrev pub decreases-loop-rest : goal.decreases-loop-rest
decreases-loop-rest g l = length l.rest
