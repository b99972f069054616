use Rattle.std.proofs.Common.{◌≡◌, ◌++◌, map, length}
use Rattle.std.specs.List.{AllByRecursion}
use Rattle.sentinel_conf.specs.Rewritten.{rewritten}
use Rattle.conf_check.specs.Repair.Mended.{kept_with, Fits}
use Rattle.conf_check.proofs.repair.mending.texts_of.Given as goal

abbrev pub invariant-loop-rest : goal.invariant-loop-rest
invariant-loop-rest g l = record {
  texts : map (λ file. rewritten (g.C.HoldsConf.conf_of file) (kept_with l.newest.current l.newest.cards.items (g.C.HoldsConf.conf_of file))) l.files
      ≡ l.texts.items
      ++ map (λ file. rewritten (g.C.HoldsConf.conf_of file) (kept_with l.newest.current l.newest.cards.items (g.C.HoldsConf.conf_of file))) l.rest;
  fits : AllByRecursion (λ file. Fits l.newest.current l.newest.cards.items (g.C.HoldsConf.conf_of file)) l.rest;
}

abbrev pub decreases-loop-rest : goal.decreases-loop-rest
decreases-loop-rest g l = length l.rest
