use Rattle.std.proofs.Common.{◌≡◌, map, length}
use Rattle.conf_check.specs.Repair.Mended.{cards_of, newest_from, last_epoch_from, AreCardsOf, HaveRoster}
use Rattle.conf_check.proofs.repair.mending.newest_of.Given as goal

abbrev pub invariant-loop-rest : goal.invariant-loop-rest
invariant-loop-rest g l = record {
  current : last_epoch_from l.first.kept.current (map g.C.HoldsConf.conf_of l.more) ≡ last_epoch_from l.newest.current (map g.C.HoldsConf.conf_of l.rest);
  cards : newest_from (cards_of l.first) (map g.C.HoldsConf.conf_of l.more) ≡ newest_from l.newest.cards.items (map g.C.HoldsConf.conf_of l.rest);
  fits : AreCardsOf l.newest.current l.newest.cards.items l.first.roster;
  one : HaveRoster l.first.roster (map g.C.HoldsConf.conf_of l.rest) → HaveRoster l.first.roster (map g.C.HoldsConf.conf_of l.more);
  other : HaveRoster l.first.roster (map g.C.HoldsConf.conf_of l.more) → HaveRoster l.first.roster (map g.C.HoldsConf.conf_of l.rest);
}

abbrev pub decreases-loop-rest : goal.decreases-loop-rest
decreases-loop-rest g l = length l.rest
