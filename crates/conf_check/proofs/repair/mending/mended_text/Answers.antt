use Rattle.conf_check.proofs.RepairLemmas.Fitting.{part_fits}
use Rattle.conf_check.proofs.repair.mending.mended_text.Goals as goal

pub rewrite_into-requires : goal.rewrite_into-requires
rewrite_into-requires c =
    part_fits c.args.conf.now c.args.newest.now.current c.args.newest.now.cards.items c.kept.result.now c.as_slice.result.now c.deref.result.now c.in_ok-masters.masters.items
    c.from_vec.result c.requires c.kept.ensures.value c.kept.ensures.part c.as_slice.ensures c.deref.ensures.value c.in_ok-masters.ensures c.from_vec.ensures
