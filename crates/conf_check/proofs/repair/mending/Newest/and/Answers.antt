use Rattle.conf_check.proofs.RepairLemmas.Fitting.{and_fits}
use Rattle.conf_check.proofs.repair.mending.Newest.and.Goals as goal

pub returns-clause-fits : goal.returns-clause-fits
returns-clause-fits c =
    and_fits c.args.conf.now c.args.self.current c.args.self.cards.items c.kept-kept.result.now c.max.result c.deref.result.now c.as_slice.result.now
    c.in_ok-newer_each.field-0.items c.requires c.kept-kept.ensures.value c.kept-kept.ensures.part c.max.ensures c.deref.ensures.value c.as_slice.ensures
    c.in_ok-newer_each.ensures
