use Rattle.conf_check.proofs.RepairLemmas.Fitting.{of_fits}
use Rattle.conf_check.proofs.repair.mending.Newest.of.Goals as goal

pub returns-clause-fits : goal.returns-clause-fits
returns-clause-fits c =
    of_fits c.args.conf.now c.kept-kept.result.now c.as_slice.result.now c.in_ok-cards_of.field-0.items c.kept-kept.ensures.value c.kept-kept.ensures.part
    c.as_slice.ensures c.in_ok-cards_of.ensures
