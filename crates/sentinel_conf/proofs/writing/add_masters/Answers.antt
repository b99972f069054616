use Rattle.std.proofs.Common.{◌++◌}
use Rattle.sentinel_conf.specs.Fixed.{all_with_fixed}
use Rattle.sentinel_conf.proofs.FixedLemmas.{masters_with}
use Rattle.sentinel_conf.proofs.writing.add_masters.Goals as goal

pub loop-rest-preserved : goal.loop-rest-preserved
loop-rest-preserved c =
    masters_with (c.args.out.now ++ all_with_fixed c.args.masters.now c.args.kept.now c.args.sentinels.now)
    c.loop-rest.out c.add_master.new.out c.loop-rest.rest.now c.loop-rest.held.now c.loop-rest.fixed.now c.master-item.result _ c.lines-item.result c.in-len1-up.len_at_least
    c.master-item.is
    c.in-len1-up-held.len_at_least c.in-len1-up-fixed.len_at_least c.lines-item.is c.add_master.ensures c.loop-rest.invariant
