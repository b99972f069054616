use Rattle.std.proofs.Common.{ap, sym, ◌∙◌}
use Rattle.sentinel_conf.specs.Reading.{conf_of_bytes}
use Rattle.conf_check.proofs.RepairLemmas.ReadSoFar.{one_more}
use Rattle.conf_check.proofs.repair.groups.read_all.Goals as goal

pub loop-rest-preserved : goal.loop-rest-preserved
loop-rest-preserved c =
    one_more _ c.loop-rest.confs.items c.loop-rest.rest.now c.text-item.result c.in-Ok.conf c.push.new.self.items c.in-len1-up.len_at_least c.text-item.is
    (ap conf_of_bytes (sym c.as_slice.ensures) ∙ c.in-Ok.ensures) c.in_ok-push-in-Ok.ensures.items c.loop-rest.invariant
