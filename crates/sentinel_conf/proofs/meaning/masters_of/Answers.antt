use Rattle.std.proofs.Common.{◌∷◌, [], ◌++◌, ap, ◌∙◌}
use Rattle.sentinel_conf.specs.Meaning.{master_of}
use Rattle.sentinel_conf.proofs.ListSteps.{map_more}
use Rattle.sentinel_conf.proofs.meaning.masters_of.Goals as goal

pub loop-rest-preserved : goal.loop-rest-preserved
loop-rest-preserved c =
    map_more (master_of c.args.states.now) _ c.loop-rest.masters.items c.loop-rest.rest.now c.name-item.result c.push.new.self.items c.in-len1-up.len_at_least
    c.name-item.is (c.in_ok-push.ensures.items ∙ ap (λ t. c.loop-rest.masters.items ++ t ∷ []) c.in_ok-master_of.ensures) c.loop-rest.invariant
