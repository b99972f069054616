use Rattle.std.proofs.Common.{subst}
use Rattle.sentinel_conf.specs.Facts.{IsSoundConf}
use Rattle.sentinel_rules.specs.Plans.{Plan, roster_of}
use Rattle.sentinel_state.proofs.NodesLemmas.MasterNames.{found_named}
use Rattle.sentinel_state.proofs.nodes.plans.Plan.master_named.Goals as goal

pub returns-clause-value : goal.returns-clause-value
returns-clause-value c =
    let sound = subst (λ (plan : Plan). IsSoundConf plan.conf) c.self.view_is c.self.invariant.0 in
    found_named (roster_of c.args.self.now) c.roster.result.now c.args.name.now c.master_named.result c.roster.ensures sound.names
    c.master_named.ensures.some c.master_named.ensures.none
