use Rattle.std.proofs.Common.{◌≡◌, ◌≤◌, ◌+◌, length, ap, sym, subst, ◌∙◌, arith}
use Rattle.sentinel_conf.specs.Facts.{IsSoundConf}
use Rattle.ballot_law.specs.NodePlaces.{first_number}
use Rattle.sentinel_rules.specs.Plans.{Plan, nodes_of}
use Rattle.sentinel_state.proofs.NodesLemmas.NodeNumbers.{first_number_zero, first_number_more, first_number_small}
use Rattle.sentinel_state.proofs.nodes.plans.Plan.first_number.Goals as goal

pub loop-before-init : goal.loop-before-init
loop-before-init c = sym (first_number_zero c.args.self.now.conf.roster.masters)

pub overflow_add-number : goal.overflow_add-number
overflow_add-number c =
    let masters = c.args.self.now.conf.roster.masters in
    let before = c.loop-before.before in
    let sound = subst (λ (plan : Plan). IsSoundConf plan.conf) c.self.view_is c.self.invariant.0 in
    let small : first_number masters (before + 1) ≤ 4096 = first_number_small c.args.self.now.conf (before + 1) sound in
    let more : first_number masters (before + 1) ≡ first_number masters before + length (nodes_of c.args.self.now before) = first_number_more masters before in
    let number : c.loop-before.number ≡ first_number masters before = c.loop-before.invariant in
    let count : length c.nodes.result.now ≡ length (nodes_of c.args.self.now before) = ap length c.nodes.ensures.value in
    omega arith

pub loop-before-preserved : goal.loop-before-preserved
loop-before-preserved c =
    let masters = c.args.self.now.conf.roster.masters in
    let before = c.loop-before.before in
    ap (λ n. n + length c.nodes.result.now) c.loop-before.invariant
    ∙ ap (λ nodes. first_number masters before + length nodes) c.nodes.ensures.value
    ∙ sym (first_number_more masters before)

pub returns-clause-few : goal.returns-clause-few
returns-clause-few c =
    let masters = c.args.self.now.conf.roster.masters in
    let before = c.loop-before.before in
    let sound = subst (λ (plan : Plan). IsSoundConf plan.conf) c.self.view_is c.self.invariant.0 in
    let small : first_number masters before ≤ 4096 = first_number_small c.args.self.now.conf before sound in
    let number : c.loop-before.number ≡ first_number masters before = c.loop-before.invariant in
    omega arith
