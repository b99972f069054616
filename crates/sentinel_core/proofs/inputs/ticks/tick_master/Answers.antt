use Rattle.ballot_law.specs.Clocks.{clock}
use Rattle.sentinel_rules.specs.Parts.{Part, then_part}
use Rattle.sentinel_rules.specs.Plans.{Plan}
use Rattle.sentinel_rules.specs.States.{Core}
use Rattle.sentinel_rules.specs.Ticks.{peers_part, nodes_part, judging_part}
use Rattle.sentinel_core.proofs.InputsLemmas.PartSteps.{then_parts}
use Rattle.sentinel_core.proofs.inputs.ticks.tick_master.Goals as goal

pub returns : goal.returns
returns c =
    let old = c.args.state.now in
    let m = c.args.m in
    let now = clock c.args.now in
    let first : Part = peers_part old.plan m now old.core in
    then_parts old c.send_nodes.new.self c.judge_master.new.state (then_part first (nodes_part old.plan m now)) (λ (plan : Plan) (core : Core). judging_part plan m now core)
    (then_parts old c.send_peers.new.self c.send_nodes.new.self first (λ (plan : Plan) (core : Core). nodes_part plan m now core) c.send_peers.ensures c.send_nodes.ensures)
    c.judge_master.ensures
