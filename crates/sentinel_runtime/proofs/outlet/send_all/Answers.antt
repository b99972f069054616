use Rattle.std.proofs.Common.{arith}
use Rattle.sentinel_runtime.proofs.Handing.{handed_send, handed_tell}
use Rattle.sentinel_runtime.proofs.outlet.send_all.Goals as goal
use Rattle.sentinel_runtime.proofs.outlet.send_all.Goals.{in-Send, in-Tell}

pub loop-output-preserved : goal.loop-output-preserved
loop-output-preserved g c =
    let outputs = c.args.outputs.now in
    let i = c.loop-output.output-index in
    elim c.match-output.branch [
      | in-Send w ↦ rw w.outlet-is (handed_send _ _ _ outputs i _ _ (omega arith) c.output-item.is w.in-Send.is c.loop-output.invariant w.send.ensures.handed)
      | in-Tell w ↦ rw w.outlet-is (handed_tell _ _ outputs i _ _ (omega arith) c.output-item.is w.in-Tell.is c.loop-output.invariant)
    ]
