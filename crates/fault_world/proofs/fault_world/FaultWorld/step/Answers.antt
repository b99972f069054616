use Rattle.fault_world.proofs.Found.{left_step}
use Rattle.fault_world.proofs.fault_world.FaultWorld.step.Goals as goal

pub returns-in-StoreRefused-clause-ok : goal.returns-in-StoreRefused-clause-ok
returns-in-StoreRefused-clause-ok g c = left_step c.args.step.now c.store-in-StoreRefused.result _ _ _ _ _ c.how_left.result c.how_left.ensures c.in-StoreRefused.is
    c.store-in-StoreRefused.ensures.ok
