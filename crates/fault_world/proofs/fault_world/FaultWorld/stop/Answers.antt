use Rattle.std.proofs.Common.{rules}
use Rattle.fault_world.proofs.Found.{seat_at, stop_found, stop_none}
use Rattle.fault_world.proofs.fault_world.FaultWorld.stop.Goals as goal

pub returns-in_default-clause-ok : goal.returns-in_default-clause-ok
returns-in_default-clause-ok g c = stop_none c.args.self.now.members.items c.args.node c.args.left c.args.self.now.roster _ _ _ c.in_default.ensures.none

pub stop-requires : goal.stop-requires
stop-requires g c = (seat_at c.args.self.now.members.items c.in-Some.k c.index_mut-member.result.now c.args.self.now.roster _ (search rules) c.index_mut-member.ensures.value _ _
    c.requires).1.goes_by

pub returns-clause-ok : goal.returns-clause-ok
returns-clause-ok g c = stop_found c.args.self.now.members.items c.in-Some.k c.index_mut-member.result.now c.stop.new.self c.args.node c.args.self.now.roster _ c.args.left
    (search rules) c.index_mut-member.ensures.value _ _ c.in-Some.ensures.some c.stop.ensures.name c.stop.ensures.stops
