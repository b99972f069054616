use Rattle.std.proofs.Common.{rules}
use Rattle.fault_world.proofs.Found.{seat_at, start_found, start_none, stays_shown, on_ok_then, on_err_then}
use Rattle.fault_world.proofs.fault_world.FaultWorld.start.Goals as goal

pub returns-in_default-clause-ok : goal.returns-in_default-clause-ok
returns-in_default-clause-ok g c = start_none c.args.self.now.members.items c.args.node c.args.now c.args.self.now.roster _ _ _ c.in_default.ensures.none

pub start-requires : goal.start-requires
start-requires g c = (seat_at c.args.self.now.members.items c.in-Some.k c.index_mut-member.result.now c.args.self.now.roster _ (search rules) c.index_mut-member.ensures.value _ _
    c.requires).1.goes_by

pub returns-clause-ok : goal.returns-clause-ok
returns-clause-ok g c =
    on_ok_then c.start.result (λ starts. start_found c.args.self.now.members.items c.in-Some.k c.index_mut-member.result.now c.start.new.self c.args.node c.args.self.now.roster _
    c.args.now (search rules) c.index_mut-member.ensures.value _ _ c.in-Some.ensures.some c.start.ensures.name starts) c.start.ensures.ok

pub returns-clause-err : goal.returns-clause-err
returns-clause-err g c =
    on_err_then c.start.result (λ stays. stays_shown c.args.self.now.members.items c.in-Some.k c.index_mut-member.result.now c.start.new.self c.args.self.now.roster _
    (search rules) c.index_mut-member.ensures.value _ _ c.start.ensures.name stays) c.start.ensures.err
