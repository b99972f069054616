use Rattle.std.proofs.Common.{rules}
use Rattle.fault_world.proofs.Found.{inside_group, seat_at, store_found, store_none, won_listed}
use Rattle.fault_world.proofs.fault_world.FaultWorld.store.Goals as goal

pub returns-in_default-clause-ok : goal.returns-in_default-clause-ok
returns-in_default-clause-ok g c = store_none c.args.self.now.members.items c.args.node c.args.how c.args.self.now.roster _ c.args.report.now.entries c.reserve.new.self.entries
    (search rules) _ _ c.in_default.ensures.none

pub store-won-requires : goal.store-won-requires
store-won-requires g c = (seat_at c.args.self.now.members.items c.in-Some.k c.index_mut-member.result.now c.args.self.now.roster _ (search rules) c.index_mut-member.ensures.value
    _ _ c.requires).1.goes_by

pub tell_won-requires-clause-inside : goal.tell_won-requires-clause-inside
tell_won-requires-clause-inside g c =
    inside_group c.args.self.now.members.items c.in-Some.k c.index_mut-member.result.now c.args.node c.args.self.now.roster _ (search rules) c.index_mut-member.ensures.value _ _
    c.requires c.in-Some.ensures.some

pub tell_won-requires-clause-won : goal.tell_won-requires-clause-won
tell_won-requires-clause-won g c =
    won_listed c.args.self.now.members.items c.in-Some.k c.index_mut-member.result.now c.store-won.new.self c.args.how c.args.self.now.roster _ c.store-won.result (search rules)
    c.index_mut-member.ensures.value _ _ c.requires c.store-won.ensures.stores

pub returns-clause-ok : goal.returns-clause-ok
returns-clause-ok g c =
    store_found c.args.self.now.members.items c.in-Some.k c.index_mut-member.result.now c.store-won.new.self c.args.node c.args.how c.args.self.now.roster _ c.store-won.result
    c.args.report.now.entries c.tell_won.new.report.entries (search rules) c.index_mut-member.ensures.value (search rules) _ _ c.in-Some.ensures.some c.store-won.ensures.name
    c.store-won.ensures.stores
