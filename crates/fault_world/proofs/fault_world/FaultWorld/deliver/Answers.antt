use Rattle.std.proofs.Common.{rules}
use Rattle.fault_world.proofs.Found.{deliver_found, deliver_none, deliver_nothing, deliver_unfit, on_err_then, on_ok_then, seat_at, sendable_at, stays_shown}
use Rattle.fault_world.proofs.Lists.{slice_get_past}
use Rattle.fault_world.proofs.Searching.{read_at}
use Rattle.fault_world.proofs.Takeable.{none_said, takeable_of}
use Rattle.fault_world.proofs.fault_world.FaultWorld.deliver.Goals as goal

pub returns-then-len-place-clause-ok : goal.returns-then-len-place-clause-ok
returns-then-len-place-clause-ok g c = deliver_nothing c.args.self.now.members.items c.args.self.now.roster c.args.self.now.messages.items c.args.number c.args.now
    (slice_get_past c.args.self.now.messages.items c.args.number (search rules)) _ _

pub returns-in_default-clause-ok : goal.returns-in_default-clause-ok
returns-in_default-clause-ok g c =
    deliver_unfit c.args.self.now.members.items c.args.self.now.roster c.args.self.now.messages.items c.args.number c.args.now c.index-message.result.now
    (read_at c.args.self.now.messages.items c.args.number c.index-message.result.now (search rules) c.index-message.ensures)
    (λ fit. none_said c.in_ok-event.field-0 c.in_default.is (c.in_ok-event.ensures.applies.1 fit)) _ _

pub returns-in_default-place_of-clause-ok : goal.returns-in_default-place_of-clause-ok
returns-in_default-place_of-clause-ok g c =
    deliver_none c.args.self.now.members.items c.args.self.now.roster c.args.self.now.messages.items c.args.number c.args.now c.index-message.result.now
    (read_at c.args.self.now.messages.items c.args.number c.index-message.result.now (search rules) c.index-message.ensures) _ _ c.in_default-place_of.ensures.none

pub take-requires-clause-own : goal.take-requires-clause-own
take-requires-clause-own g c = (seat_at c.args.self.now.members.items c.in-Some-place_of.k c.index_mut-member.result.now c.args.self.now.roster _ (search rules)
    c.index_mut-member.ensures.value _ _ c.requires).1.goes_by

pub take-requires-clause-takeable : goal.take-requires-clause-takeable
take-requires-clause-takeable g c =
    takeable_of c.index-message.result.now c.in_ok-event.field-0 c.in-Some.event c.in_ok-event.ensures.event c.in-Some.is c.in_ok-event.ensures.within
    (sendable_at c.args.self.now.members.items c.args.self.now.roster c.args.self.now.messages.items c.args.number c.index-message.result.now
    (read_at c.args.self.now.messages.items c.args.number c.index-message.result.now (search rules) c.index-message.ensures) _ _ c.requires)

pub returns-clause-ok : goal.returns-clause-ok
returns-clause-ok g c =
    on_ok_then c.take.result
    (λ takes. deliver_found c.args.self.now.members.items c.in-Some-place_of.k c.index_mut-member.result.now c.take.new.self c.args.self.now.roster c.args.self.now.messages.items
    c.args.number c.args.now c.index-message.result.now c.in-Some.event (search rules) c.index_mut-member.ensures.value
    (read_at c.args.self.now.messages.items c.args.number c.index-message.result.now (search rules) c.index-message.ensures) (search rules) (search rules) _ _
    c.in-Some-place_of.ensures.some c.take.ensures.name takes)
    c.take.ensures.ok

pub returns-clause-err : goal.returns-clause-err
returns-clause-err g c =
    on_err_then c.take.result (λ stays. stays_shown c.args.self.now.members.items c.in-Some-place_of.k c.index_mut-member.result.now c.take.new.self c.args.self.now.roster _
    (search rules) c.index_mut-member.ensures.value _ _ c.take.ensures.name stays) c.take.ensures.err
