use Rattle.std.proofs.Common.{rules, sym, subst}
use Rattle.std.specs.List.{AllByRecursion}
use Rattle.boxed_nodes.specs.Sendable.{IsSendableOutput, IsHeldBy, AreListed}
use Rattle.fault_world.proofs.Found.{few_released, first_released, inside_group, listed_released, release_found, release_none, seat_at}
use Rattle.fault_world.proofs.fault_world.FaultWorld.release.Goals as goal

pub returns-in_default-clause-ok : goal.returns-in_default-clause-ok
returns-in_default-clause-ok g c = release_none c.args.self.now.members.items c.args.node c.args.self.now.roster c.args.self.now.messages.items c.args.report.now.entries
    c.args.report.now.entries (search rules) _ _ c.in_default.ensures.none

pub release-requires-clause-held : goal.release-requires-clause-held
release-requires-clause-held g c =
    let seat = (seat_at c.args.self.now.members.items c.in-Some.k c.index_mut-member.result.now c.args.self.now.roster _ (search rules) c.index_mut-member.ensures.value _ _
    c.requires).1 in
    subst (λ n. IsHeldBy n c.index_mut-member.result.now.outbox.held) (sym seat.goes_by) seat.held_by

pub tell_released-requires-clause-few : goal.tell_released-requires-clause-few
tell_released-requires-clause-few g c =
    subst (IsHeldBy c.args.node) (search rules)
    (few_released c.args.self.now.members.items c.in-Some.k c.index_mut-member.result.now c.release.new.self c.args.node c.args.self.now.roster c.args.self.now.messages.items
    c.release.new.released.items (search rules) c.index_mut-member.ensures.value _ _ _ _ _ c.requires c.in-Some.ensures.some
    (first_released c.reserve-2.new.self.items c.release.new.released.items _ _ (search rules) c.release.ensures.releases))

pub tell_released-requires-clause-inside : goal.tell_released-requires-clause-inside
tell_released-requires-clause-inside g c =
    inside_group c.args.self.now.members.items c.in-Some.k c.index_mut-member.result.now c.args.node c.args.self.now.roster _ (search rules) c.index_mut-member.ensures.value _ _
    c.requires c.in-Some.ensures.some

pub tell_released-requires-clause-listed : goal.tell_released-requires-clause-listed
tell_released-requires-clause-listed g c =
    subst (AreListed c.args.self.now.roster c.args.node) (search rules)
    (listed_released c.args.self.now.members.items c.in-Some.k c.index_mut-member.result.now c.release.new.self c.args.node c.args.self.now.roster c.args.self.now.messages.items
    c.release.new.released.items (search rules) c.index_mut-member.ensures.value _ _ _ _ _ c.requires c.in-Some.ensures.some
    (first_released c.reserve-2.new.self.items c.release.new.released.items _ _ (search rules) c.release.ensures.releases))

pub returns-clause-ok : goal.returns-clause-ok
returns-clause-ok g c =
    release_found c.args.self.now.members.items c.in-Some.k c.index_mut-member.result.now c.release.new.self c.args.node c.args.self.now.roster c.args.self.now.messages.items
    c.send_all.new.messages.items c.release.new.released.items c.args.report.now.entries c.tell_released.new.report.entries (search rules) c.index_mut-member.ensures.value
    (search rules) (search rules) _ _
    (λ image seat. subst (AllByRecursion IsSendableOutput) (sym seat.held_is) seat.sendable) c.in-Some.ensures.some c.release.ensures.name
    (first_released c.reserve-2.new.self.items c.release.new.released.items _ _ (search rules) c.release.ensures.releases)
