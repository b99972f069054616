use Rattle.fault_world.proofs.Searching.{SameBelow}
use Rattle.fault_world.proofs.alike.have_same_cards.Given as goal

abbrev pub invariant-loop-m : goal.invariant-loop-m
invariant-loop-m g l =
    SameBelow l.m ((goal.Node-dyn g (l.one.vtable, l.one.value)).shows l.one.value l.roster) ((goal.Node-dyn g (l.other.vtable, l.other.value)).shows l.other.value l.roster)
