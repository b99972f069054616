use Rattle.ballot_law.proofs.MadeRosters.{made_in_order, made_is}
use Rattle.ballot_law.proofs.OrderedMembers.{is_in_order, has_same_members}
use Rattle.ballot_law.proofs.rosters.Roster.new.Goals as goal

pub invariant_of-result : goal.invariant_of-result
invariant_of-result c =
    made_in_order _ _ _ _ _ _ _
    c.deref.ensures.value c.deref-2.ensures.value c.in_ok-judge.ensures.fits
    c.in_ok-judge.ensures.small.0 c.in_ok-judge.ensures.small.1
    c.in_ok-sentinels.ensures c.in_ok-with_nodes_in_order.ensures c.in_ok-masters.ensures

pub returns-clause-in_order : goal.returns-clause-in_order
returns-clause-in_order c =
    is_in_order (record { sentinels = c.args.sentinels.items; masters = c.args.masters.items }) _ (made_is _ _ _ _ _ _ _
    c.deref.ensures.value c.deref-2.ensures.value c.in_ok-judge.ensures.fits
    c.in_ok-sentinels.ensures c.in_ok-with_nodes_in_order.ensures c.in_ok-masters.ensures).1

pub returns-clause-members : goal.returns-clause-members
returns-clause-members c =
    let made = made_is _ _ _ _ _ _ _
    c.deref.ensures.value c.deref-2.ensures.value c.in_ok-judge.ensures.fits
    c.in_ok-sentinels.ensures c.in_ok-with_nodes_in_order.ensures c.in_ok-masters.ensures in
    has_same_members _ _ made.0 made.1
