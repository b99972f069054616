-- When a thing that is looked at in a group is well, and what isn't.
use Rattle.std.specs.Prelude.{Bool, true, Option, Some, None, List, ◌&&◌, ◌||◌, ◌==◌, ◌≡◌, nat_lt, not, filter, is_none, if◌then◌else◌}
use Rattle.std.specs.List.{AllByRecursion}
use Rattle.ballot_law.specs.declared.addresses.Addr.{Addr}
use Rattle.ballot_law.specs.Orders.{same_addr, same_id}
use Rattle.group_status.specs.declared.matters.Matter.{Matter}
use Rattle.group_status.specs.declared.matters.What.{What}
use Rattle.group_status.specs.declared.matters.What.TheVariants.{SentinelReached, KnownId, Tilt, Watches, Epoch, Address, MasterDown, FailsOver, QuorumReached, PeerKnown, PeerDown, ReplicaListed, ReplicaDown, NodeReached, Loads, CallsItself, Link, Follows, Replicas, Heirs, Masters, LeftOut}

-- a replica that knows its master by a name may follow it
abbrev pub may_follow : Addr → Option Addr → Bool
may_follow newest None = true
may_follow newest (Some told) = same_addr told newest

abbrev pub is_well_at : What → Bool
-- of a Sentinel: it said something, has the run id by which it is known, isn't in TILT and watches the master
is_well_at (SentinelReached trouble) = is_none trouble
is_well_at (KnownId known told) = same_id known told
is_well_at (Tilt tilt) = not tilt
is_well_at (Watches watches) = watches
-- it has the newest configuration
is_well_at (Epoch told newest) = told == newest
is_well_at (Address told newest) = same_addr told newest
-- it finds the master up, runs no failover, and could have one authorized
is_well_at (MasterDown down objectively) = not down && not objectively
is_well_at (FailsOver runs) = not runs
is_well_at (QuorumReached reached usable) = reached
-- it knows each other Sentinel and each replica, and finds those up that answer
is_well_at (PeerKnown other known) = known
is_well_at (PeerDown other down) = not down
is_well_at (ReplicaListed replica listed) = listed
is_well_at (ReplicaDown replica down) = not down
-- of a data node: it said something, has its data, and calls itself a master where it is the master, and only there
is_well_at (NodeReached leads trouble) = is_none trouble
is_well_at (Loads loads) = not loads
is_well_at (CallsItself leads is_master) = if leads then is_master else not is_master
-- of a replica: it has its link, and follows the newest address
is_well_at (Link up down_s) = up
is_well_at (Follows told newest) = may_follow newest told
-- of a master: somebody could take over
is_well_at (Replicas count) = nat_lt 0 count
is_well_at (Heirs known able) = (known == 0) || nat_lt 0 able
-- of the group: there is a master, and all was looked at
is_well_at (Masters count) = nat_lt 0 count
is_well_at (LeftOut count) = count == 0

abbrev pub is_well : Matter → Bool
is_well matter = is_well_at matter.what

-- what isn't well, in its order
abbrev pub unwell : List Matter → List Matter
unwell matters = filter (λ matter. not (is_well matter)) matters

-- a group is well where all that is looked at in it is
abbrev pub IsWellGroup : List Matter → Type 0
IsWellGroup matters = AllByRecursion (λ matter. is_well matter ≡ true) matters
