-- Which nodes said something.
use Rattle.std.specs.Prelude.{◌≡◌, false, Option, Some, None, Result, Ok, Err, is_err}
use Rattle.std.specs.List.{list_any}
use Rattle.group_status.specs.declared.group.GroupFacts.{GroupFacts}
use Rattle.group_status.specs.declared.matters.Matter.{Matter}
use Rattle.group_status.specs.declared.matters.What.{What}
use Rattle.group_status.specs.declared.matters.What.TheVariants.{SentinelReached, NodeReached}
use Rattle.group_status.specs.declared.said.Trouble.{Trouble}

abbrev pub trouble_of : {T : Type 0} → Result T Trouble → Option Trouble
trouble_of (Ok said) = None
trouble_of (Err trouble) = Some trouble

-- why the node said nothing that a matter is about
abbrev pub trouble_at : What → Option Trouble
trouble_at (SentinelReached trouble) = trouble
trouble_at (NodeReached leads trouble) = trouble
trouble_at _ = None

abbrev pub asked_trouble : Matter → Option Trouble
asked_trouble matter = trouble_at matter.what

-- each Sentinel and each data node that was asked said something
abbrev pub HaveAllSaid : GroupFacts → Type 0
HaveAllSaid group = (list_any (λ facts. is_err facts.said) group.sentinels.items ≡ false)
    × (list_any (λ facts. is_err facts.said) group.nodes.items ≡ false)
