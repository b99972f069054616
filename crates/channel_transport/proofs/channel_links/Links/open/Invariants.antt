use Rattle.std.proofs.Common.{◌≡◌, ◌-◌, ◌≤◌, length}
use Rattle.std.specs.Prelude.{All, None}
use Rattle.channel_transport.proofs.channel_links.Links.open.Given as goal

abbrev pub invariant-loop-ends : goal.invariant-loop-ends
invariant-loop-ends l = record {
  few : length l.ends.items ≤ l.sentinels;
  none : All (λ end. end ≡ None) l.ends.items;
}

abbrev pub decreases-loop-ends : goal.decreases-loop-ends
decreases-loop-ends l = l.sentinels - length l.ends.items
