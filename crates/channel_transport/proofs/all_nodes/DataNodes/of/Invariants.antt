use Rattle.std.proofs.Common.{◌≡◌, ℕ, ◌<◌, length}
use Rattle.std.specs.Prelude.{slice_get}
use Rattle.boxed_nodes.specs.Data.Nodes.{node_of}
use Rattle.channel_transport.proofs.all_nodes.DataNodes.of.Given as goal

-- those of all smaller numbers are made
abbrev pub invariant-loop-number : goal.invariant-loop-number
invariant-loop-number l = record {
  long : length l.nodes.items ≡ l.number;
  each : (k : ℕ) → k < length l.nodes.items → slice_get l.nodes.items k ≡ node_of l.conf k;
}
