use Rattle.std.proofs.Common.{◌≡◌}
use Rattle.boxed_nodes.specs.Data.Servers.{to_each}
use Rattle.boxed_nodes.proofs.data.saying.pass_on.Given as goal

abbrev pub invariant-loop-place : goal.invariant-loop-place
invariant-loop-place l = l.outbox ≡ record l.fn.outbox { held = to_each l.name l.hello l.place }
