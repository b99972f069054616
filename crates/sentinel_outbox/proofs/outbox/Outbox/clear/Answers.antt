use Rattle.std.proofs.Common.{ap}
use Rattle.sentinel_outbox.specs.Outboxes.{Outputs}
use Rattle.sentinel_outbox.proofs.outbox.Outbox.clear.Goals as goal

pub returns-clause-held : goal.returns-clause-held
returns-clause-held c = ap (λ (o : Outputs). o.held) c.self.view_is
