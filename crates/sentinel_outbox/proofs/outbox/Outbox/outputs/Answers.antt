use Rattle.std.proofs.Common.{ap, ◌∙◌}
use Rattle.sentinel_outbox.specs.Outboxes.{Outputs}
use Rattle.sentinel_outbox.proofs.outbox.Outbox.outputs.Goals as goal

pub returns : goal.returns
returns c = c.as_slice.ensures.value ∙ ap (λ (o : Outputs). o.shown) c.self.view_is
