use Rattle.std.proofs.Common.{ap}
use Rattle.sentinel_outbox.specs.Outboxes.{Outputs}
use Rattle.sentinel_outbox.proofs.outbox.Outbox.drop_held.Goals as goal

pub returns-clause-held : goal.returns-clause-held
returns-clause-held c = c.empty.ensures.items

pub returns-clause-shown : goal.returns-clause-shown
returns-clause-shown c = ap (λ (o : Outputs). o.shown) c.self.view_is

pub returns-clause-shown_room : goal.returns-clause-shown_room
returns-clause-shown_room c = ap (λ (o : Outputs). o.shown_room) c.self.view_is
