use Rattle.std.proofs.Common.{ap, ◌∙◌}
use Rattle.sentinel_rules.specs.Ticks.{Sending, is_due, is_hello_due}
use Rattle.sentinel_state.proofs.nodes.node.Node.is_hello_due.Goals as goal

pub returns : goal.returns
returns c =
    c.is_due.ensures
    ∙ ap (λ (sending : Sending). is_due c.self.inside.hello_sent sending.now sending.hello_ms) c.sending.view_is
    ∙ ap (is_hello_due c.args.sending) c.self.view_is
