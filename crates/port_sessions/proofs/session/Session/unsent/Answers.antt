use Rattle.std.proofs.Common.{ap, ◌∙◌}
use Rattle.port_sessions.specs.Talks.{Talk}
use Rattle.port_sessions.proofs.session.Session.unsent.Goals as goal

pub returns : goal.returns
returns c = c.unsent.ensures ∙ ap (λ (talk : Talk). talk.unsent) c.self.view_is
