use Rattle.std.proofs.Common.{◌∙◌, ap, sym, Ok}
use Rattle.ballot_law.specs.declared.commands.Command.{Command}
use Rattle.port_answers.proofs.Subscribing.{subscribed_bytes}
use Rattle.resp2.specs.Framing.Frame.{spelling}
use Rattle.port_sessions.specs.Listening.{answer_while_listening}
use Rattle.port_sessions.proofs.Listening.{pong_bytes}
use Rattle.port_sessions.proofs.notes.line_for_listener.Goals as goal

pub returns-in-Ping : goal.returns-in-Ping
returns-in-Ping c = sym (ap (λ (k : Command). spelling (answer_while_listening (Ok k))) c.in-Ping.is ∙ pong_bytes)

pub returns-in-Subscribe : goal.returns-in-Subscribe
returns-in-Subscribe c = sym (ap (λ (k : Command). spelling (answer_while_listening (Ok k))) c.in-Subscribe.is ∙ subscribed_bytes)
