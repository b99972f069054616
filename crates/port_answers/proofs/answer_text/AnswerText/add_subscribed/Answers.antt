use Rattle.std.proofs.Common.{◌∙◌, ◌++◌, ap, sym}
use Rattle.port_answers.specs.Room.{bounded}
use Rattle.port_answers.proofs.Subscribing.{subscribed_bytes}
use Rattle.port_answers.proofs.answer_text.AnswerText.add_subscribed.Goals as goal

pub returns : goal.returns
returns c = c.add.ensures ∙ ap (λ bytes. bounded (c.args.self.now ++ bytes)) (sym subscribed_bytes)
