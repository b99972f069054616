use Rattle.std.specs.Prelude.{codes, decimal}
use Rattle.resp2.specs.Framing.Frame.{line_end}
use Rattle.port_answers.proofs.FieldLemmas.{line_of}
use Rattle.port_answers.proofs.answer_text.AnswerText.add_redis_quorum_reached.Goals as goal

pub returns : goal.returns
returns c =
    line_of c.args.self.now c.add_counted.new.self (codes "+OK ") (decimal c.args.usable)
    (codes " usable Sentinels. Quorum and failover authorization can be reached") line_end c.add_counted.ensures
