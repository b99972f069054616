use Rattle.std.proofs.Common.{◌∙◌}
use Rattle.client_port.proofs.Sends.{sent_twice}
use Rattle.client_port.proofs.connection.Connection.send.Goals as goal

-- what the last write sent comes after what was sent before it
pub returns-in-Err-WouldBlock-clause-sent : goal.returns-in-Err-WouldBlock-clause-sent
returns-in-Err-WouldBlock-clause-sent g c = sent_twice _ _ _ _ _ _ c.loop.invariant.0 c.write.ensures.sent

pub returns-in-Err : goal.returns-in-Err
returns-in-Err g c =
    record {
      sent = sent_twice _ _ _ _ _ _ c.loop.invariant.0 c.write.ensures.sent;
      waits = c.write.ensures.waits ∙ c.loop.invariant.1;
    }

pub loop-preserved : goal.loop-preserved
loop-preserved g c = (sent_twice _ _ _ _ _ _ c.loop.invariant.0 c.write.ensures.sent, c.write.ensures.waits ∙ c.loop.invariant.1)
