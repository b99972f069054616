use Rattle.resp2.proofs.Found.{question_found}
use Rattle.resp2.proofs.asked.question_at.Goals as goal

pub returns-clause-found : goal.returns-clause-found
returns-clause-found c =
    question_found c.args.bytes.now c.in_ok-behind_question.field-0.now c.in_ok-ip.rest.now c.in_ok-port.rest.now c.in_ok-epoch.rest.now c.in_ok-id.rest.now
    c.in_ok-ip.ip.now c.in_ok-port.port.now c.in_ok-epoch.epoch.now c.in_ok-id.id.now c.question_of.result
    c.in_ok-behind_question.ensures c.in_ok-ip.ensures.0 c.in_ok-port.ensures.0 c.in_ok-epoch.ensures.0 c.in_ok-id.ensures.0
    c.in_ok-ip.ensures.1 c.in_ok-port.ensures.1 c.in_ok-epoch.ensures.1 c.in_ok-id.ensures.1 c.question_of.ensures.command
