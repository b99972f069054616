use Rattle.std.proofs.Common.{ap}
use Rattle.resp2.specs.Framing.Frame.{view}
use Rattle.courteous_sessions.specs.Epochs.{heard_as}
use Rattle.courteous_sessions.proofs.Losing.{own_lost, info_lost, said_lost}
use Rattle.courteous_sessions.proofs.exchange.Exchange.answer.Goals as goal

pub returns-in-Left-clause-fault : goal.returns-in-Left-clause-fault
returns-in-Left-clause-fault g c =
    let current = c.args.self.now.attendant.asker.current in
    own_lost c.args.cell.now.start c.args.now c.hand_on.result (view c.args.value.now) current (heard_as current c.redis_command_of.result) c.args.seat.now.view c.hand_on.new.seat.view
    (ap (heard_as current) c.redis_command_of.ensures.command) c.hand_on.ensures.fault

pub returns-in-Said-clause-fault : goal.returns-in-Said-clause-fault
returns-in-Said-clause-fault g c =
    said_lost c.args.cell.now.start c.args.now c.put_out.result (view c.args.value.now) c.args.seat.now.view c.put_out.ensures.fault

pub returns-in-AsksInfo-clause-fault : goal.returns-in-AsksInfo-clause-fault
returns-in-AsksInfo-clause-fault g c =
    info_lost c.args.cell.now.start c.args.now c.tell_info.result (view c.args.value.now) c.args.seat.now.view c.tell_info.new.seat.view c.tell_info.ensures.fault
