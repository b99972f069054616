use Rattle.port_sessions.proofs.Replying.{told_written}
use Rattle.port_sessions.proofs.responder.Responder.answer_address.Goals as goal

pub returns-clause-answered : goal.returns-clause-answered
returns-clause-answered g c = λ now.
    let out = c.put_told.ensures in
    told_written c.args.cell.now.start now c.args.seat.now.view c.args.self.now.hears.listens c.args.name c.put_told.result c.args.self.now.unsent.items
    c.put_told.new.unsent.items c.told_of-told.result c.told_of-told.new.seat.view c.requires.silent out.ok out.err out.fault c.told_of-told.ensures.told
