use Rattle.port_sessions.specs.Talks.{party}
use Rattle.courteous_sessions.specs.Visits.{hears_switches}
use Rattle.courteous_sessions.proofs.Losing.{tunes_lost, unconfirmed}
use Rattle.courteous_sessions.proofs.exchange.Exchange.confirm.Goals as goal

pub returns-clause-fault : goal.returns-clause-fault
returns-clause-fault g c =
    let before = c.args.self.now in
    let tuned = c.in_ok-tune.ensures.tuned in
    let lost = tunes_lost c.args.cell.now.start c.args.now (hears_switches before.subscriptions) c.args.seat.now.view before.responder.hears.listens
    (party c.tune.new.seat.view c.tune.new.self.responder.hears.listens) tuned.tunes
    in
    rw (c.note_listening.ensures.unsent, c.tune.ensures.unsent) at
    (unconfirmed c.args.cell.now.start c.args.now c.put_out.result c.args.seat.now.view c.tune.new.seat.view c.note_listening.new.self.responder.unsent.items c.put_out.new.self.unsent.items lost
    c.put_out.ensures.fault c.put_out.ensures.err)
