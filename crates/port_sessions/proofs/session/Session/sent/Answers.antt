use Rattle.std.proofs.Common.{◌≡◌, drop, subst}
use Rattle.resp2.specs.Framing.Stream.{bytes_in}
use Rattle.port_sessions.proofs.Told.{talk_of}
use Rattle.port_sessions.specs.Talks.{Talk}
use Rattle.port_sessions.proofs.session.Session.sent.Goals as goal

pub returns : goal.returns
returns c =
    let inside = c.self.inside in
    let sent = c.sent.ensures in
    subst (λ (old : Talk). talk_of inside.fault c.sent.new.self.hears.told (bytes_in inside.exchange.frames) c.sent.new.self.unsent.items c.sent.new.self.hears.listens
    ≡ record old { unsent = drop c.args.n old.unsent }) c.self.view_is
    (λ i. talk_of inside.fault (sent.hears i).told (bytes_in inside.exchange.frames) (sent.unsent i) (sent.hears i).listens)
