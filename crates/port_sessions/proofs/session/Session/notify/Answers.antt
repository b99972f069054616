use Rattle.std.proofs.Common.{◌≡◌, ap, sym, subst, ◌∙◌}
use Rattle.resp2.specs.Framing.Stream.{bytes_in}
use Rattle.port_sessions.proofs.Told.{talk_of}
use Rattle.port_sessions.specs.Notes.{is_due, notified}
use Rattle.port_sessions.specs.Talks.{Talk}
use Rattle.port_sessions.proofs.session.Session.notify.Goals as goal

pub returns : goal.returns
returns c =
    let inside = c.self.inside in
    let new = c.put_note.new.self in
    let put = c.in_ok-put_note.ensures in (
      ap (λ (t : Talk). is_due t c.args.note.now c.args.entry) (sym c.self.view_is) ∙ sym c.is_news.ensures ∙ c.if-not-is_news.false,
      subst (λ (old : Talk). talk_of inside.fault new.hears.told (bytes_in inside.exchange.frames) new.unsent.items new.hears.listens ≡ notified c.args.roster.now c.args.note.now old)
          c.self.view_is (λ i. talk_of inside.fault (put.told i) (bytes_in inside.exchange.frames) (put.ok i) (c.put_note.ensures.listens i)),
    )
