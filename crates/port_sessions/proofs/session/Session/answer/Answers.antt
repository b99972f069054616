use Rattle.std.proofs.Common.{◌≡◌, ◌∙◌, ◌++◌, ℕ, List, [], Option, None, append-nil, refl, sym, subst}
use Rattle.port_sessions.specs.Talks.{Talk, party, Fails}
use Rattle.port_sessions.proofs.session.Session.answer.Goals as goal

pub returns-in-Err-clause-answered : goal.returns-in-Err-clause-answered
returns-in-Err-clause-answered g c =
    let unsent = c.close.new.self.responder.unsent.items in
    let left = c.close.new.self.responder.hears.listens in
    subst (λ (t : Talk). t.ended ≡ None → (more : List ℕ) × (unsent ≡ t.unsent ++ more) × ((more ≡ []) × (left ≡ None) × (listened : Option ℕ)
    × Fails c.args.cell.now.start c.args.now (party c.args.seat.now.view t.listens) c.args.asked.now c.in-Err.fault (party c.answer.new.seat.view listened))) c.self.view_is
    (λ still. (
      [],
      c.close.ensures.unsent ∙ c.in-Err.ensures.err ∙ sym (append-nil _),
      (refl, c.close.ensures.silent, c.answer.new.self.hears.listens, c.in-Err.ensures.answered.2),
    ))
