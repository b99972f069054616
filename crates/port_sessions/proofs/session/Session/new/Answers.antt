use Rattle.std.proofs.Common.{List, [], ℕ, None, ap, ◌∙◌}
use Rattle.resp2.specs.Framing.Stream.{bytes_in}
use Rattle.port_sessions.specs.declared.hearing.NotesHeard.{NotesHeard}
use Rattle.port_sessions.specs.Talks.{Talk}
use Rattle.port_sessions.proofs.session.Session.new.Goals as goal

abbrev begun : (held unsent : List ℕ) → NotesHeard → Talk
begun held unsent hears = record { held = held; unsent = unsent; ended = None; listens = hears.listens; told = hears.told }

pub returns : goal.returns
returns c =
    ap (λ frames. begun (bytes_in frames) c.new.result.responder.unsent.items c.new.result.responder.hears) c.new.ensures.frames
    ∙ ap (λ unsent. begun [] unsent c.new.result.responder.hears) c.new.ensures.unsent
    ∙ ap (begun [] []) c.new.ensures.hears
