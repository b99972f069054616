use Rattle.std.proofs.Common.{◌∙◌, ◌++◌, ap, ℕ, List}
use Rattle.port_sessions.specs.Listening.{note_text}
use Rattle.port_sessions.proofs.Listening.{note_front, note_written}
use Rattle.port_sessions.proofs.notes.write_note.Goals as goal

pub returns : goal.returns
returns c =
    let text = note_text c.args.name.now c.args.note.now in
    note_written c.push_bulk.result c.add.new.self c.push_bulk.new.sink c.as_slice.result.now text _ (c.in_ok-add.ensures.ok ∙ ap (λ (t : List ℕ). t ++ note_front) c.requires)
    (c.as_slice.ensures ∙ c.in_ok-add_note.ensures ∙ ap (λ (t : List ℕ). t ++ text) c.new-told.ensures) c.push_bulk.ensures.added
