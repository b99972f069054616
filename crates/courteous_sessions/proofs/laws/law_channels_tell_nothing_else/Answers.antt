use Rattle.courteous_sessions.proofs.Keeping.{nothing_else_is_told, no_other_note_is_told}
use Rattle.courteous_sessions.proofs.laws.law_channels_tell_nothing_else.Goals as goal

pub returns : goal.returns
returns c = record { events = nothing_else_is_told; notes = no_other_note_is_told }
