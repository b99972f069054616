-- What a connection is told that no value of its stream asked for.
use Rattle.std.specs.Prelude.{ℕ, Bool, true, false, not, ◌==◌, List, length, bytes_eq}
use Rattle.ballot_law.specs.declared.messages.Note.{Note}
use Rattle.ballot_law.specs.Rosters.{Roster, master_at}
use Rattle.pubsub.specs.declared.channel.Event.{Event}
use Rattle.pubsub.specs.Listening.{Listening}
use Rattle.pubsub.specs.Telling.{channel_name, told}
use Rattle.port_sessions.specs.Listening.{note_text}
use Rattle.resp2.specs.Framing.Frame.{FrameList, no_frames}
use Rattle.courteous_sessions.specs.Visits.{switches}

-- a note, on the channel of new addresses
abbrev pub told_of : Roster → Note → Listening → FrameList
told_of roster note l = told l switches (note_text (master_at roster note.master).name note)

-- a text on a channel; on that of new addresses nothing but notes is told
abbrev pub told_on : (channel text : List ℕ) → Listening → FrameList
told_on channel text l = elim (bytes_eq channel switches) [ true ↦ no_frames | false ↦ told l channel text ]

abbrev pub event_told : Event → Listening → FrameList
event_told event l = told_on (channel_name event.channel) event.text l

abbrev pub is_any : List ℕ → Bool
is_any bytes = not (length bytes == 0)
