-- What a client is sent that listens to the notes of a port.
use Rattle.std.specs.Prelude.{ℕ, List, [], ◌∷◌, ◌++◌, Result, Ok, Err, codes, decimal}
use Rattle.ballot_law.specs.declared.addresses.Addr.{Addr}
use Rattle.ballot_law.specs.declared.commands.Command.{Command}
use Rattle.ballot_law.specs.declared.commands.Command.TheVariants.{Ping, Subscribe}
use Rattle.ballot_law.specs.declared.messages.Note.{Note}
use Rattle.ballot_law.specs.Rosters.{Roster, master_at}
use Rattle.ballot_law.specs.Words.{ip_text}
use Rattle.port_answers.specs.Answers.{command_fault, subscribed}
use Rattle.resp2.specs.declared.command.CommandFault.{CommandFault}
use Rattle.resp2.specs.Commands.{channel}
use Rattle.resp2.specs.Framing.Frame.{Frame, fault, bulk, items, frames_of}

-- ---- answers

-- the answer to PING: its word, and no text
abbrev pub pong_message : Frame
pong_message = items (frames_of (bulk (codes "pong") ∷ bulk [] ∷ []))

-- the answer to a command that has no place here
abbrev pub not_allowed : Frame
not_allowed = fault (codes "ERR not allowed while subscribed")

-- each value has the same answer at every Sentinel
abbrev pub answer_while_listening : Result Command CommandFault → Frame
answer_while_listening (Ok Ping) = pong_message
answer_while_listening (Ok Subscribe) = subscribed
answer_while_listening (Ok command) = not_allowed
answer_while_listening (Err refusal) = command_fault refusal

-- ---- notes

-- an address as `ip port`
abbrev pub addr_words : Addr → List ℕ
addr_words addr = ip_text addr.ip ++ 32 ∷ decimal addr.port

-- the master's name, its old address and its new one, with a space between two words
abbrev pub note_text : (name : List ℕ) → Note → List ℕ
note_text name note = name ++ 32 ∷ (addr_words note.old ++ 32 ∷ addr_words note.card.addr)

abbrev pub message_frame : (text : List ℕ) → Frame
message_frame text = items (frames_of (bulk (codes "message") ∷ bulk channel ∷ bulk text ∷ []))

-- a note as it is told to who listens
abbrev pub note_frame : Roster → Note → Frame
note_frame roster note = message_frame (note_text (master_at roster note.master).name note)
