-- What the answers of a session are to the answers of a stream, and to its pieces; and what a note is to the notes behind it.
use Rattle.std.specs.Prelude.{◌≡◌, ◌≢◌, ◌<◌, ◌≤◌, ◌⊎◌, ◌++◌, ℕ, false, List, Ok, length}
use Rattle.ballot_law.specs.declared.messages.Note.{Note}
use Rattle.ballot_law.specs.Rosters.{Roster}
use Rattle.sentinel_core.specs.Serving.Serving.{replied}
use Rattle.resp2.specs.Commands.{command_of}
use Rattle.resp2.specs.Framing.Frame.{Frame}
use Rattle.sentinel_cell.specs.declared.entry.Entry.{Entry}
use Rattle.sentinel_cell.specs.declared.view.View.{View}
use Rattle.sentinel_cell.specs.Calls.{Begins}
use Rattle.sentinel_cell.specs.Histories.{World, IsLegal, replay}
use Rattle.ballot_law.specs.declared.commands.Command.{Command}
use Rattle.sentinel_rules.specs.Answers.{commanded}
use Rattle.sentinel_rules.specs.Plans.{Plan}
use Rattle.sentinel_rules.specs.States.{Core}
use Rattle.port_sessions.specs.Stores.{may_store}
use Rattle.port_sessions.specs.Notes.{is_due, notified}
use Rattle.port_sessions.specs.Talks.{Talk, Party, Replies, IsAnswered}

-- what a Sentinel has that keeps what is stored: the same as its core, but after a refused store
abbrev pub stored_core : World → Core
stored_core w = record w.core { kept = w.stored }

-- the bytes are those that `serve` writes for the value
abbrev pub IsServed : World → (now : ℕ) → View → Frame → (bytes : List ℕ) → Type 0
IsServed start now v value bytes =
    ((core : Core) → bytes ≡ (replied start.plan now core value).bytes)
    ⊎ ((history : List Entry) × IsLegal start history × Begins v.front history × (bytes ≡ (replied start.plan now (stored_core (replay start history)) value).bytes))

abbrev pub AnswersAreServed : Type 0
AnswersAreServed = (start : World) (now : ℕ) (v w : View) (value : Frame) (bytes : List ℕ) → Replies start now v (command_of value) bytes w → IsServed start now v value bytes

abbrev pub PiecesJoin : Type 0
PiecesJoin =
    (start : World) (now : ℕ) (stream piece held later bytes more : List ℕ) (p middle q : Party)
    → IsAnswered start now stream p held bytes middle → IsAnswered start now (held ++ piece) middle later more q
    → IsAnswered start now (stream ++ piece) p later (bytes ++ more) q

-- behind a note that was told, none of its master is due whose configuration is no newer, and whether another master's is due is as before
abbrev pub NotesRise : Type 0
NotesRise =
    (roster : Roster) (note other : Note) (entry : ℕ) (talk : Talk) → note.master < length talk.told
    → (other.master ≡ note.master → other.card.epoch ≤ note.card.epoch → is_due (notified roster note talk) other entry ≡ false)
    × (other.master ≢ note.master → is_due (notified roster note talk) other entry ≡ is_due talk other entry)

-- by the rules a command that may not store leaves what is kept as it was
abbrev pub OthersStoreNothing : Type 0
OthersStoreNothing =
    (plan : Plan) (now : ℕ) (command : Command) (core : Core) → may_store (Ok command) ≡ false → (commanded plan now command core).core.kept ≡ core.kept
