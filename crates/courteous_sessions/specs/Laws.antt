-- What a session with courtesies keeps of the one without.
use Rattle.std.specs.Prelude.{◌≡◌, ◌≢◌, ◌++◌, ℕ, true, false, List, [], Option, None, Some, Ok}
use Rattle.ballot_law.specs.declared.commands.Command.{Command}
use Rattle.ballot_law.specs.declared.commands.Command.TheVariants.{IsMasterDownByAddr, Subscribe}
use Rattle.ballot_law.specs.declared.addresses.Addr.{Addr}
use Rattle.ballot_law.specs.declared.addresses.RunId.{RunId}
use Rattle.ballot_law.specs.declared.messages.Note.{Note}
use Rattle.ballot_law.specs.Rosters.{Roster}
use Rattle.pubsub.specs.declared.channel.Event.{Event}
use Rattle.pubsub.specs.Answering.{other, said as confirmed, answer as channel_answer}
use Rattle.pubsub.specs.Listening.{Listening, is_listening}
use Rattle.pubsub.specs.Telling.{channel_name, hears}
use Rattle.client_commands.specs.Courtesies.{said, silent, is_stranger, courtesy}
use Rattle.client_commands.specs.declared.protocols.Protocol.TheVariants.{Two, Three}
use Rattle.port_sessions.specs.Talks.{Party, party, Responds}
use Rattle.resp2.specs.Commands.{redis_command_of}
use Rattle.resp2.specs.Framing.Frame.{Frame, FrameList, no_frames, spelling, spellings}
use Rattle.sentinel_cell.specs.Histories.{World}
use Rattle.sentinel_rules.specs.Plans.{roster_of}
use Rattle.courteous_sessions.specs.Epochs.{is_far, heard}
use Rattle.courteous_sessions.specs.Events.{told_of, event_told}
use Rattle.courteous_sessions.specs.declared.shapes.Shape.TheVariants.{Pushes}
use Rattle.courteous_sessions.specs.Retelling.{first_word, is_subscribing, shape_of, IsTold}
use Rattle.courteous_sessions.specs.Visits.{Guest, guest, hears_switches, channel_turn, Serves, Tells, IsAnswered}

-- Where no password is wanted that the client didn't give, and the connection speaks protocol 2 and doesn't listen, a command of the Sentinel's rules but SUBSCRIBE is
-- answered as without courtesies, as it is heard, and nothing else is known of the connection than before
abbrev pub AnswersOwnAsBefore : Type 0
AnswersOwnAsBefore =
    (start : World) (now : ℕ) (g h : Guest) (value : Frame) (command : Command) (bytes : List ℕ)
    → g.asker.protocol ≡ Two → is_stranger g.asker ≡ false → is_listening g.listening ≡ false → command ≢ Subscribe → redis_command_of value ≡ Ok command
    → Tells start now g value bytes h
    → Responds start now g.party (Ok (heard g.asker.current command)) bytes h.party × (h ≡ guest h.party g.listening g.told g.asker)

-- Where it speaks protocol 3, listening or not, such a command is answered as by a session that listens to nothing, which protocol 3 tells in its own way; it goes on
-- listening, and nothing else is known of it than before
abbrev pub AnswersOwnInThree : Type 0
AnswersOwnInThree =
    (start : World) (now : ℕ) (g h : Guest) (value : Frame) (command : Command) (bytes : List ℕ)
    → g.asker.protocol ≡ Three → is_stranger g.asker ≡ false → command ≢ Subscribe → redis_command_of value ≡ Ok command
    → Tells start now g value bytes h
    → (answer : List ℕ) × (q : Party) × Responds start now (party g.party.view None) (Ok (heard g.asker.current command)) answer q
    × IsTold Three (shape_of value) answer bytes × (h ≡ guest (party q.view g.party.listens) g.listening g.told g.asker)

-- There a command that changes to what a connection listens is answered by Pub/Sub as at protocol 2, and told as pushes
abbrev pub ConfirmsByPushes : Type 0
ConfirmsByPushes =
    (start : World) (now : ℕ) (g h : Guest) (value : Frame) (answers : FrameList) (after : Listening) (bytes : List ℕ)
    → g.asker.protocol ≡ Three → is_stranger g.asker ≡ false → is_subscribing (first_word value) ≡ true → channel_answer value g.listening ≡ confirmed answers after
    → Tells start now g value bytes h → IsTold Three Pushes (spellings answers) bytes × (h.listening ≡ after)

-- at protocol 2 each answer is told as it is
abbrev pub TellsAsItIs : Type 0
TellsAsItIs =
    (start : World) (now : ℕ) (g h : Guest) (value : Frame) (bytes : List ℕ)
    → g.asker.protocol ≡ Two → h.asker.protocol ≡ Two → Tells start now g value bytes h → Serves start now g value bytes h

-- where no current epoch was told, each command is heard as it is
abbrev pub HearsAll : Type 0
HearsAll = (command : Command) → heard None command ≡ command

-- else each one but a question in an epoch that is too far above that
abbrev pub HearsNear : Type 0
HearsNear = (current epoch : ℕ) (addr : Addr) (candidate : Option RunId) → is_far epoch current ≡ false
    → heard (Some current) (IsMasterDownByAddr addr epoch candidate) ≡ IsMasterDownByAddr addr epoch candidate

-- and that one is heard in epoch 0
abbrev pub HearsFar : Type 0
HearsFar = (current epoch : ℕ) (addr : Addr) (candidate : Option RunId) → is_far epoch current ≡ true
    → heard (Some current) (IsMasterDownByAddr addr epoch candidate) ≡ IsMasterDownByAddr addr 0 candidate

-- while it listens at protocol 2, Pub/Sub alone answers the commands of the Sentinel's rules
abbrev pub AnswersListeners : Type 0
AnswersListeners =
    (start : World) (now : ℕ) (g h : Guest) (value : Frame) (command : Command) (bytes : List ℕ)
    → g.asker.protocol ≡ Two → is_stranger g.asker ≡ false → is_listening g.listening ≡ true → redis_command_of value ≡ Ok command → Tells start now g value bytes h
    → (answers : FrameList) × (after : Listening) × (channel_answer value g.listening ≡ confirmed answers after) × (bytes ≡ spellings answers) × (h.listening ≡ after)

-- a value that Pub/Sub doesn't answer and whose answer a courtesy tells is answered by that alone, and its seat sees nothing
abbrev pub TakesNoTurn : Type 0
TakesNoTurn =
    (start : World) (now : ℕ) (g h : Guest) (value answer : Frame) (bytes : List ℕ)
    → channel_turn g.asker g.listening value ≡ other → courtesy (roster_of start.plan) g.asker value ≡ said answer → Tells start now g value bytes h
    → IsTold h.asker.protocol (shape_of value) (spelling answer) bytes × (h.party ≡ g.party)

-- a value that has no answer puts out nothing, and its seat sees nothing
abbrev pub IsPassedOver : Type 0
IsPassedOver =
    (start : World) (now : ℕ) (g h : Guest) (value : Frame) (bytes : List ℕ)
    → channel_turn g.asker g.listening value ≡ other → courtesy (roster_of start.plan) g.asker value ≡ silent → Tells start now g value bytes h
    → (bytes ≡ []) × (h.party ≡ g.party)

-- where a password is wanted that the client didn't give, no value takes a turn, its seat sees nothing, and it listens to nothing that it didn't listen to before
abbrev pub StrangersTakeNoTurn : Type 0
StrangersTakeNoTurn =
    (start : World) (now : ℕ) (g h : Guest) (value : Frame) (bytes : List ℕ)
    → is_stranger g.asker ≡ true → Tells start now g value bytes h → (h.party ≡ g.party) × (h.listening ≡ g.listening)

-- an event on a channel to which a connection doesn't listen, and that none of its patterns matches, isn't told to it
abbrev pub NothingElseIsTold : Type 0
NothingElseIsTold = (event : Event) (l : Listening) → hears l (channel_name event.channel) ≡ false → event_told event l ≡ no_frames

-- nor is a note where neither is the channel of new addresses
abbrev pub NoOtherNoteIsTold : Type 0
NoOtherNoteIsTold = (roster : Roster) (note : Note) (l : Listening) → hears_switches l ≡ false → told_of roster note l ≡ no_frames

-- two pieces in a row are answered as one piece of both
abbrev pub PiecesJoin : Type 0
PiecesJoin =
    (start : World) (now : ℕ) (stream piece held later bytes more : List ℕ) (g middle h : Guest)
    → IsAnswered start now stream g held bytes middle → IsAnswered start now (held ++ piece) middle later more h
    → IsAnswered start now (stream ++ piece) g later (bytes ++ more) h
