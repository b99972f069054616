-- What a stream of values is answered, and how the serving of it ends: what was written for what was read, what the Sentinel keeps
-- by then, and what its store holds.
use Rattle.std.specs.Prelude.{◌≡◌, ◌⊎◌, ◌≤◌, ◌++◌, ◌∷◌, ℕ, Option, None, Some, List, [], length, take, Result, Ok, Err}
use Rattle.std.specs.List.{flat_map}
use Rattle.ballot_law.specs.declared.cards.Kept.{Kept}
use Rattle.ballot_law.specs.declared.commands.Command.{Command}
use Rattle.ballot_law.specs.declared.events.Event.TheVariants.{Command as Commanded}
use Rattle.ballot_law.specs.declared.messages.NodeName.TheVariants.{PortAt}
use Rattle.ballot_law.specs.declared.messages.Output.{Output}
use Rattle.ballot_law.specs.declared.messages.Output.TheVariants.{Send, Tell}
use Rattle.port_answers.specs.Answers.{command_fault, protocol_error}
use Rattle.resp2.specs.declared.command.CommandFault.{CommandFault}
use Rattle.resp2.specs.declared.framing.fault.FrameFault.{FrameFault}
use Rattle.resp2.specs.declared.framing.fault.FrameFault.TheVariants.{NoMemory}
use Rattle.resp2.specs.declared.framing.fault.Unread.TheVariants.{NeedsMore}
use Rattle.resp2.specs.Commands.{command_of}
use Rattle.resp2.specs.Framing.Frame.{Frame, spelling}
use Rattle.resp2.specs.Framing.Reading.{frame_at}
use Rattle.resp2.specs.Framing.Stream.{Held, reading, ended, Parts, Splits}
use Rattle.sentinel_conf.specs.Meaning.{ConfPlan}
use Rattle.sentinel_conf.specs.Rewritten.{rewritten}
use Rattle.sentinel_rules.specs.Plans.{Plan}
use Rattle.sentinel_rules.specs.States.{Core}
use Rattle.sentinel_rules.specs.Takes.{Next, next}
use Rattle.sentinel_core.specs.declared.serving.fault.ServeFault.{ServeFault}
use Rattle.sentinel_core.specs.declared.serving.fault.ServeFault.TheVariants.{Frame as FaultyFrame, Read, Write, Halted as ServeHalted, NoMemory as OutOfMemory}
use Rattle.sentinel_outbox.specs.declared.phase.Phase.{Phase}
use Rattle.sentinel_outbox.specs.declared.phase.Phase.TheVariants.{Ready, Halted}
use Rattle.sentinel_core.specs.declared.serving.connection.Served.{Served}
use Rattle.node_texts.specs.Messages.MessageTexts.{message_bytes}

-- ---- answers

-- what is kept after a value, and the bytes of its answer
pub record Replied : Type 0 where
  pub core : Core
  pub bytes : List ℕ

-- a message as it stands on the wire; a note is sent to no node
abbrev pub output_bytes : Output → List ℕ
output_bytes (Send message) = message_bytes message.body
output_bytes (Tell note) = []

abbrev pub sent_after : Next → Replied
sent_after after = record { core = after.core; bytes = flat_map output_bytes after.outputs }

-- a command is an input from the first port; a value that is none changes nothing, and is answered by the line of its fault
abbrev pub replied_to : Plan → (now : ℕ) → Core → Result Command CommandFault → Replied
replied_to plan now core (Ok command) = sent_after (next plan core now (Commanded (PortAt 0) command))
replied_to plan now core (Err fault) = record { core = core; bytes = spelling (command_fault fault) }

abbrev pub replied : Plan → (now : ℕ) → Core → Frame → Replied
replied plan now core frame = replied_to plan now core (command_of frame)

-- the answers to these values, in their order, one behind the other
abbrev pub answers_to : Plan → (now : ℕ) → Core → List Frame → List ℕ
answers_to plan now core [] = []
answers_to plan now core (value ∷ values) = (replied plan now core value).bytes ++ answers_to plan now (replied plan now core value).core values

-- what is kept after these values
abbrev pub core_after : Plan → (now : ℕ) → Core → List Frame → Core
core_after plan now core [] = core
core_after plan now core (value ∷ values) = core_after plan now (replied plan now core value).core values

-- the last line of a stream that is no RESP2
abbrev pub last_line : List ℕ
last_line = spelling protocol_error

-- ---- the store

-- the store holds this kept part: as it was before, where what is kept is still the first, or as the conf's file rewritten with it
abbrev pub Holds : ConfPlan → (first : Kept) → (before : Option (List ℕ)) → (kept : Kept) → (now : Option (List ℕ)) → Type 0
Holds conf first before kept None = Unit {0}
Holds conf first before kept (Some text) = ((kept ≡ first) × (before ≡ Some text)) ⊎ (text ≡ rewritten conf kept)

-- ---- ends

-- the Sentinel is ready but where a store was refused
abbrev pub phase_of : ServeFault → Phase
phase_of ServeHalted = Halted
phase_of (FaultyFrame fault) = Ready
phase_of Read = Ready
phase_of Write = Ready
phase_of OutOfMemory = Ready

abbrev pub phase_after : {X : Type 0} → Result X ServeFault → Phase
phase_after (Ok x) = Ready
phase_after (Err fault) = phase_of fault

module _ (plan : Plan) (now : ℕ) (first : Core) (before : Option (List ℕ)) where
  -- the store holds what is kept after these values
  abbrev pub HoldsAfter : List Frame → (stored : Option (List ℕ)) → Type 0
  HoldsAfter values stored = Holds plan.conf first.kept before (core_after plan now first values).kept stored

  -- these values, and at most one more whose answer wasn't given, were taken; the store holds what is kept after the ones or the others
  pub record IsLeft (values more : List Frame) (core : Core) (stored : Option (List ℕ)) : Type 0 where
    pub few : length more ≤ 1
    pub core_is : core ≡ core_after plan now first (values ++ more)
    pub held : HoldsAfter values stored ⊎ HoldsAfter (values ++ more) stored

  -- all values of the input were answered, and no whole value is left
  pub record IsServed (input written : List ℕ) (answers : ℕ) (core : Core) (stored : Option (List ℕ)) : Type 0 where
    pub values : List Frame
    pub rest : List ℕ
    pub splits : Splits input values (reading rest)
    pub written_is : written ≡ answers_to plan now first values
    pub answers_is : answers ≡ length values
    pub core_is : core ≡ core_after plan now first values
    pub held : HoldsAfter values stored

  -- the values before a fault were answered, and then the line of the fault was written
  pub record IsRefused (input written : List ℕ) (fault : FrameFault) (core : Core) (stored : Option (List ℕ)) : Type 0 where
    pub values : List Frame
    pub splits : Splits input values (ended fault)
    pub written_is : written ≡ answers_to plan now first values ++ last_line
    pub core_is : core ≡ core_after plan now first values
    pub held : HoldsAfter values stored

  -- a first part of the answers to values of the input was written
  pub record IsCut (input written : List ℕ) (core : Core) (stored : Option (List ℕ)) : Type 0 where
    pub values : List Frame
    pub more : List Frame
    pub rest : List ℕ
    pub parts : Parts input (values ++ more) rest
    pub count : ℕ
    pub written_is : written ≡ take count (answers_to plan now first values)
    pub left : IsLeft values more core stored

  -- the values before a fault were answered, and a first part of its line was written
  pub record IsCutAtRefusal (input written : List ℕ) (core : Core) (stored : Option (List ℕ)) : Type 0 where
    pub values : List Frame
    pub fault : FrameFault
    pub splits : Splits input values (ended fault)
    pub count : ℕ
    pub written_is : written ≡ answers_to plan now first values ++ take count last_line
    pub core_is : core ≡ core_after plan now first values
    pub held : HoldsAfter values stored

  abbrev pub EndsWith : (input written : List ℕ) → Result Served ServeFault → Core → (stored : Option (List ℕ)) → Type 0
  EndsWith input written (Ok served) core stored = IsServed input written served.answers core stored
  EndsWith input written (Err (FaultyFrame fault)) core stored = IsRefused input written fault core stored
  EndsWith input written (Err Write) core stored = IsCut input written core stored ⊎ IsCutAtRefusal input written core stored
  EndsWith input written (Err Read) core stored = IsCut input written core stored
  EndsWith input written (Err ServeHalted) core stored = IsCut input written core stored
  EndsWith input written (Err OutOfMemory) core stored = IsCut input written core stored

  -- ---- on the way

  -- these values were answered, what isn't written yet stands in the text to be written, and the store holds what is kept
  pub record IsAnswered (input written : List ℕ) (held : Held) (core : Core) (text : List ℕ) (answers : ℕ) (stored : Option (List ℕ)) : Type 0 where
    pub values : List Frame
    pub rest : List ℕ
    pub held_is : held ≡ reading rest
    pub parts : Parts input values rest
    pub core_is : core ≡ core_after plan now first values
    pub text_is : written ++ text ≡ answers_to plan now first values
    pub answers_is : answers ≡ length values
    pub stored_is : Holds plan.conf first.kept before core.kept stored

  -- behind these values, which were answered, a fault shows
  pub record IsFaulted (input written : List ℕ) (fault : FrameFault) (text : List ℕ) (core : Core) (stored : Option (List ℕ)) : Type 0 where
    pub values : List Frame
    pub splits : Splits input values (ended fault)
    pub text_is : written ++ text ≡ answers_to plan now first values
    pub core_is : core ≡ core_after plan now first values
    pub stored_is : HoldsAfter values stored

  -- behind these values, which were answered, no answer could be given
  pub record IsStuck (input written : List ℕ) (text : List ℕ) (core : Core) (stored : Option (List ℕ)) : Type 0 where
    pub values : List Frame
    pub more : List Frame
    pub rest : List ℕ
    pub parts : Parts input (values ++ more) rest
    pub text_is : written ++ text ≡ answers_to plan now first values
    pub left : IsLeft values more core stored

  abbrev pub Breaks : (input written : List ℕ) → ServeFault → (text : List ℕ) → Core → (stored : Option (List ℕ)) → Type 0
  Breaks input written (FaultyFrame fault) text core stored = IsFaulted input written fault text core stored
  Breaks input written Read text core stored = IsStuck input written text core stored
  Breaks input written Write text core stored = IsStuck input written text core stored
  Breaks input written ServeHalted text core stored = IsStuck input written text core stored
  Breaks input written OutOfMemory text core stored = IsStuck input written text core stored

-- the bytes held begin with no whole value, and no fault shows
abbrev pub Waits : Held → Type 0
Waits held = (rest : List ℕ) → held ≡ reading rest → frame_at rest ≡ Err NeedsMore

-- a growth that was refused, or a fault of the bytes
abbrev pub of_frame : FrameFault → ServeFault
of_frame NoMemory = OutOfMemory
of_frame fault = FaultyFrame fault

module _ (plan : Plan) (now : ℕ) (first : Core) (before : Option (List ℕ)) where
  -- all whole values were answered, and all answers written
  pub record IsIdle (input written : List ℕ) (held : Held) (core : Core) (text : List ℕ) (answers : ℕ) (stored : Option (List ℕ)) : Type 0 where
    pub answered : IsAnswered plan now first before input written held core text answers stored
    pub waits : Waits held
    pub none_left : text ≡ []

  -- how the answering of all whole values ends
  abbrev pub Drains : {X : Type 0} → (input written : List ℕ) → Result X ServeFault → Held → Core → (text : List ℕ) → (answers : ℕ) → (stored : Option (List ℕ)) → Type 0
  Drains input written (Ok x) held core text answers stored = IsAnswered plan now first before input written held core text answers stored × Waits held
  Drains input written (Err fault) held core text answers stored = Breaks plan now first before input written fault text core stored

  -- how the writing of the last answers and of a fault's line ends
  abbrev pub IsRefusal : {X : Type 0} → (input written : List ℕ) → FrameFault → Result X ServeFault → Core → (stored : Option (List ℕ)) → Type 0
  IsRefusal input written fault (Ok x) core stored = IsRefused plan now first before input written fault core stored
  IsRefusal input written fault (Err failed) core stored =
      IsCut plan now first before input written core stored ⊎ IsCutAtRefusal plan now first before input written core stored

  -- how the taking of a piece ends, with all that was read and written by then
  abbrev pub Takes : {X : Type 0} → (input written : List ℕ) → Result X ServeFault → Held → Core → (text : List ℕ) → (answers : ℕ) → (stored : Option (List ℕ)) → Type 0
  Takes input written (Ok x) held core text answers stored = IsIdle input written held core text answers stored
  Takes input written (Err fault) held core text answers stored = EndsWith plan now first before input written (Err fault) core stored
