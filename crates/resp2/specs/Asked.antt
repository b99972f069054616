-- A command that stands at the front of a list of bytes, apart from the value that it is.
use Rattle.std.specs.Prelude.{◌≡◌, ◌≤◌, ℕ, List, ◌∷◌, ◌++◌, length, decimal, codes, Option, Result, Ok, IfOk, IfSome}
use Rattle.ballot_law.specs.declared.commands.Command.{Command}
use Rattle.ballot_law.specs.declared.commands.Command.TheVariants.{Ping, GetMasterAddrByName, IsMasterDownByAddr}
use Rattle.ballot_law.specs.Words.{lower}
use Rattle.resp2.specs.declared.command.CommandFault.{CommandFault}
use Rattle.resp2.specs.Commands.{command_of}
use Rattle.resp2.specs.declared.framing.fault.FrameFault.{FrameFault}
use Rattle.resp2.specs.Framing.Frame.{Frame, bulk, spelling, line_end}
use Rattle.resp2.specs.Framing.Reading.{frame_at}
use Rattle.resp2.specs.Framing.Stream.{Held, Answers}

-- the first value of the bytes is this command, or none for this reason, and the rest stands behind it
abbrev pub Found : List ℕ → Result Command CommandFault → List ℕ → Type 0
Found bytes asked rest = (f : Frame) × (frame_at bytes ≡ Ok (f, rest)) × (asked ≡ command_of f)

-- what a reader of commands answers: what a reader of values does, with the command that the value is in the value's place
abbrev pub Asks : Held → Result (Option (Result Command CommandFault)) FrameFault → Held → Type 0
Asks before answer after = (f : Frame) × Answers (λ asked. f) before answer after × IfOk answer (λ given. IfSome given (λ asked. asked ≡ command_of f))

-- the word has these letters, in any case
abbrev pub Reads : List ℕ → List ℕ → Type 0
Reads name word = (lower word ≡ name) × (length word ≤ 99)

-- the rest stands behind a PING
abbrev pub IsBehindPing : List ℕ → List ℕ → Type 0
IsBehindPing bytes rest = (word : List ℕ) × (bytes ≡ 42 ∷ ((decimal 1 ++ line_end) ++ (spelling (bulk word) ++ rest))) × Reads (codes "ping") word

-- the rest stands behind SENTINEL and a subcommand of this name, with which an array of n words begins
abbrev pub IsBehindNames : ℕ → List ℕ → List ℕ → List ℕ → Type 0
IsBehindNames n name bytes rest =
    (first : List ℕ) × (second : List ℕ) × (bytes ≡ 42 ∷ ((decimal n ++ line_end) ++ (spelling (bulk first) ++ (spelling (bulk second) ++ rest))))
    × Reads (codes "sentinel") first × Reads name second

-- the command is one of those that come nearly always
abbrev pub IsCommon : Command → Type 0
IsCommon Ping = Unit {0}
IsCommon (GetMasterAddrByName name) = Unit {0}
IsCommon (IsMasterDownByAddr addr epoch candidate) = Unit {0}
IsCommon command = ⊥
