-- Which values of a client may be stored before they are answered.
use Rattle.std.specs.Prelude.{◌≡◌, ℕ, ◌+◌, Bool, true, false, List, [], ◌∷◌, Some, Result, Ok}
use Rattle.ballot_law.specs.declared.commands.Command.{Command}
use Rattle.ballot_law.specs.declared.commands.Command.TheVariants.{IsMasterDownByAddr, FlushConfig}
use Rattle.resp2.specs.declared.command.CommandFault.{CommandFault}
use Rattle.resp2.specs.Commands.{command_of}
use Rattle.resp2.specs.Framing.Frame.{Frame}
use Rattle.resp2.specs.Framing.Reading.{frame_at}

-- FLUSHCONFIG and a request for a vote may store; every other command, and what is none, stores nothing
abbrev pub may_store : Result Command CommandFault → Bool
may_store (Ok FlushConfig) = true
may_store (Ok (IsMasterDownByAddr addr epoch (Some candidate))) = true
may_store asked = false

-- 1 where it is so
abbrev pub one_if : Bool → ℕ
one_if true = 1
one_if false = 0

-- how many of these values may store
abbrev pub stores_among : List Frame → ℕ
stores_among [] = 0
stores_among (value ∷ values) = one_if (may_store (command_of value)) + stores_among values

-- these bytes begin with a whole value, which may store
pub record IsStoreNext (bytes : List ℕ) : Type 0 where
  pub value : Frame
  pub rest : List ℕ
  pub found : frame_at bytes ≡ Ok (value, rest)
  pub stores : may_store (command_of value) ≡ true
