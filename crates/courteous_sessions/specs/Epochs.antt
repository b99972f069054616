-- Requests for votes whose epoch is too far above the Sentinel's own one.
use Rattle.std.specs.Prelude.{ℕ, ◌+◌, Bool, true, false, nat_lt, Option, None, Some, Result, Ok, Err}
use Rattle.ballot_law.specs.Words.{some_if}
use Rattle.ballot_law.specs.declared.commands.Command.{Command}
use Rattle.ballot_law.specs.declared.commands.Command.TheVariants.{IsMasterDownByAddr}
use Rattle.resp2.specs.declared.command.CommandFault.{CommandFault}
use Rattle.courteous_sessions.specs.declared.epochs.FarRequest.{FarRequest}
use Rattle.courteous_sessions.specs.declared.epochs.TheConstants.{EPOCHS_AHEAD}

-- an epoch is too far above the current one
abbrev pub is_far : (epoch current : ℕ) → Bool
is_far epoch current = nat_lt (current + EPOCHS_AHEAD) epoch

-- where a current epoch was told, a later one than it may be counts as 0
abbrev pub heard_epoch : (current : Option ℕ) → (epoch : ℕ) → ℕ
heard_epoch None epoch = epoch
heard_epoch (Some current) epoch = elim (is_far epoch current) [ true ↦ 0 | false ↦ epoch ]

-- a command as it is heard: a question, which may be a request for a vote, with its epoch as it is heard, and each other one as it is
abbrev pub heard : (current : Option ℕ) → Command → Command
heard current (IsMasterDownByAddr addr epoch candidate) = IsMasterDownByAddr addr (heard_epoch current epoch) candidate
heard current command = command

abbrev pub heard_as : (current : Option ℕ) → Result Command CommandFault → Result Command CommandFault
heard_as current (Ok command) = Ok (heard current command)
heard_as current (Err fault) = Err fault

-- the request for a vote that a command is, where its epoch isn't heard as it is
abbrev pub far_request : (current : Option ℕ) → Result Command CommandFault → Option FarRequest
far_request (Some current) (Ok (IsMasterDownByAddr addr epoch (Some candidate))) =
    some_if (is_far epoch current) (record { candidate = candidate; epoch = epoch })
far_request current asked = None
