-- A value that the Sentinel's rules answer is left to them.
use Rattle.std.proofs.Common.{◌≡◌, ◌∙◌, ◌⊎◌, inl, inr, Option, None, Bool, true, false, Result, Ok, Err, refl, ap}
use Rattle.ballot_law.specs.declared.commands.Command.{Command}
use Rattle.ballot_law.specs.Rosters.{Roster}
use Rattle.resp2.specs.declared.command.CommandFault.{CommandFault}
use Rattle.resp2.specs.declared.command.CommandFault.TheVariants.{NotACommand, UnknownCommand, WrongArguments, BadAddress, BadEpoch, BadRunId, UnknownChannel}
use Rattle.resp2.specs.Commands.{redis_command_of}
use Rattle.resp2.specs.Framing.Frame.{Frame}
use Rattle.client_commands.specs.Refusals.{no_auth}
use Rattle.client_commands.proofs.Silence.{command_asks, asked_is}
use Rattle.client_commands.specs.Courtesies.{ClientInfo, Answer, Looked, left, said, asks_nothing, courtesy, asker_after, unless_stranger, or_left, or_same, or_protocol, or_admitted, or_killed, is_stranger, is_refused, is_miscounted, looked_up_in, words_of}

-- what is left over of a value that was judged so
abbrev over : ClientInfo → Result Command CommandFault → Frame → Option Looked
over asker asked value = elim (is_refused asked) as (λ _. Option Looked) [ true ↦ looked_up_in asker (is_miscounted asked) (words_of value) | false ↦ None ]

-- the answer to a value that was judged so
abbrev answer_at : Roster → ClientInfo → Result Command CommandFault → Frame → Answer
answer_at roster asker asked value =
    elim (is_refused asked) as (λ _. Answer) [
      | true ↦ or_left roster asker (looked_up_in asker (is_miscounted asked) (words_of value))
      | false ↦ unless_stranger asker left
    ]

-- a client that gave the password, or needn't
admitted_is : (asker : ClientInfo) (answer : Answer) → is_stranger asker ≡ false → unless_stranger asker answer ≡ answer
admitted_is asker answer known = ap (λ (test : Bool). elim test as (λ _. Answer) [ true ↦ said no_auth | false ↦ answer ]) known

pub own_is_left : (roster : Roster) (asker : ClientInfo) (value : Frame) (command : Command) → is_stranger asker ≡ false → redis_command_of value ≡ Ok command
    → courtesy roster asker value ≡ left
own_is_left roster asker value command known is =
    asked_is roster asker value (command_asks value command is)
    ∙ ap (λ (asked : Result Command CommandFault). answer_at roster asker asked value) is ∙ admitted_is asker left known

pub own_is_same : (asker : ClientInfo) (value : Frame) (command : Command) → redis_command_of value ≡ Ok command → asker_after asker value ≡ asker
own_is_same asker value command is =
    ap (λ (asked : Result Command CommandFault).
    let a : ClientInfo = record asker {
      name = or_same asker (over asker asked value);
      protocol = or_protocol asker (over asker asked value);
      admitted = or_admitted asker (over asker asked value);
      port = record asker.port { killed = or_killed asker (over asker asked value) };
    } in a) is

judged : (roster : Roster) (asker : ClientInfo) (value : Frame) (asked : Result Command CommandFault) → is_stranger asker ≡ false
    → (answer_at roster asker asked value ≡ left) ⊎ ((asked ≡ Err UnknownCommand) ⊎ (asked ≡ Err WrongArguments))
judged roster asker value (Ok command) known = inl (admitted_is asker left known)
judged roster asker value (Err NotACommand) known = inl (admitted_is asker left known)
judged roster asker value (Err UnknownCommand) known = inr (inl refl)
judged roster asker value (Err WrongArguments) known = inr (inr refl)
judged roster asker value (Err BadAddress) known = inl (admitted_is asker left known)
judged roster asker value (Err BadEpoch) known = inl (admitted_is asker left known)
judged roster asker value (Err BadRunId) known = inl (admitted_is asker left known)
judged roster asker value (Err UnknownChannel) known = inl (admitted_is asker left known)

refused_by : (roster : Roster) (asker : ClientInfo) (value : Frame) (test : Bool) → asks_nothing value ≡ test → is_stranger asker ≡ false
    → (asks_nothing value ≡ true)
    ⊎ ((courtesy roster asker value ≡ left) ⊎ ((redis_command_of value ≡ Err UnknownCommand) ⊎ (redis_command_of value ≡ Err WrongArguments)))
refused_by roster asker value true h known = inl h
refused_by roster asker value false h known = inr (rw (asked_is roster asker value h) (judged roster asker value (redis_command_of value) known))

pub refused_or_left : (roster : Roster) (asker : ClientInfo) (value : Frame) → is_stranger asker ≡ false
    → (asks_nothing value ≡ true)
    ⊎ ((courtesy roster asker value ≡ left) ⊎ ((redis_command_of value ≡ Err UnknownCommand) ⊎ (redis_command_of value ≡ Err WrongArguments)))
refused_or_left roster asker value known = refused_by roster asker value (asks_nothing value) refl known
