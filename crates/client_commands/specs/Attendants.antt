-- A client's stream with courtesies: what is held of it, and a command that is taken where it stands.
use Rattle.std.specs.Prelude.{◌≡◌, ℕ, List, Ok}
use Rattle.ballot_law.specs.declared.commands.Command.{Command}
use Rattle.resp2.specs.Commands.{command_of}
use Rattle.resp2.specs.Framing.Frame.{Frame}
use Rattle.resp2.specs.Framing.Stream.{Held, reading}
use Rattle.client_commands.specs.Lines.{value_at}
use Rattle.client_commands.specs.Courtesies.{ClientInfo}

-- the bytes that came and aren't taken yet, what is known of the connection, and the last answer
pub record Attendance : Type 0 where
  pub held : Held
  pub asker : ClientInfo
  pub text : List ℕ

-- the first value of the stream was taken, which is this command
pub record TakesCommon (before after : Held) (command : Command) : Type 0 where
  pub bytes : List ℕ
  pub value : Frame
  pub rest : List ℕ
  pub held_is : before ≡ reading bytes
  pub found : value_at bytes ≡ Ok (value, rest)
  pub left : after ≡ reading rest
  pub asked : command_of value ≡ Ok command
