-- A command with another number of words.
use Rattle.std.proofs.Common.{◌≡◌, ◌≢◌, List, [], ◌∷◌, length, refl, Err}
use Rattle.ballot_law.specs.declared.commands.Command.{Command}
use Rattle.resp2.specs.declared.command.CommandFault.TheVariants.{WrongArguments}
use Rattle.resp2.specs.declared.framing.value.Value.{Value}
use Rattle.resp2.specs.Framing.Frame.{frames_view}
use Rattle.resp2.specs.Commands.{words, is_master_down_by_addr, master_of, alone, subscribe}

pub wrong_number : (args : List Value) → length args ≢ 4 → is_master_down_by_addr (words (frames_view args)) ≡ Err WrongArguments
wrong_number [] other = refl
wrong_number (a ∷ []) other = refl
wrong_number (a ∷ b ∷ []) other = refl
wrong_number (a ∷ b ∷ c ∷ []) other = refl
wrong_number (a ∷ b ∷ c ∷ d ∷ []) other = absurd (other refl)
wrong_number (a ∷ b ∷ c ∷ d ∷ e ∷ rest) other = refl

pub not_one_word : (args : List Value) → length args ≢ 1 → master_of (words (frames_view args)) ≡ Err WrongArguments
not_one_word [] other = refl
not_one_word (a ∷ []) other = absurd (other refl)
not_one_word (a ∷ b ∷ rest) other = refl

pub no_one_channel : (args : List Value) → length args ≢ 1 → subscribe (words (frames_view args)) ≡ Err WrongArguments
no_one_channel [] other = refl
no_one_channel (a ∷ []) other = absurd (other refl)
no_one_channel (a ∷ b ∷ rest) other = refl

pub more_words : (command : Command) (args : List Value) → length args ≢ 0 → alone command (words (frames_view args)) ≡ Err WrongArguments
more_words command [] other = absurd (other refl)
more_words command (a ∷ rest) other = refl
