-- Refused commands, in redis-sentinel's words.
use Rattle.std.specs.Prelude.{ℕ, ◌+◌, ◌-◌, Bool, true, false, ◌||◌, ◌==◌, nat_lt, List, [], ◌∷◌, ◌++◌, map, length, take, codes}
use Rattle.ballot_law.specs.Words.{lower}
use Rattle.resp2.specs.Commands as commands
use Rattle.resp2.specs.Framing.Frame.{Frame, fault, line_end}

-- the word is this name, whatever the case of its letters
abbrev pub is_called : List ℕ → List ℕ → Bool
is_called name word = commands.is_called (lower name) word

-- no line of an answer holds a CR or LF
abbrev pub printed_byte : ℕ → ℕ
printed_byte b = elim ((b == 13) || (b == 10)) [ true ↦ 32 | false ↦ b ]

-- of a word at most `count` bytes are shown
abbrev pub printed : ℕ → List ℕ → List ℕ
printed count word = map printed_byte (take count word)

-- of a command that has subcommands none is called so; `help` names the one that lists them
abbrev pub unknown_subcommand : (help word : List ℕ) → Frame
unknown_subcommand help word = fault (codes "ERR unknown subcommand '" ++ (printed 128 word ++ (codes "'. Try " ++ help)))

-- words in quotes, as long as those before have fewer than 128 bytes, where `count` were shown before
abbrev pub shown_words : ℕ → List (List ℕ) → List ℕ
shown_words count [] = []
shown_words count (word ∷ words) =
    elim (nat_lt count 128) [
      | true ↦ codes "'" ++ (printed (128 - count) word ++ (codes "' " ++ shown_words (count + length (take (128 - count) word) + 3) words))
      | false ↦ []
    ]

-- no command is called so
abbrev pub unknown_command : List ℕ → List (List ℕ) → Frame
unknown_command name words = fault (codes "ERR unknown command '" ++ (printed 128 name ++ (codes "', with args beginning with: " ++ shown_words 0 words)))

abbrev pub syntax_error : Frame
syntax_error = fault (codes "ERR syntax error")

abbrev pub wrong_password : Frame
wrong_password = fault (codes "WRONGPASS invalid username-password pair or user is disabled.")

abbrev pub no_password : Frame
no_password = fault (codes "ERR AUTH <password> called without any password configured for the default user. Are you sure your configuration is correct?")

abbrev pub no_name : Frame
no_name = fault (codes "ERR Client names cannot contain spaces, newlines or special characters.")

abbrev pub long_name : Frame
long_name = fault (codes "ERR Client names cannot be longer than 256 bytes.")

abbrev pub no_such_protocol : Frame
no_such_protocol = fault (codes "NOPROTO unsupported protocol version")

abbrev pub no_protocol : Frame
no_protocol = fault (codes "ERR Protocol version is not an integer or out of range")

-- an option of HELLO that is none, or has too few words
abbrev pub no_option : List ℕ → Frame
no_option word = fault (codes "ERR Syntax error in HELLO option '" ++ (printed (length word) word ++ codes "'"))

abbrev pub no_hello : Frame
no_hello = fault (codes "ERR Only HELLO messages are accepted by Sentinel instances.")

-- the client didn't give the password that is wanted
abbrev pub no_auth : Frame
no_auth = fault (codes "NOAUTH Authentication required.")

-- HELLO, where the client didn't give the password and doesn't with it
abbrev pub no_auth_yet : Frame
no_auth_yet =
    fault (codes "NOAUTH HELLO must be called with the client already authenticated, otherwise the HELLO AUTH <user> <pass> option can be used to authenticate the client"
    ++ codes " and select the RESP protocol version at the same time")

-- a connection that listens is told so at the command with this name
abbrev pub not_while_listening : List ℕ → Frame
not_while_listening name =
    fault (codes "ERR Can't execute '" ++ (name ++ codes "': only (P|S)SUBSCRIBE / (P|S)UNSUBSCRIBE / PING / QUIT / RESET are allowed in this context"))

-- how a line ends whose last word is in quotes
abbrev pub quote_end : List ℕ
quote_end = codes "'" ++ line_end
