-- The fields of a short text, and the text that they are.
use Rattle.std.specs.Prelude.{ℕ, ◌-◌, List, length, ◌++◌, take}
use Rattle.ballot_law.specs.declared.texts.ShortText.TheInside.{Inside}
use Rattle.ballot_law.specs.declared.texts.TheConstants.{SHORT_TEXT_MAX}
use Rattle.ballot_law.specs.Padding.{IsPaddedTo, zeros}

abbrev pub IsPadded : Inside → Type 0
IsPadded text = IsPaddedTo SHORT_TEXT_MAX text.bytes text.len

abbrev pub bytes_of : Inside → List ℕ
bytes_of text = take text.len text.bytes

abbrev pub text_of : List ℕ → Inside
text_of bytes = record { bytes = bytes ++ zeros (SHORT_TEXT_MAX - length bytes); len = length bytes }
