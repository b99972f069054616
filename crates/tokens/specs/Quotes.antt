-- The words of a line, as Redis reads them.
use Rattle.std.specs.Prelude.{ℕ, zero, suc, ◌+◌, ◌*◌, Bool, true, false, ◌||◌, ◌&&◌, ◌==◌, nat_le, ◌<◌, ⊤, List, [], ◌∷◌, ◌++◌, length, Option, Some, None}
use Rattle.std.specs.Char.{to_ascii_lowercase}
use Rattle.ballot_law.specs.Cuts.{with_first}
use Rattle.ballot_law.specs.Words.{some_if, is_hex, hex_value}
use Rattle.tokens.specs.declared.quotes.Quote.{Quote}
use Rattle.tokens.specs.declared.quotes.Quote.TheVariants.{Double, Single}
use Rattle.tokens.specs.declared.quotes.Piece.{Piece}
use Rattle.tokens.specs.declared.quotes.Piece.TheVariants.{Byte, Opens, Ends, Broken}

-- what stands between words, and after a quote that closes: a space, or one of the bytes 9 to 13
abbrev pub is_space : ℕ → Bool
is_space b = (b == 32) || (nat_le 9 b && nat_le b 13)

-- what ends a word that isn't quoted
abbrev pub ends_word : ℕ → Bool
ends_word b = (b == 32) || ((b == 9) || ((b == 10) || (b == 13)))

-- a comment, which has no words: its first byte that is no space is a #
abbrev pub is_comment : List ℕ → Bool
is_comment [] = false
is_comment (b ∷ bs) = elim (is_space b) [ true ↦ is_comment bs | false ↦ b == 35 ]

-- a quote, of one of the two kinds
abbrev pub quote_of : ℕ → Option Quote
quote_of b = elim (b == 34) as (λ _. Option Quote) [ true ↦ Some Double | false ↦ some_if (b == 39) Single ]

abbrev pub quote_byte : Quote → ℕ
quote_byte Double = 34
quote_byte Single = 39

-- a hex digit in whatever case, and its value
abbrev pub is_hex_digit : ℕ → Bool
is_hex_digit b = is_hex (to_ascii_lowercase b)

abbrev pub digit_value : ℕ → ℕ
digit_value b = hex_value (to_ascii_lowercase b)

-- an x and two hex digits: the byte of this number
abbrev pub hex_byte : List ℕ → Option ℕ
hex_byte (x ∷ high ∷ low ∷ _) = some_if ((x == 120) && (is_hex_digit high && is_hex_digit low)) (digit_value high * 16 + digit_value low)
hex_byte _ = None

-- after a backslash: n, r, t, b and a have a meaning, and any other byte stands for itself
abbrev pub named_byte : ℕ → ℕ
named_byte b =
    elim (b == 110) [ true ↦ 10 | false ↦ elim (b == 114) [ true ↦ 13 | false ↦ elim (b == 116) [ true ↦ 9 | false ↦ elim (b == 98) [ true ↦ 8 | false ↦ elim (b == 97) [ true ↦ 7 | false ↦ b ] ] ] ] ]

-- what a backslash stands for within double quotes with these bytes after it, and how many of them belong to it
abbrev pub escaped : List ℕ → ℕ × ℕ
escaped [] = (92, 0)
escaped (b ∷ bs) = elim (hex_byte (b ∷ bs)) as (λ _. ℕ × ℕ) [ Some byte ↦ (byte, 3) | None ↦ (named_byte b, 1) ]

-- within single quotes a backslash counts before a single quote alone
abbrev pub single_escaped : List ℕ → ℕ × ℕ
single_escaped [] = (92, 0)
single_escaped (b ∷ bs) = elim (b == 39) [ true ↦ (39, 1) | false ↦ (92, 0) ]

abbrev pub escaped_in : Quote → List ℕ → ℕ × ℕ
escaped_in Double bs = escaped bs
escaped_in Single bs = single_escaped bs

-- the byte for which this one stands within quotes, and how many of those after it belong to it
abbrev pub meant : Quote → ℕ → List ℕ → ℕ × ℕ
meant quote b bs = elim (b == 92) as (λ _. ℕ × ℕ) [ true ↦ escaped_in quote bs | false ↦ (b, 0) ]

-- where a reader of words is: between words, in one that isn't quoted, after this many further bytes in one that is, or after its last quote
pub data Mode : Type 0 where
  Between : Mode
  Plain : Mode
  Inside : Quote → ℕ → Mode
  Closed : Mode

-- these words, with one before them
abbrev pub word_first : List ℕ → Option (List (List ℕ)) → Option (List (List ℕ))
word_first word None = None
word_first word (Some words) = Some (word ∷ words)

-- these words, with one byte before the first
abbrev pub byte_first : ℕ → Option (List (List ℕ)) → Option (List (List ℕ))
byte_first b None = None
byte_first b (Some words) = Some (with_first b words)

-- these words, with these bytes before the first
abbrev pub bytes_first : List ℕ → Option (List (List ℕ)) → Option (List (List ℕ))
bytes_first [] words = words
bytes_first (b ∷ bs) words = byte_first b (bytes_first bs words)

-- the words of the bytes that follow this place; in a word the first is what is left of it. None where a quote doesn't close, or where no
-- space stands after one that does
abbrev pub words_at : List ℕ → Mode → Option (List (List ℕ))
words_at [] Between = Some []
words_at [] Plain = Some ([] ∷ [])
words_at [] (Inside quote skipped) = None
words_at [] Closed = Some []
words_at (b ∷ bs) Between =
    elim (is_space b) as (λ _. Option (List (List ℕ))) [
      | true ↦ words_at bs Between
      | false ↦ elim (ends_word b) as (λ _. Option (List (List ℕ))) [
        | true ↦ word_first [] (words_at bs Between)
        | false ↦ elim (quote_of b) as (λ _. Option (List (List ℕ))) [ Some quote ↦ words_at bs (Inside quote 0) | None ↦ byte_first b (words_at bs Plain) ]
      ]
    ]
words_at (b ∷ bs) Plain =
    elim (ends_word b) as (λ _. Option (List (List ℕ))) [
      | true ↦ word_first [] (words_at bs Between)
      | false ↦ elim (quote_of b) as (λ _. Option (List (List ℕ))) [ Some quote ↦ words_at bs (Inside quote 0) | None ↦ byte_first b (words_at bs Plain) ]
    ]
words_at (b ∷ bs) (Inside quote (suc skipped)) = words_at bs (Inside quote skipped)
words_at (b ∷ bs) (Inside quote zero) =
    elim (b == quote_byte quote) as (λ _. Option (List (List ℕ))) [
      | true ↦ word_first [] (words_at bs Closed)
      | false ↦ byte_first (meant quote b bs).0 (words_at bs (Inside quote (meant quote b bs).1))
    ]
words_at (b ∷ bs) Closed = elim (is_space b) as (λ _. Option (List (List ℕ))) [ true ↦ words_at bs Between | false ↦ None ]

-- the words of a line; none where its quotes are wrong
abbrev pub redis_words : List ℕ → Option (List (List ℕ))
redis_words text = words_at text Between

-- these after those
abbrev pub joined : {X : Type 0} → List X → Option (List X) → Option (List X)
joined some None = None
joined some (Some others) = Some (some ++ others)

-- a reader in a word, which is within this quote or in none
abbrev pub mode_in : Option Quote → Mode
mode_in None = Plain
mode_in (Some quote) = Inside quote 0

-- the words of the bytes that follow a piece of a word, with it
abbrev pub piece_words : Option Quote → Piece → Option (List (List ℕ))
piece_words within (Byte b rest) = byte_first b (words_at rest.now (mode_in within))
piece_words within (Opens quote rest) = words_at rest.now (Inside quote 0)
piece_words within (Ends rest) = word_first [] (words_at rest.now Between)
piece_words within Broken = None

-- what is left of a text after a piece of it
abbrev pub IsShorter : Piece → (text : List ℕ) → Type 0
IsShorter (Byte b rest) text = length rest.now < length text
IsShorter (Opens quote rest) text = length rest.now < length text
IsShorter (Ends rest) text = length rest.now < length text
IsShorter Broken text = ⊤
