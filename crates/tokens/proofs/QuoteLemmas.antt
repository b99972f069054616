-- Words that are read byte by byte.
use Rattle.std.proofs.Common.{◌≡◌, ℕ, zero, suc, false, true, eqb, ◌<◌, List, [], ◌∷◌, ◌++◌, length, drop, Option, Some, None, refl, ap, sym, ◌∙◌, arith, ◌≤◌, append_assoc}
use Rattle.std.specs.Prelude.{slice_index}
use Rattle.tokens.specs.declared.quotes.Quote.{Quote}
use Rattle.tokens.specs.Quotes.{is_space, quote_byte, meant, mode_in, word_first, byte_first, bytes_first, words_at, joined}
use Rattle.tokens.specs.Quotes.Mode.{Between, Plain, Inside, Closed}

-- bytes that belong to the one before them are passed over
pub passed_over : (quote : Quote) (count : ℕ) (text : List ℕ) → words_at text (Inside quote count) ≡ words_at (drop count text) (Inside quote 0)
passed_over quote zero text = refl
passed_over quote (suc count) [] = refl
passed_over quote (suc count) (b ∷ bs) = passed_over quote count bs

-- a byte within quotes that doesn't close them
pub quoted_byte : (quote : Quote) (b : ℕ) (bs : List ℕ) → eqb b (quote_byte quote) ≡ false
    → words_at (b ∷ bs) (Inside quote 0) ≡ byte_first (meant quote b bs).0 (words_at (drop (meant quote b bs).1 bs) (Inside quote 0))
quoted_byte quote b bs h =
    ap (λ t. elim t as (λ _. Option (List (List ℕ))) [
      | true ↦ word_first [] (words_at bs Closed)
      | false ↦ byte_first (meant quote b bs).0 (words_at bs (Inside quote (meant quote b bs).1))
    ]) h
    ∙ ap (byte_first (meant quote b bs).0) (passed_over quote (meant quote b bs).1 bs)

-- a quote that closes
pub quote_closes : (quote : Quote) (b : ℕ) (bs : List ℕ) → eqb b (quote_byte quote) ≡ true → words_at (b ∷ bs) (Inside quote 0) ≡ word_first [] (words_at bs Closed)
quote_closes quote b bs h =
    ap (λ t. elim t as (λ _. Option (List (List ℕ))) [
      | true ↦ word_first [] (words_at bs Closed)
      | false ↦ byte_first (meant quote b bs).0 (words_at bs (Inside quote (meant quote b bs).1))
    ]) h

-- one byte more before the first word
pub one_more : (bytes : List ℕ) (b : ℕ) (words : Option (List (List ℕ))) → bytes_first bytes (byte_first b words) ≡ bytes_first (bytes ++ b ∷ []) words
one_more [] b words = refl
one_more (x ∷ bytes) b words = ap (byte_first x) (one_more bytes b words)

byte_before : (b : ℕ) (bytes : List ℕ) (words : Option (List (List ℕ))) → byte_first b (word_first bytes words) ≡ word_first (b ∷ bytes) words
byte_before b bytes None = refl
byte_before b bytes (Some words) = refl

-- the word ends
pub ended : (bytes : List ℕ) (words : Option (List (List ℕ))) → bytes_first bytes (word_first [] words) ≡ word_first bytes words
ended [] words = refl
ended (b ∷ bytes) words = ap (byte_first b) (ended bytes words) ∙ byte_before b bytes words

-- a text that doesn't begin with a space begins with a word
pub begins_word : (text : List ℕ) → 0 < length text → is_space (slice_index text 0) ≡ false → words_at text Between ≡ words_at text Plain
begins_word [] l h = absurd (omega arith)
begins_word (b ∷ bs) l h = ap (λ t. elim t as (λ _. Option (List (List ℕ))) [ true ↦ words_at bs Between | false ↦ words_at (b ∷ bs) Plain ]) h

-- a word gets one byte more
pub one_byte : (all here there : Option (List (List ℕ))) (word new : List ℕ) (b : ℕ) → all ≡ bytes_first word here → here ≡ byte_first b there → new ≡ word ++ b ∷ []
    → all ≡ bytes_first new there
one_byte all here there word new b a h n = a ∙ ap (bytes_first word) h ∙ one_more word b there ∙ ap (λ t. bytes_first t there) (sym n)

-- a word ends
pub word_ends : (all here there : Option (List (List ℕ))) (word : List ℕ) → all ≡ bytes_first word here → here ≡ word_first [] there → all ≡ word_first word there
word_ends all here there word a h = a ∙ ap (bytes_first word) h ∙ ended word there

none_after : (bytes : List ℕ) → bytes_first bytes None ≡ None
none_after [] = refl
none_after (b ∷ bytes) = ap (byte_first b) (none_after bytes)

-- a word whose quotes are wrong
pub word_breaks : (all here : Option (List (List ℕ))) (word : List ℕ) → all ≡ bytes_first word here → here ≡ None → all ≡ None
word_breaks all here word a h = a ∙ ap (bytes_first word) h ∙ none_after word

-- the text ends in a word that isn't quoted, or in one that is
pub text_ends : (all : Option (List (List ℕ))) (word rest : List ℕ) (within : Option Quote) → all ≡ bytes_first word (words_at rest (mode_in within)) → within ≡ None → length rest ≡ 0
    → all ≡ word_first word (words_at rest Between)
text_ends all word [] within a w l = a ∙ ap (λ t. bytes_first word (words_at [] (mode_in t))) w ∙ ended word (Some [])
text_ends all word (b ∷ bs) within a w l = absurd (cc)

pub text_breaks : (all : Option (List (List ℕ))) (word rest : List ℕ) (within : Option Quote) (quote : Quote) → all ≡ bytes_first word (words_at rest (mode_in within))
    → within ≡ Some quote → length rest ≡ 0 → all ≡ None
text_breaks all word [] within quote a w l = a ∙ ap (λ t. bytes_first word (words_at [] (mode_in t))) w ∙ none_after word
text_breaks all word (b ∷ bs) within quote a w l = absurd (cc)

pub still_within : (a b c : ℕ) → a < b → b ≤ c → a ≤ c
still_within a b c less most = omega arith

pub then_shorter : (a b c : ℕ) → a < b → b ≤ c → a < c
then_shorter a b c less most = omega arith

-- one element more
pub one_joined : {X : Type 0} (some : List X) (x : X) (others : Option (List X)) → joined some (joined (x ∷ []) others) ≡ joined (some ++ x ∷ []) others
one_joined some x None = refl
one_joined some x (Some others) = ap Some (sym (append_assoc some (x ∷ []) others))
