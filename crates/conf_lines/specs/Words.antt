-- The words of a line.
use Rattle.std.specs.Prelude.{ℕ, Bool, true, false, ◌||◌, ◌==◌, List, [], ◌∷◌, ◌++◌}
use Rattle.ballot_law.specs.Cuts.{with_first}

-- a line with its LF
abbrev pub ended : List ℕ → List ℕ
ended text = text ++ 10 ∷ []

-- a space or a tab, which stands between words
abbrev pub is_blank : ℕ → Bool
is_blank b = (b == 32) || (b == 9)

-- what is left out at the ends of a line: a space, a tab or a CR
abbrev pub is_edge : ℕ → Bool
is_edge b = is_blank b || (b == 13)

abbrev pub after_edges : List ℕ → List ℕ
after_edges [] = []
after_edges (b ∷ bs) = elim (is_edge b) [ true ↦ after_edges bs | false ↦ b ∷ bs ]

abbrev pub joined_unless_empty : ℕ → List ℕ → List ℕ
joined_unless_empty b [] = elim (is_edge b) [ true ↦ [] | false ↦ b ∷ [] ]
joined_unless_empty b (c ∷ cs) = b ∷ c ∷ cs

abbrev pub before_edges : List ℕ → List ℕ
before_edges [] = []
before_edges (b ∷ bs) = joined_unless_empty b (before_edges bs)

-- the line without what is left out at its ends
abbrev pub trimmed : List ℕ → List ℕ
trimmed text = before_edges (after_edges text)

-- where a reader of words stands: between words, in a word, or in one that began with a quote
pub data Mode : Type 0 where
  Between : Mode
  Plain : Mode
  Quoted : Mode

-- the words of the bytes that follow this place; in a word the first is what is left of it
abbrev pub words_at : List ℕ → Mode → List (List ℕ)
words_at [] Between = []
words_at [] Plain = [] ∷ []
words_at [] Quoted = [] ∷ []
words_at (b ∷ bs) Between =
    elim (is_blank b) [
      | true ↦ words_at bs Between
      | false ↦ elim (b == 34) [ true ↦ words_at bs Quoted | false ↦ with_first b (words_at bs Plain) ]
    ]
words_at (b ∷ bs) Plain = elim (is_blank b) [ true ↦ [] ∷ words_at bs Between | false ↦ with_first b (words_at bs Plain) ]
words_at (b ∷ bs) Quoted = elim (b == 34) [ true ↦ [] ∷ words_at bs Between | false ↦ with_first b (words_at bs Quoted) ]

abbrev pub words_of : List ℕ → List (List ℕ)
words_of text = words_at (trimmed text) Between

-- the words with one space between them
abbrev pub spaced : List (List ℕ) → List ℕ
spaced [] = []
spaced (word ∷ words) = elim words as (λ _. List ℕ) [ [] ↦ word | next ∷ more ↦ word ++ 32 ∷ spaced words ]

abbrev pub is_quote : ℕ → Bool
is_quote b = b == 34
