-- Words that are added one after the other.
use Rattle.std.proofs.Common.{◌≡◌, ℕ, suc, ◌+◌, ◌<◌, ◌≤◌, Bor, List, [], ◌∷◌, ◌++◌, length, map, take, get_or, refl, sym, ap, ◌∙◌, append_assoc, append-nil, decimal}
use Rattle.std.proofs.lemmas.List.{take_all, take_more}
use Rattle.resp2.specs.Commands.{bulks}
use Rattle.resp2.specs.Framing.Frame.{count, bulk, items, spelling, spellings, line_end}

-- the header of an array
abbrev pub header : ℕ → List ℕ
header count = 42 ∷ (decimal count ++ line_end)

-- words, each of them as a bulk string
abbrev pub spelled : List (Bor (List ℕ)) → List ℕ
spelled words = spellings (bulks (map (λ word. word.now) words))

spelled-append : (xs ys : List (Bor (List ℕ))) → spelled (xs ++ ys) ≡ spelled xs ++ spelled ys
spelled-append [] ys = refl
spelled-append (x ∷ xs) ys = ap (λ t. spelling (bulk x.now) ++ t) (spelled-append xs ys) ∙ sym (append_assoc (spelling (bulk x.now)) (spelled xs) (spelled ys))

-- stands where a list of words has none
abbrev pub no_word : Bor (List ℕ)
no_word = record { ref_ptr = (0, 0); now = [] }

spelled_next : (xs : List (Bor (List ℕ))) (i : ℕ) → i < length xs → spelled (take (i + 1) xs) ≡ spelled (take i xs) ++ spelling (bulk (get_or xs i no_word).now)
spelled_next xs i h =
    ap spelled (take_more xs i no_word h)
    ∙ spelled-append (take i xs) (get_or xs i no_word ∷ [])
    ∙ ap (λ t. spelled (take i xs) ++ t) (append-nil (spelling (bulk (get_or xs i no_word).now)))

-- after a header and the words so far, the next word
pub word_added : (old so_far new : List ℕ) (n : ℕ) (xs : List (Bor (List ℕ))) (i : ℕ) → i < length xs → so_far ≡ old ++ (header n ++ spelled (take i xs))
    → new ≡ so_far ++ spelling (bulk (get_or xs i no_word).now) → new ≡ old ++ (header n ++ spelled (take (i + 1) xs))
word_added old so_far new n xs i h e f =
    let word = spelling (bulk (get_or xs i no_word).now) in
    f
    ∙ ap (λ t. t ++ word) e
    ∙ append_assoc old (header n ++ spelled (take i xs)) word
    ∙ ap (λ t. old ++ t) (append_assoc (header n) (spelled (take i xs)) word ∙ ap (λ t. header n ++ t) (sym (spelled_next xs i h)))

count_is : (xs : List (Bor (List ℕ))) → count (bulks (map (λ word. word.now) xs)) ≡ length xs
count_is [] = refl
count_is (x ∷ xs) = ap suc (count_is xs)

-- after a header and all words, an array of them
pub words_added : (old new : List ℕ) (xs : List (Bor (List ℕ))) (i : ℕ) → length xs ≤ i → new ≡ old ++ (header (length xs) ++ spelled (take i xs))
    → new ≡ old ++ spelling (items (bulks (map (λ word. word.now) xs)))
words_added old new xs i h e = e ∙ ap (λ t. old ++ (header (length xs) ++ spelled t)) (take_all i xs h) ∙ ap (λ n. old ++ (header n ++ spelled xs)) (sym (count_is xs))
