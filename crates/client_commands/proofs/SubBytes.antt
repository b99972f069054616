-- The bytes of what is told to subcommands of SENTINEL, and what CLIENT KILL chose.
use Rattle.std.proofs.Common.{◌≡◌, ◌∙◌, ◌-◌, take, drop, get_or, ℕ, zero, suc, List, [], ◌∷◌, ◌++◌, ◌*◌, ◌≤◌, length, map, arith, decimal, refl, sym, ap, Bool, true, false, true≢false, Option, None, Some}
use Rattle.std.proofs.lemmas.List.{take_all}
use Rattle.ballot_law.specs.Rosters.{MasterPlan}
use Rattle.resp2.specs.Framing.Frame.{bulk, items, count, frames_of, spelling, spellings, line_end}
use Rattle.client_commands.specs.Choosing.{Wanted, Chosen, fits, unfit, anyone, chosen_by, with_option, with_options, is_fit, wanted_after, chosen_wanted, unfit_text}
use Rattle.client_commands.specs.Courtesies.{ClientInfo, uncached, cached, doomed, kill_answer}

count_bulks : (words : List (List ℕ)) → count (frames_of (map bulk words)) ≡ length words
count_bulks [] = refl
count_bulks (word ∷ words) = ap suc (count_bulks words)

pub words_bytes : (words : List (List ℕ))
    → spelling (items (frames_of (map bulk words))) ≡ 42 ∷ ((decimal (length words) ++ line_end) ++ spellings (frames_of (map bulk words)))
words_bytes words = rw (count_bulks words) refl

count_uncached : (n : ℕ) → count (uncached n) ≡ n
count_uncached zero = refl
count_uncached (suc n) = ap suc (count_uncached n)

pub uncached_bytes : (n : ℕ) → spelling (items (uncached n)) ≡ 42 ∷ ((decimal n ++ line_end) ++ spellings (uncached n))
uncached_bytes n = rw (count_uncached n) refl

count_cached : (masters : List MasterPlan) → count (cached masters) ≡ length masters * 2
count_cached [] = refl
count_cached (master ∷ masters) = let rest = count_cached masters in omega (arith, rest)

pub cached_bytes : (masters : List MasterPlan)
    → spelling (items (cached masters)) ≡ 42 ∷ ((decimal (length masters * 2) ++ line_end) ++ spellings (cached masters))
cached_bytes masters = rw (count_cached masters) refl

-- ---- CLIENT KILL

pub chosen_is : (chosen : Chosen) (wanted : Wanted) → Some wanted ≡ chosen_wanted chosen → chosen ≡ fits wanted
chosen_is (fits w) wanted same = ap (λ (o : Option Wanted). elim o as (λ _. Chosen) [ None ↦ fits wanted | Some x ↦ fits x ]) (sym same)
chosen_is (unfit refusal) wanted same = let never : Some wanted ≡ None = same in absurd (cc)

pub unchosen_text : (asker : ClientInfo) (by_address : Bool) (before : List ℕ) (chosen : Chosen) → None ≡ chosen_wanted chosen
    → unfit_text before chosen ≡ spelling (kill_answer asker by_address chosen)
unchosen_text asker by_address before (fits w) same = let never : None ≡ Some w = same in absurd (cc)
unchosen_text asker by_address before (unfit refusal) same = refl

pub unchosen_none : (asker : ClientInfo) (chosen : Chosen) → None ≡ chosen_wanted chosen → doomed asker chosen ≡ []
unchosen_none asker (fits w) same = let never : None ≡ Some w = same in absurd (cc)
unchosen_none asker (unfit refusal) same = refl

-- ---- options in turn

pub options_stop : (wanted : Wanted) (option value : List ℕ) (words : List (List ℕ)) → is_fit (with_option wanted option value) ≡ false
    → with_options wanted (option ∷ value ∷ words) ≡ with_option wanted option value
options_stop wanted option value words h = at (with_option wanted option value) h where
  at : (chosen : Chosen) → is_fit chosen ≡ false → elim chosen as (λ _. Chosen) [ fits next ↦ with_options next words | unfit refusal ↦ unfit refusal ] ≡ chosen
  at (fits next) h = absurd (true≢false h)
  at (unfit refusal) h = refl

pub options_go : (wanted : Wanted) (option value : List ℕ) (words : List (List ℕ)) → is_fit (with_option wanted option value) ≡ true
    → with_options wanted (option ∷ value ∷ words) ≡ with_options (wanted_after wanted (with_option wanted option value)) words
options_go wanted option value words h = at (with_option wanted option value) h where
  at : (chosen : Chosen) → is_fit chosen ≡ true
      → elim chosen as (λ _. Chosen) [ fits next ↦ with_options next words | unfit refusal ↦ unfit refusal ] ≡ with_options (wanted_after wanted chosen) words
  at (fits next) h = refl
  at (unfit refusal) h = absurd (true≢false (sym h))

-- an option and its value that fit, before the others
pub options_ahead : (wanted after : Wanted) (rest : List (List ℕ)) (option value x y : List ℕ) (is_so : Bool) → 2 ≤ length rest → x ≡ get_or rest 0 x
    → y ≡ get_or rest 1 y → option ≡ x → value ≡ y → is_so ≡ is_fit (with_option wanted option value) → is_so ≡ true
    → after ≡ wanted_after wanted (with_option wanted option value) → with_options wanted rest ≡ with_options after (take (length rest - 2) (drop 2 rest))
options_ahead wanted after [] option value x y is_so l e g oe ve f t a = absurd (omega (arith, l))
options_ahead wanted after (o ∷ []) option value x y is_so l e g oe ve f t a = absurd (omega (arith, l))
options_ahead wanted after (o ∷ v ∷ words) option value x y is_so l e g oe ve f t a =
    let left : take (length (o ∷ v ∷ words) - 2) words ≡ words =
    take_all (length (o ∷ v ∷ words) - 2) words (let k : length (o ∷ v ∷ words) ≡ suc (suc (length words)) = refl in omega arith) in
    ap (λ (z : List ℕ). with_options wanted (z ∷ v ∷ words)) (sym (oe ∙ e))
    ∙ ap (λ (z : List ℕ). with_options wanted (option ∷ z ∷ words)) (sym (ve ∙ g))
    ∙ options_go wanted option value words (sym f ∙ t)
    ∙ ap (λ (w : Wanted). with_options w words) (sym a)
    ∙ ap (with_options after) (sym left)

pub unfit_none : (chosen : Chosen) → is_fit chosen ≡ false → chosen_wanted chosen ≡ None
unfit_none (fits next) h = absurd (true≢false h)
unfit_none (unfit refusal) h = refl

-- two words or more are options
pub chosen_many : (words : List (List ℕ)) → 2 ≤ length words → chosen_by words ≡ with_options (anyone true) words
chosen_many [] h = absurd (omega (arith, h))
chosen_many (word ∷ []) h = absurd (omega (arith, h))
chosen_many (option ∷ value ∷ words) h = refl

-- a text stays where the options fit
pub fit_text : (before : List ℕ) (chosen : Chosen) → is_fit chosen ≡ true → unfit_text before chosen ≡ before
fit_text before (fits next) h = refl
fit_text before (unfit refusal) h = absurd (true≢false (sym h))
