-- The lines of a rewritten file: what is kept, then the state.
use Rattle.std.proofs.Common.{◌≡◌, ℕ, ◌+◌, true, false, cond, List, [], ◌∷◌, ◌++◌, map, refl, ap, sym, ◌∙◌, subst, inl, inr, Option, Some, None}
use Rattle.std.specs.List.{list_any, cons_option, AllByRecursion}
use Rattle.std.proofs.lemmas.List.Elements.{filter_map-append, filter-append}
use Rattle.std.proofs.lemmas.List.Folds.{list_any-append}
use Rattle.std.proofs.lemmas.Bool.{or_from}
use Rattle.conf_lines.specs.declared.faults.ConfKind.{ConfKind}
use Rattle.conf_lines.specs.declared.faults.ConfKind.TheVariants.{Twice}
use Rattle.conf_lines.specs.declared.lines.StateLine.{StateLine}
use Rattle.conf_lines.specs.declared.lines.Line.{Line}
use Rattle.conf_lines.specs.declared.lines.Line.TheVariants as line
use Rattle.ballot_law.specs.Words.{some_if}
use Rattle.conf_lines.specs.Lines.{line_of, spelled, same_key}
use Rattle.sentinel_conf.specs.Meaning.{states, settings, state_of, setting_of, is_kept}
use Rattle.sentinel_conf.specs.Reading.{at_line, faults, first_of, line_fault, first_fault, kept_lines_of}
use Rattle.sentinel_conf.proofs.SetLemmas.{In, each_in}
use Rattle.conf_lines.proofs.StateLemmas.{IsState, line_of-spelled}
use Rattle.sentinel_conf.proofs.FileLemmas.{Apart}

-- a line that isn't a state line and has no fault
abbrev pub IsPlainLine : Line → Type 0
IsPlainLine line.Kept = Unit {0}
IsPlainLine (line.Setting setting) = Unit {0}
IsPlainLine (line.State state) = ⊥
IsPlainLine (line.Faulty kind) = ⊥

pub map_append : {X Y : Type 0} (f : X → Y) (xs ys : List X) → map f (xs ++ ys) ≡ map f xs ++ map f ys
map_append f [] ys = refl
map_append f (x ∷ xs) ys = ap (λ t. f x ∷ t) (map_append f xs ys)

pub append_nil : {X : Type 0} (xs : List X) → xs ++ [] ≡ xs
append_nil [] = refl
append_nil (x ∷ xs) = ap (λ t. x ∷ t) (append_nil xs)

no_state : (l : Line) → IsPlainLine l → state_of l ≡ None
no_state line.Kept p = refl
no_state (line.Setting s) p = refl
no_state (line.State s) p = absurd p
no_state (line.Faulty k) p = absurd p

plain_kept : (l : Line) → IsPlainLine l → is_kept l ≡ true
plain_kept line.Kept p = refl
plain_kept (line.Setting s) p = refl
plain_kept (line.State s) p = absurd p
plain_kept (line.Faulty k) p = absurd p

plain_no_fault : (earlier : List StateLine) (l : Line) → IsPlainLine l → line_fault earlier l ≡ None
plain_no_fault earlier line.Kept p = refl
plain_no_fault earlier (line.Setting s) p = refl
plain_no_fault earlier (line.State s) p = absurd p
plain_no_fault earlier (line.Faulty k) p = absurd p

abbrev pub ArePlainTexts : List (List ℕ) → Type 0
ArePlainTexts = AllByRecursion (λ text. IsPlainLine (line_of text))

abbrev pub AreStates : List StateLine → Type 0
AreStates = AllByRecursion IsState

no_states : (texts : List (List ℕ)) → ArePlainTexts texts → states (map line_of texts) ≡ []
no_states [] p = refl
no_states (t ∷ ts) p = ap (λ o. cons_option o (states (map line_of ts))) (no_state (line_of t) p.0) ∙ no_states ts p.1

spelled_lines : (ss : List StateLine) → AreStates ss → map line_of (map spelled ss) ≡ map line.State ss
spelled_lines [] v = refl
spelled_lines (s ∷ ss) v =
    ap (λ l. l ∷ map line_of (map spelled ss)) (line_of-spelled s v.0) ∙ ap (λ t. line.State s ∷ t) (spelled_lines ss v.1)

states_of_states : (ss : List StateLine) → states (map line.State ss) ≡ ss
states_of_states [] = refl
states_of_states (s ∷ ss) = ap (λ t. s ∷ t) (states_of_states ss)

settings_of_states : (ss : List StateLine) → settings (map line.State ss) ≡ []
settings_of_states [] = refl
settings_of_states (s ∷ ss) = settings_of_states ss

module _ (texts : List (List ℕ)) (ss : List StateLine) (p : ArePlainTexts texts) (v : AreStates ss) where
  abbrev both : List (List ℕ)
  both = texts ++ map spelled ss

  pub lines_again : map line_of both ≡ map line_of texts ++ map line.State ss
  lines_again = map_append line_of texts (map spelled ss) ∙ ap (λ t. map line_of texts ++ t) (spelled_lines ss v)

  pub states_again : states (map line_of both) ≡ ss
  states_again =
      ap states lines_again
      ∙ filter_map-append state_of (map line_of texts) (map line.State ss)
      ∙ ap (λ t. t ++ states (map line.State ss)) (no_states texts p)
      ∙ states_of_states ss

  pub settings_again : settings (map line_of both) ≡ settings (map line_of texts)
  settings_again =
      ap settings lines_again
      ∙ filter_map-append setting_of (map line_of texts) (map line.State ss)
      ∙ ap (λ t. settings (map line_of texts) ++ t) (settings_of_states ss)
      ∙ append_nil (settings (map line_of texts))

all_kept : (texts : List (List ℕ)) → ArePlainTexts texts → kept_lines_of texts ≡ texts
all_kept [] p = refl
all_kept (t ∷ ts) p =
    ap (λ b. cond b (t ∷ kept_lines_of ts) (kept_lines_of ts)) (plain_kept (line_of t) p.0) ∙ ap (λ r. t ∷ r) (all_kept ts p.1)

none_kept : (ss : List StateLine) → AreStates ss → kept_lines_of (map spelled ss) ≡ []
none_kept [] v = refl
none_kept (s ∷ ss) v =
    ap (λ l. cond (is_kept l) (spelled s ∷ kept_lines_of (map spelled ss)) (kept_lines_of (map spelled ss))) (line_of-spelled s v.0) ∙ none_kept ss v.1

pub kept_again : (texts : List (List ℕ)) (ss : List StateLine) → ArePlainTexts texts → AreStates ss → kept_lines_of (texts ++ map spelled ss) ≡ texts
kept_again texts ss p v =
    filter-append (λ text. is_kept (line_of text)) texts (map spelled ss)
    ∙ ap (λ t. t ++ kept_lines_of (map spelled ss)) (all_kept texts p)
    ∙ ap (λ t. texts ++ t) (none_kept ss v)
    ∙ append_nil texts

-- no line has a fault
abbrev pub Clean : (List StateLine → Line → Option ConfKind) → List StateLine → List Line → Type 0
Clean test earlier [] = Unit {0}
Clean test earlier (l ∷ ls) = (test earlier l ≡ None) × Clean test (earlier ++ states (l ∷ [])) ls

pub clean_none : (test : List StateLine → Line → Option ConfKind) (n : ℕ) (earlier : List StateLine) (ls : List Line) → Clean test earlier ls → first_fault test n earlier ls ≡ None
clean_none test n earlier [] h = refl
clean_none test n earlier (l ∷ ls) h =
    ap (λ o. first_of (at_line n o ++ faults test (n + 1) (earlier ++ states (l ∷ [])) ls)) h.0
    ∙ clean_none test (n + 1) (earlier ++ states (l ∷ [])) ls h.1

clean_step : (test : List StateLine → Line → Option ConfKind) (n : ℕ) (earlier : List StateLine) (l : Line) (ls : List Line) (o : Option ConfKind) → test earlier l ≡ o
    → first_of (at_line n o ++ faults test (n + 1) (earlier ++ states (l ∷ [])) ls) ≡ None
    → (test earlier l ≡ None) × (first_fault test (n + 1) (earlier ++ states (l ∷ [])) ls ≡ None)
clean_step test n earlier l ls None e h = (e, h)
clean_step test n earlier l ls (Some kind) e h = cc

pub none_clean : (test : List StateLine → Line → Option ConfKind) (n : ℕ) (earlier : List StateLine) (ls : List Line) → first_fault test n earlier ls ≡ None → Clean test earlier ls
none_clean test n earlier [] h = tt
none_clean test n earlier (l ∷ ls) h =
    let both = clean_step test n earlier l ls (test earlier l) refl h in
    (both.0, none_clean test (n + 1) (earlier ++ states (l ∷ [])) ls both.1)

-- a test that doesn't look at the state lines before
pub clean_each : (test : Line → Option ConfKind) (earlier : List StateLine) (ls : List Line) → AllByRecursion (λ l. test l ≡ None) ls → Clean (λ _. test) earlier ls
clean_each test earlier [] h = tt
clean_each test earlier (l ∷ ls) h = (h.0, clean_each test (earlier ++ states (l ∷ [])) ls h.1)

pub each_clean : (test : Line → Option ConfKind) (earlier : List StateLine) (ls : List Line) → Clean (λ _. test) earlier ls → AllByRecursion (λ l. test l ≡ None) ls
each_clean test earlier [] h = tt
each_clean test earlier (l ∷ ls) h = (h.0, each_clean test (earlier ++ states (l ∷ [])) ls h.1)

-- no two state lines have one key, and none has that of a line before
clean_states : (earlier ss : List StateLine) → ((s : StateLine) → In s ss → list_any (same_key s) earlier ≡ false) → Apart same_key ss →
    Clean line_fault earlier (map line.State ss)
clean_states earlier [] h a = tt
clean_states earlier (s ∷ ss) h a = (
  ap (λ t. some_if t Twice) (h s (inl refl)),
  clean_states (earlier ++ s ∷ []) ss
      (λ t i. list_any-append (same_key t) earlier (s ∷ [])
      ∙ or_from (list_any (same_key t) earlier) (list_any (same_key t) (s ∷ [])) (h t (inr i)) (or_from (same_key t s) false (each_in (λ t. same_key t s ≡ false) ss a.0 t i) refl))
      a.1,
)

clean_plain : (earlier : List StateLine) (texts : List (List ℕ)) (more : List Line) → ArePlainTexts texts → Clean line_fault earlier more →
    Clean line_fault earlier (map line_of texts ++ more)
clean_plain earlier [] more p h = h
clean_plain earlier (t ∷ ts) more p h = (
  plain_no_fault earlier (line_of t) p.0,
  subst (λ e. Clean line_fault e (map line_of ts ++ more))
      (sym (ap (λ o. earlier ++ cons_option o []) (no_state (line_of t) p.0) ∙ append_nil earlier))
      (clean_plain earlier ts more p.1 h),
)

pub none_twice : (texts : List (List ℕ)) (ss : List StateLine) → ArePlainTexts texts → AreStates ss → Apart same_key ss →
    first_fault line_fault 1 [] (map line_of (texts ++ map spelled ss)) ≡ None
none_twice texts ss p v a =
    ap (first_fault line_fault 1 []) (lines_again texts ss p v)
    ∙ clean_none line_fault 1 [] (map line_of texts ++ map line.State ss) (clean_plain [] texts (map line.State ss) p (clean_states [] ss (λ s i. refl) a))
