-- Labels at the beginning of lines.
use Rattle.std.proofs.Common.{◌≡◌, ◌≢◌, ℕ, ◌+◌, Bool, true, false, eqb, List, [], ◌∷◌, ◌++◌, length, take, drop, refl, ap, sym, ◌∙◌, arith, Option, Some, None, Bor}
use Rattle.std.specs.Option.{MatchOption}
use Rattle.std.specs.Cmp.Lexicographic.{pointwise}
use Rattle.std.proofs.lemmas.Bool.Decides.{nat_tests, Decides-eqb}
use Rattle.std.proofs.lemmas.Slice.Eq.{strip_prefix_is}
use Rattle.node_texts.specs.Infos.{after_label}

after_some_by : (a b : ℕ) (label line rest : List ℕ) (t : Bool) → eqb a b ≡ t → (after_label label line ≡ Some rest → line ≡ label ++ rest) →
    after_label (a ∷ label) (b ∷ line) ≡ Some rest → b ∷ line ≡ a ∷ (label ++ rest)
after_some_by a b label line rest true e h s =
    let same : a ≡ b = grind (arith, nat_tests, e) in
    let tail : line ≡ label ++ rest = h (sym (ap (λ t. elim t as (λ _. Option (List ℕ)) [ true ↦ after_label label line | false ↦ None ]) e) ∙ s) in
    cc
after_some_by a b label line rest false e h s =
    let none : None ≡ Some rest = sym (ap (λ t. elim t as (λ _. Option (List ℕ)) [ true ↦ after_label label line | false ↦ None ]) e) ∙ s in
    absurd cc

pub after_some : (label line rest : List ℕ) → after_label label line ≡ Some rest → line ≡ label ++ rest
after_some [] line rest s = cc
after_some (a ∷ label) [] rest s = absurd cc
after_some (a ∷ label) (b ∷ line) rest s = after_some_by a b label line rest (eqb a b) refl (after_some label line rest) s

none_by : (label line : List ℕ) (r : Option (List ℕ)) → after_label label line ≡ r → ((rest : List ℕ) → line ≢ label ++ rest) → after_label label line ≡ None
none_by label line None e h = e
none_by label line (Some rest) e h = absurd (h rest (after_some label line rest e))

after_by : (label line : List ℕ) (r : Option (Bor (List ℕ))) → MatchOption r ((rest : List ℕ) → line ≢ label ++ rest) (λ x. line ≡ label ++ x.now)
    → MatchOption r (after_label label line ≡ None) (λ x. line ≡ label ++ x.now)
after_by label line None h = none_by label line (after_label label line) refl h
after_by label line (Some x) h = h

pub stripped : (label line : List ℕ) (r : Option (Bor (List ℕ)))
    → MatchOption r (pointwise eqb (take (length label) line) label ≡ false)
    (λ x. (pointwise eqb (take (length label) line) label ≡ true) × (x.now ≡ drop (length label) line) × (length x.now + length label ≡ length line))
    → MatchOption r (after_label label line ≡ None) (λ x. line ≡ label ++ x.now)
stripped label line r h = after_by label line r (strip_prefix_is Decides-eqb line label r h)
