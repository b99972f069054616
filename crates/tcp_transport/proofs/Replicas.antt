-- What stands behind a label.
use Rattle.std.proofs.Common.{◌≡◌, ℕ, true, false, List, [], ◌∷◌, ◌++◌, refl, ap, ◌∙◌, Option, Some, None, Bor}
use Rattle.std.proofs.lemmas.Bool.{eq-eqb}
use Rattle.std.specs.Option.{MatchOption}
use Rattle.node_texts.specs.Infos.{after_label}

after_same : (label rest : List ℕ) → after_label label (label ++ rest) ≡ Some rest
after_same [] rest = refl
after_same (a ∷ label) rest =
    ap (λ t. elim t as (λ _. Option (List ℕ)) [ true ↦ after_label label (label ++ rest) | false ↦ None ]) (eq-eqb a a refl) ∙ after_same label rest

-- so what stands before it is the label
pub is_behind : (label text rest : List ℕ) → text ≡ label ++ rest → after_label label text ≡ Some rest
is_behind label text rest is = ap (after_label label) is ∙ after_same label rest

pub behind_by : (label text : List ℕ) (r : Option (Bor (List ℕ))) → MatchOption r (after_label label text ≡ None) (λ x. text ≡ label ++ x.now)
    → MatchOption r (after_label label text ≡ None) (λ x. after_label label text ≡ Some x.now)
behind_by label text None is = is
behind_by label text (Some x) is = is_behind label text x.now is
