-- What was found out of a pattern, with one more of it.
use Rattle.std.proofs.Common.{◌≡◌, ℕ, Bool, true, false, List, [], ◌∷◌, ◌++◌, if◌then◌else◌, subst, sym}
use Rattle.std.specs.List.{All}
use Rattle.std.proofs.lemmas.List.Elements.{All-push}
use Rattle.pubsub.specs.Globs.{matches}
use Rattle.pubsub.specs.Telling.{channel_name}
use Rattle.pubsub.specs.declared.name.Matched.{Matched}

-- it is right of this pattern
abbrev pub IsRight : (pattern : List ℕ) → Matched → Type 0
IsRight pattern found = found.is_match ≡ matches pattern (channel_name found.channel)

pub found_right : (pattern : List ℕ) (before after : List Matched) (one : Matched) (ok : Bool) → after ≡ (if ok then before ++ one ∷ [] else before)
    → All (λ found. IsRight pattern found) before → IsRight pattern one → All (λ found. IsRight pattern found) after
found_right pattern before after one true same all right = subst (All (λ found. IsRight pattern found)) (sym same) (All-push (λ found. IsRight pattern found) before one all right)
found_right pattern before after one false same all right = subst (All (λ found. IsRight pattern found)) (sym same) all
