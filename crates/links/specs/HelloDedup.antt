-- Which hellos were heard a moment ago.
use Rattle.std.specs.Prelude.{◌≡◌, ◌⊎◌, ◌++◌, ◌∷◌, [], ℕ, Bool, List, ◌-◌, ◌&&◌, nat_lt, bytes_eq, slice_set}
use Rattle.std.specs.List.{list_any}
use Rattle.links.specs.declared.hello_dedup.HeardHello.{HeardHello}
use Rattle.links.specs.declared.times.TheConstants.{NEWS_MS}

-- one with this text was heard less than NEWS_MS ago
abbrev pub is_recent : (now : ℕ) → (text : List ℕ) → List HeardHello → Bool
is_recent now text hellos = list_any (λ (hello : HeardHello). nat_lt (now - hello.at) NEWS_MS && bytes_eq hello.text text) hellos

-- the hello that was heard now is kept beside those before, or in the place of one of them, or there is no memory for it
abbrev pub Keeps : HeardHello → (before after : List HeardHello) → Type 0
Keeps hello before after = (after ≡ before) ⊎ (after ≡ before ++ (hello ∷ [])) ⊎ ((place : ℕ) × (after ≡ slice_set before place hello))
