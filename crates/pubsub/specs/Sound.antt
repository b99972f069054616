-- Subscriptions as they can come about.
use Rattle.std.specs.Prelude.{◌≡◌, ◌≤◌, ℕ, false, List, [], ◌∷◌, length}
use Rattle.pubsub.specs.declared.names.TheConstants.{NAMES_MAX, NAME_BYTES_MAX}
use Rattle.pubsub.specs.Listening.{Listening, holds}

-- none is there twice
abbrev pub AreOnce : List (List ℕ) → Type 0
AreOnce [] = Unit {0}
AreOnce (name ∷ names) = (holds names name ≡ false) × AreOnce names

abbrev pub AreShort : List (List ℕ) → Type 0
AreShort [] = Unit {0}
AreShort (name ∷ names) = (length name ≤ NAME_BYTES_MAX) × AreShort names

pub record AreSound (names : List (List ℕ)) : Type 0 where
  pub few : length names ≤ NAMES_MAX
  pub short : AreShort names
  pub once : AreOnce names

pub record IsSound (l : Listening) : Type 0 where
  pub channels : AreSound l.channels
  pub patterns : AreSound l.patterns
