-- The digits of `hex`, one at a time.
use Rattle.std.proofs.Common.{◌≡◌, ℕ, suc, ◌/◌, ◌%◌, [], ◌∷◌, ◌++◌, refl}
use Rattle.ballot_law.specs.Words.{hex, hex_digit}

pub hex_none : (n : ℕ) → hex 0 n ≡ []
unfolding hex
hex_none n = refl

hex_suc : (k n : ℕ) → hex (suc k) n ≡ hex k (n / 16) ++ hex_digit (n % 16) ∷ []
unfolding hex
hex_suc k n = refl
