-- What the standard library says of UTF-8, as a test.
use Rattle.std.proofs.Common.{◌≡◌, ℕ, Bool, true, false, List, refl, sym, Result, Ok, Err, Bor}
use Rattle.std.specs.Result.{MatchResult, is_ok}
use Rattle.std.specs.Str.{is_utf8, IsUtf8}
use Rattle.std.proofs.lemmas.Str.{IsUtf8-from_is_utf8, is_utf8-from_IsUtf8}

not_utf8 : (bytes : List ℕ) (t : Bool) → is_utf8 bytes ≡ t → ¬ (IsUtf8 bytes) → false ≡ is_utf8 bytes
not_utf8 bytes true e h = absurd (h (IsUtf8-from_is_utf8 bytes e))
not_utf8 bytes false e h = sym e

pub utf8_tells : {E : Type 0} (bytes : List ℕ) (Q : E → Type 0) (r : Result (Bor (List ℕ)) E)
    → MatchResult r (λ s. (s.now ≡ bytes) × IsUtf8 bytes) (λ e. ¬ (IsUtf8 bytes) × Q e) → is_ok r ≡ is_utf8 bytes
utf8_tells bytes Q (Ok s) h = sym (is_utf8-from_IsUtf8 bytes h.1)
utf8_tells bytes Q (Err e) h = not_utf8 bytes (is_utf8 bytes) refl h.0
