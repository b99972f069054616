-- Which lines are UTF-8.
use Rattle.std.proofs.Common.{◌≡◌, ℕ, Bool, true, false, List, refl, ap, sym}
use Rattle.std.specs.Prelude.{not}
use Rattle.std.specs.Str.{IsUtf8, is_utf8}
use Rattle.std.proofs.lemmas.Str.{is_utf8-from_IsUtf8, IsUtf8-from_is_utf8}
use Rattle.conf_check.specs.Errors.Places.{is_foreign}

pub native_text : (bytes : List ℕ) → IsUtf8 bytes → false ≡ is_foreign bytes
native_text bytes u = ap not (sym (is_utf8-from_IsUtf8 bytes u))

no_text_by : (bytes : List ℕ) → ¬ (IsUtf8 bytes) → (t : Bool) → is_utf8 bytes ≡ t → is_utf8 bytes ≡ false
no_text_by bytes h true e = absurd (h (IsUtf8-from_is_utf8 bytes e))
no_text_by bytes h false e = e

pub foreign_text : (bytes : List ℕ) → ¬ (IsUtf8 bytes) → true ≡ is_foreign bytes
foreign_text bytes h = ap not (sym (no_text_by bytes h (is_utf8 bytes) refl))
