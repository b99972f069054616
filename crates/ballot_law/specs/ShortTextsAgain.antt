-- The fields of a short text can be had back from its bytes.
use Rattle.std.specs.Prelude.{◌≡◌, ◌≤◌, length, take}
use Rattle.std.proofs.Common.{refl}
use Rattle.std.proofs.lemmas.List.{length-take-le}
use Rattle.ballot_law.specs.declared.texts.ShortText.TheInside.{Inside}
use Rattle.ballot_law.specs.declared.texts.TheConstants.{SHORT_TEXT_MAX}
use Rattle.ballot_law.specs.Padding.{padded-take}
use Rattle.ballot_law.specs.ShortTexts.{IsPadded, bytes_of, text_of}

pub text_of_bytes_of : (text : Inside) → IsPadded text → text_of (bytes_of text) ≡ text
text_of_bytes_of text p =
    let fits : text.len ≤ length text.bytes = rw p.whole p.fits in
    let short : length (take text.len text.bytes) ≡ text.len = length-take-le text.len text.bytes fits in
    rw (padded-take SHORT_TEXT_MAX text.bytes text.len p, short) refl
