-- Words as bulk strings.
use Rattle.std.proofs.Common.{◌≡◌, ℕ, List, [], ◌∷◌, ◌++◌, map, refl, ap, sym, ◌∙◌, append-nil}
use Rattle.resp2.specs.Commands.{bulks}
use Rattle.resp2.specs.Framing.Frame.{frame, bulk, frames_of, frames_view, view}
use Rattle.resp2.specs.declared.framing.value.Value.{Value}

frames_of-bulk : (words : List (List ℕ)) → frames_of (map bulk words) ≡ bulks words
frames_of-bulk [] = refl
frames_of-bulk (word ∷ words) = ap (frame (bulk word)) (frames_of-bulk words)

pub all_bulk : (values : List Value) (words : List (List ℕ)) → map view values ++ map bulk [] ≡ map bulk words → frames_view values ≡ bulks words
all_bulk values words seen = ap frames_of (sym (append-nil (map view values)) ∙ seen) ∙ frames_of-bulk words
