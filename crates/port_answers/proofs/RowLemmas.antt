-- Lists of rows that are added one behind the other.
use Rattle.std.proofs.Common.{◌≡◌, ℕ, suc, List, [], ◌∷◌, ◌++◌, length, map, refl, ap, ◌∙◌, decimal}
use Rattle.std.specs.List.{flat_map}
use Rattle.resp2.specs.Framing.Frame.{Frame, items, frames_of, count, spelling, spellings, line_end}
use Rattle.port_answers.specs.Answers.{header}

pub count_rows : {X : Type 0} (frame_of : X → Frame) (rows : List X) → count (frames_of (map frame_of rows)) ≡ length rows
count_rows frame_of [] = refl
count_rows frame_of (row ∷ rows) = ap suc (count_rows frame_of rows)

spelled_rows : {X : Type 0} (frame_of : X → Frame) (rows : List X) → spellings (frames_of (map frame_of rows)) ≡ flat_map (λ row. spelling (frame_of row)) rows
spelled_rows frame_of [] = refl
spelled_rows frame_of (row ∷ rows) = ap (λ t. spelling (frame_of row) ++ t) (spelled_rows frame_of rows)

-- an array of rows is its beginning, and then each row
pub rows_text : {X : Type 0} (frame_of : X → Frame) (rows : List X)
    → spelling (items (frames_of (map frame_of rows))) ≡ header (length rows) ++ flat_map (λ row. spelling (frame_of row)) rows
rows_text frame_of rows =
    ap (λ n. 42 ∷ ((decimal n ++ line_end) ++ spellings (frames_of (map frame_of rows)))) (count_rows frame_of rows)
    ∙ ap (λ t. header (length rows) ++ t) (spelled_rows frame_of rows)
