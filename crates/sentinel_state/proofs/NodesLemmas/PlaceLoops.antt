-- Loops over the places of a list that change each item and put out its frames.
use Rattle.std.proofs.Common.{◌≡◌, ℕ, ◌+◌, ◌<◌, List, [], ◌∷◌, ◌++◌, length, get_or, set, take, drop, ap, sym, ◌∙◌, arith, append_assoc}
use Rattle.std.proofs.lemmas.List.{take_more_set, drop_more, drop-set-lt}
use Rattle.sentinel_rules.specs.declared.frames.Frame.{Frame}
use Rattle.sentinel_rules.specs.Parts.{changed_from, frames_from}
use Rattle.sentinel_state.specs.Nodes.Room.{added}
use Rattle.sentinel_state.proofs.NodesLemmas.RoomLemmas.{added_both}

-- one item more is changed
pub changed_more : {X : Type 0} (change : ℕ → X → X) (xs all : List X) (i : ℕ) (d new : X) → i < length xs → new ≡ change i (get_or xs i d) →
    take i xs ++ changed_from change i (drop i xs) ≡ all → take (i + 1) (set xs i new) ++ changed_from change (i + 1) (drop (i + 1) (set xs i new)) ≡ all
changed_more change xs all i d new lt is so_far =
    let more : i < i + 1 = omega arith in
    let front : drop i xs ≡ get_or xs i d ∷ drop (i + 1) xs = drop_more xs i d lt in
    let rest = changed_from change (i + 1) (drop (i + 1) xs) in
    rw (take_more_set xs i new lt, drop-set-lt (i + 1) xs i new more)
    (append_assoc (take i xs) (new ∷ []) rest
    ∙ ap (λ x. take i xs ++ x ∷ rest) is
    ∙ ap (λ ys. take i xs ++ changed_from change i ys) (sym front)
    ∙ so_far)

-- the frames of one item more are put out
pub frames_more : {X : Type 0} (frames : ℕ → X → List Frame) (xs : List X) (before after all : List Frame) (i : ℕ) (d : X) → i < length xs →
    after ≡ added before (frames i (get_or xs i d)) → added before (frames_from frames i (drop i xs)) ≡ all → added after (frames_from frames (i + 1) (drop (i + 1) xs)) ≡ all
frames_more frames xs before after all i d lt is so_far =
    let front : drop i xs ≡ get_or xs i d ∷ drop (i + 1) xs = drop_more xs i d lt in
    let rest = frames_from frames (i + 1) (drop (i + 1) xs) in
    ap (λ out. added out rest) is
    ∙ added_both before (frames i (get_or xs i d)) rest
    ∙ ap (λ ys. added before (frames_from frames i ys)) (sym front)
    ∙ so_far

-- also where the item was changed
pub frames_more_set : {X : Type 0} (frames : ℕ → X → List Frame) (xs : List X) (before after all : List Frame) (i : ℕ) (d new : X) → i < length xs →
    after ≡ added before (frames i (get_or xs i d)) → added before (frames_from frames i (drop i xs)) ≡ all →
    added after (frames_from frames (i + 1) (drop (i + 1) (set xs i new))) ≡ all
frames_more_set frames xs before after all i d new lt is so_far =
    let more : i < i + 1 = omega arith in
    rw (drop-set-lt (i + 1) xs i new more) (frames_more frames xs before after all i d lt is so_far)
