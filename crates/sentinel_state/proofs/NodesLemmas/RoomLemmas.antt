-- Frames that are added one after another.
use Rattle.std.proofs.Common.{◌≡◌, ◌≤◌, ◌+◌, List, [], ◌∷◌, ◌++◌, length, refl, ap, sym, ◌∙◌, arith, append_assoc, append-nil, length-append}
use Rattle.bounded_list.proofs.Bounded.{bounded_all}
use Rattle.sentinel_rules.specs.declared.frames.Frame.{Frame}
use Rattle.sentinel_rules.specs.declared.frames.TheConstants.{FRAMES_MAX}
use Rattle.sentinel_state.specs.Nodes.Room.{pushed, added}

-- one part, and then another
pub added_both : (xs ys zs : List Frame) → added (added xs ys) zs ≡ added xs (ys ++ zs)
added_both xs [] zs = refl
added_both xs (y ∷ ys) zs = added_both (pushed xs y) ys zs

-- what there is room for is all there
pub added_all : (xs ys : List Frame) → length xs + length ys ≤ FRAMES_MAX → added xs ys ≡ xs ++ ys
added_all xs [] h = sym (append-nil xs)
added_all xs (y ∷ ys) h =
    let long : length (xs ++ y ∷ []) ≡ length xs + 1 = length-append xs (y ∷ []) in
    ap (λ t. added t ys) (bounded_all FRAMES_MAX (xs ++ y ∷ []) (omega (arith, h, long)))
    ∙ added_all (xs ++ y ∷ []) ys (omega (arith, h, long))
    ∙ append_assoc xs (y ∷ []) ys
