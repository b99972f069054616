-- The spelling of one value more.
use Rattle.std.proofs.Common.{◌≡◌, ℕ, suc, ◌+◌, ◌<◌, List, [], ◌∷◌, ◌++◌, length, map, take, drop, get_or, refl, sym, ap, ◌∙◌, append_assoc, decimal}
use Rattle.std.proofs.lemmas.List.{append-nil, take-append-drop, take_more, map-append, length-map}
use Rattle.resp2.specs.declared.framing.value.Value.{Value}
use Rattle.resp2.specs.Framing.Frame.{Frame, frames_of, view, count, spelling, spellings, items, line_end}

spellings-append : (fs gs : List Frame) → spellings (frames_of (fs ++ gs)) ≡ spellings (frames_of fs) ++ spellings (frames_of gs)
spellings-append [] gs = refl
spellings-append (f ∷ fs) gs = ap (λ (t : List ℕ). spelling f ++ t) (spellings-append fs gs) ∙ sym (append_assoc (spelling f) (spellings (frames_of fs)) (spellings (frames_of gs)))

spellings_push : (fs : List Frame) (f : Frame) → spellings (frames_of (fs ++ f ∷ [])) ≡ spellings (frames_of fs) ++ spelling f
spellings_push fs f = spellings-append fs (f ∷ []) ∙ ap (λ (t : List ℕ). spellings (frames_of fs) ++ t) (append-nil (spelling f))

abbrev pub spelled : List Value → List ℕ
spelled vs = spellings (frames_of (map view vs))

-- the values so far and the next one
pub spelled_next : (xs : List Value) (i : ℕ) (v : Value) → i < length xs → v ≡ get_or xs i v → spelled (take (i + 1) xs) ≡ spelled (take i xs) ++ spelling (view v)
spelled_next xs i v h is =
    rw (take_more xs i v h, map-append view (take i xs) (get_or xs i v ∷ [])) (spellings_push (map view (take i xs)) (view (get_or xs i v)))
    ∙ ap (λ (w : Value). spelled (take i xs) ++ spelling (view w)) (sym is)

-- the values so far, the next one, and those behind it
pub spelled_around : (xs : List Value) (i : ℕ) (v : Value) → i < length xs → v ≡ get_or xs i v
    → spelled (take i xs) ++ (spelling (view v) ++ spelled (drop (i + 1) xs)) ≡ spelled xs
spelled_around xs i v h is =
    let front : List ℕ = spelled (take i xs) in
    let behind : List ℕ = spelled (drop (i + 1) xs) in
    sym (append_assoc front (spelling (view v)) behind)
    ∙ ap (λ (t : List ℕ). t ++ behind) (sym (spelled_next xs i v h is))
    ∙ sym (spellings-append (map view (take (i + 1) xs)) (map view (drop (i + 1) xs)))
    ∙ ap (λ (fs : List Frame). spellings (frames_of fs)) (sym (map-append view (take (i + 1) xs) (drop (i + 1) xs)))
    ∙ ap spelled (take-append-drop (i + 1) xs)

pub count_is : (fs : List Frame) → count (frames_of fs) ≡ length fs
count_is [] = refl
count_is (f ∷ fs) = ap suc (count_is fs)

pub items_spelled : (vs : List Value) (n : ℕ) → n ≡ length vs → (42 ∷ (decimal n ++ line_end)) ++ spellings (frames_of (map view vs)) ≡ spelling (items (frames_of (map view vs)))
items_spelled vs n e =
    let many : n ≡ count (frames_of (map view vs)) = e ∙ sym (length-map vs view) ∙ sym (count_is (map view vs)) in
    ap (λ (k : ℕ). (42 ∷ (decimal k ++ line_end)) ++ spellings (frames_of (map view vs))) many
