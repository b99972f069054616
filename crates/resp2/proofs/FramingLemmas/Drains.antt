-- Taking the values of a stream piece by piece.
use Rattle.std.proofs.Common.{◌≡◌, ℕ, ◌<◌, ◌+◌, ◌⊎◌, List, [], ◌∷◌, ◌++◌, length, take, drop, get_or, map, Some, None, Result, Ok, Err, refl, sym, ap, ◌∙◌, inl, inr}
use Rattle.std.specs.Prelude.{IfOk}
use Rattle.std.specs.Global.{Vec}
use Rattle.std.specs.List.{flat_map}
use Rattle.std.proofs.lemmas.List.{take_more, flat_map_more, take-append-drop}
use Rattle.std.proofs.lemmas.List.Concat.{flat_map-append}
use Rattle.resp2.specs.declared.framing.fault.FrameFault.{FrameFault}
use Rattle.resp2.specs.declared.framing.fault.FrameFault.TheVariants.{BadKind, BadLength, BadNumber, MissingEnd, TooLong, TooDeep, TooMany, NoMemory}
use Rattle.resp2.specs.declared.framing.fault.Unread.TheVariants.{NeedsMore, Faulty}
use Rattle.resp2.specs.declared.framing.value.Value.{Value}
use Rattle.resp2.specs.Framing.Frame.{Frame, view}
use Rattle.resp2.specs.Framing.Reading.{value_at, frame_at}
use Rattle.resp2.specs.Framing.Stream.{Held, reading, ended, Feeds, Answers, Parts, Splits, SoFar}
use Rattle.resp2.proofs.FramingLemmas.Streams.{parts_next, parts_longer, ended_longer, one_split}

fault_of_answer : (bytes : List ℕ) (f : FrameFault) (after : Held) → Answers view (reading bytes) (Err f) after → (f ≡ NoMemory) ⊎ (frame_at bytes ≡ Err (Faulty f))
fault_of_answer bytes NoMemory after h = inl refl
fault_of_answer bytes BadKind after h = inr h.0
fault_of_answer bytes BadLength after h = inr h.0
fault_of_answer bytes BadNumber after h = inr h.0
fault_of_answer bytes MissingEnd after h = inr h.0
fault_of_answer bytes TooLong after h = inr h.0
fault_of_answer bytes TooDeep after h = inr h.0
fault_of_answer bytes TooMany after h = inr h.0

pub fault_drains : (stream : List ℕ) (fs : List Frame) (held : Held) (f : FrameFault) (after : Held) → SoFar stream fs held → Answers view held (Err f) after →
    (f ≡ NoMemory) ⊎ Splits stream fs (ended f)
fault_drains stream fs (reading bytes) f after s h =
    let same : bytes ≡ s.0 = let e = s.1 in cc in
    elim (fault_of_answer bytes f after h) [ inl none ↦ inl none | inr shows ↦ inr (s.0, s.2, ap frame_at (sym same) ∙ shows) ]
fault_drains stream fs (ended g) f after s h = absurd (let e = s.1 in cc)

pub value_drains : (stream : List ℕ) (fs : List Frame) (held : Held) (v : Value) (after : Held) → SoFar stream fs held → Answers view held (Ok (Some v)) after →
    SoFar stream (fs ++ view v ∷ []) after
value_drains stream fs (reading bytes) v after s h =
    let same : bytes ≡ s.0 = let e = s.1 in cc in
    (h.0, h.2, parts_next stream fs s.0 (view v) h.0 s.2 (ap frame_at (sym same) ∙ h.1))
value_drains stream fs (ended g) v after s h = absurd (let e = s.1 in cc)

pub end_drains : (stream : List ℕ) (fs : List Frame) (held after : Held) → SoFar stream fs held → Answers {V = Value} view held (Ok None) after
    → (rest : List ℕ) × (after ≡ reading rest) × Parts stream fs rest × (frame_at rest ≡ Err NeedsMore)
end_drains stream fs (reading bytes) after s h =
    let same : bytes ≡ s.0 = let e = s.1 in cc in
    (s.0, h.1 ∙ ap reading same, s.2, ap frame_at (sym same) ∙ h.0)
end_drains stream fs (ended g) after s h = absurd (let e = s.1 in cc)

-- ---- pieces

pub nothing_waits : frame_at [] ≡ Err NeedsMore
unfolding frame_at value_at
nothing_waits = refl

pub fed_so_far : {X : Type 0} (stream piece : List ℕ) (fs : List Frame) (held after : Held) (x : X) → SoFar stream fs held → Feeds held piece (Ok x) after →
    SoFar (stream ++ piece) fs after
fed_so_far stream piece fs (reading bytes) after x s h =
    let same : bytes ≡ s.0 = let e = s.1 in cc in
    (s.0 ++ piece, h ∙ ap (λ (t : List ℕ). reading (t ++ piece)) same, parts_longer stream fs s.0 piece s.2)
fed_so_far stream piece fs (ended g) after x s h = absurd (let e = s.1 in cc)

abbrev pub bytes_of : Vec ℕ → List ℕ
bytes_of piece = piece.items

bytes_next : (pieces : List (Vec ℕ)) (i : ℕ) (d : Vec ℕ) → i < length pieces →
    flat_map bytes_of (take (i + 1) pieces) ≡ flat_map bytes_of (take i pieces) ++ bytes_of (get_or pieces i d)
bytes_next pieces i d lt = ap (flat_map bytes_of) (take_more pieces i d lt) ∙ sym (flat_map_more bytes_of [] (take i pieces) (get_or pieces i d))

-- one piece more
pub piece_fed : {X : Type 0} (pieces : List (Vec ℕ)) (i : ℕ) (piece : Vec ℕ) (bytes : List ℕ) (fs : List Frame) (held after : Held) (x : X) → i < length pieces
    → piece ≡ get_or pieces i piece → bytes ≡ bytes_of piece → SoFar (flat_map bytes_of (take i pieces)) fs held → Feeds held bytes (Ok x) after
    → SoFar (flat_map bytes_of (take (i + 1) pieces)) fs after
piece_fed pieces i piece bytes fs held after x lt is read so_far fed =
    let front : List ℕ = flat_map bytes_of (take i pieces) in
    let whole : front ++ bytes ≡ flat_map bytes_of (take (i + 1) pieces) =
    ap (λ (t : List ℕ). front ++ t) read ∙ ap (λ (p : Vec ℕ). front ++ bytes_of p) is ∙ sym (bytes_next pieces i piece lt) in
    rw whole at (fed_so_far front bytes fs held after x so_far fed)

pub fault_of_all : (pieces : List (Vec ℕ)) (i : ℕ) (fs : List Frame) (f : FrameFault) → Splits (flat_map bytes_of (take i pieces)) fs (ended f) →
    Splits (flat_map bytes_of pieces) fs (ended f)
fault_of_all pieces i fs f s =
    let whole : flat_map bytes_of (take i pieces) ++ flat_map bytes_of (drop i pieces) ≡ flat_map bytes_of pieces =
    sym (flat_map-append bytes_of (take i pieces) (drop i pieces)) ∙ ap (flat_map bytes_of) (take-append-drop i pieces) in
    rw whole at (ended_longer (flat_map bytes_of (take i pieces)) fs f (flat_map bytes_of (drop i pieces)) s)

pub only_these : (stream : List ℕ) (answer : Result (Vec Value) FrameFault) → IfOk answer (λ values. (rest : List ℕ) × Splits stream (map view values.items) (reading rest))
    → IfOk answer (λ values. (fs : List Frame) (held : Held) → Splits stream fs held → map view values.items ≡ fs)
only_these stream (Ok values) h = λ fs held s. (one_split stream (map view values.items) fs (reading h.0) held h.1 s).0
only_these stream (Err f) h = tt
