-- What protocol 3 tells of an answer.
use Rattle.std.proofs.Common.{◌≡◌, ◌∙◌, ◌+◌, ◌/◌, ◌<◌, ℕ, suc, Bool, true, false, true≢false, eqb, List, [], ◌∷◌, ◌++◌, None, Result, Ok, Err, refl, sym, ap, append_assoc, decimal, length, map, take, drop, get_or}
use Rattle.std.specs.List.{flat_map}
use Rattle.std.specs.Prelude.{bytes_eq, is_err, OnOk}
use Rattle.std.proofs.lemmas.Bool.{eqb-true}
use Rattle.std.proofs.lemmas.List.{append-nil, take_more, map-append, take-append-drop}
use Rattle.std.proofs.lemmas.Slice.Eq.{bytes_eq-Decides}
use Rattle.client_commands.specs.declared.protocols.Protocol.{Protocol}
use Rattle.client_commands.specs.declared.protocols.Protocol.TheVariants.{Two, Three}
use Rattle.resp2.specs.declared.framing.fault.FrameFault.{FrameFault}
use Rattle.resp2.specs.declared.framing.value.Value.{Value}
use Rattle.resp2.specs.Framing.Frame.{Frame, FrameList, simple, fault, int, bulk, null_bulk, items, null_items, no_frames, frame, frames_of, frames_view, view, count, line_end, spelling, spellings}
use Rattle.resp2.specs.Framing.Writing.{Adds}
use Rattle.resp2.specs.Framing.Stream.{Held, reading, bytes_in, Feeds, Answers, SoFar}
use Rattle.resp2.proofs.FramingLemmas.Drains.{end_drains}
use Rattle.courteous_sessions.specs.declared.shapes.Shape.{Shape}
use Rattle.courteous_sessions.specs.declared.shapes.Shape.TheVariants.{Plain, Whole, Pairs, Tables, Verbatim, Pushes, Rows, Docs}
use Rattle.courteous_sessions.specs.Retelling.{spelling3, spellings3, all_told_as, AreTold, IsTold, IsTold3, JoinsTold, null_line, is_null, first_of, second_of}

-- ---- the words of a command

pub first_as : (bytes : List ℕ) (fs gs : FrameList) → bytes ≡ first_of fs → fs ≡ gs → bytes ≡ first_of gs
first_as bytes fs gs is same = is ∙ ap first_of same

pub second_as : (bytes : List ℕ) (fs gs : FrameList) → bytes ≡ second_of fs → fs ≡ gs → bytes ≡ second_of gs
second_as bytes fs gs is same = is ∙ ap second_of same

-- ---- the spelling of one value more

spellings3-append : (fs gs : List Frame) → spellings3 (frames_of (fs ++ gs)) ≡ spellings3 (frames_of fs) ++ spellings3 (frames_of gs)
spellings3-append [] gs = refl
spellings3-append (f ∷ fs) gs =
    ap (λ (t : List ℕ). spelling3 f ++ t) (spellings3-append fs gs) ∙ sym (append_assoc (spelling3 f) (spellings3 (frames_of fs)) (spellings3 (frames_of gs)))

spellings3_push : (fs : List Frame) (f : Frame) → spellings3 (frames_of (fs ++ f ∷ [])) ≡ spellings3 (frames_of fs) ++ spelling3 f
spellings3_push fs f = spellings3-append fs (f ∷ []) ∙ ap (λ (t : List ℕ). spellings3 (frames_of fs) ++ t) (append-nil (spelling3 f))

abbrev pub spelled3 : List Value → List ℕ
spelled3 vs = spellings3 (frames_of (map view vs))

pub spelled3_next : (xs : List Value) (i : ℕ) (v : Value) → i < length xs → v ≡ get_or xs i v → spelled3 (take (i + 1) xs) ≡ spelled3 (take i xs) ++ spelling3 (view v)
spelled3_next xs i v h is =
    rw (take_more xs i v h, map-append view (take i xs) (get_or xs i v ∷ [])) (spellings3_push (map view (take i xs)) (view (get_or xs i v)))
    ∙ ap (λ (w : Value). spelled3 (take i xs) ++ spelling3 (view w)) (sym is)

-- how many values are told is how many there are
pub count_told : (vs : List Value) → count (frames_view vs) ≡ length vs
count_told [] = refl
count_told (v ∷ vs) = ap suc (count_told vs)

-- ---- values that were read

-- a header tells how many values there are
pub adds_sized : {X E : Type 0} (full : Type 0) (answer : Result X E) (before after : List ℕ) (kind n : ℕ) (vs : List Value) → n ≡ length vs
    → Adds answer before after (kind ∷ (decimal n ++ line_end)) full → OnOk answer (after ≡ before ++ (kind ∷ (decimal (count (frames_view vs)) ++ line_end)))
adds_sized full (Ok x) before after kind n vs size added = added ∙ ap (λ (m : ℕ). before ++ (kind ∷ (decimal m ++ line_end))) (size ∙ sym (count_told vs))
adds_sized full (Err e) before after kind n vs size added = tt

pub adds_halved : {X E : Type 0} (full : Type 0) (answer : Result X E) (before after : List ℕ) (n : ℕ) (vs : List Value) → n ≡ length vs
    → Adds answer before after (37 ∷ (decimal (n / 2) ++ line_end)) full → OnOk answer (after ≡ before ++ (37 ∷ (decimal (count (frames_view vs) / 2) ++ line_end)))
adds_halved full (Ok x) before after n vs size added = added ∙ ap (λ (m : ℕ). before ++ (37 ∷ (decimal (m / 2) ++ line_end))) (size ∙ sym (count_told vs))
adds_halved full (Err e) before after n vs size added = tt

-- the values of a stream, spelled one after the other
spelled_flat : (fs : List Frame) → flat_map spelling fs ≡ spellings (frames_of fs)
spelled_flat [] = refl
spelled_flat (f ∷ fs) = ap (λ (t : List ℕ). spelling f ++ t) (spelled_flat fs)

none_in : (xs : List ℕ) → length xs ≡ 0 → xs ≡ []
none_in [] e = refl
none_in (x ∷ xs) e = absurd (let no : ⊥ = cc in no)

pub none_held : (xs : List ℕ) → true ≡ eqb (length xs) 0 → xs ≡ []
none_held xs e = none_in xs (eqb-true (length xs) 0 (sym e))

-- all bytes that were fed are values that were read
pub all_read : {X Y : Type 0} (fed : Result X FrameFault) (took : Result Y FrameFault) (bytes : List ℕ) (held after : Held) (vs : List Value)
    → is_err fed ≡ false → Feeds (reading []) bytes fed held → ((stream : List ℕ) → SoFar stream [] held → OnOk took (SoFar stream (map view vs) after))
    → is_err took ≡ false → bytes_in after ≡ [] → bytes ≡ spellings (frames_view vs)
all_read (Err f) took bytes held after vs ok given read on none = absurd (true≢false ok)
all_read (Ok x) (Err f) bytes held after vs ok given read on none = absurd (true≢false on)
all_read (Ok x) (Ok y) bytes held after vs ok given read on none =
    let start : SoFar bytes [] held = (bytes, given, (refl, tt)) in
    let so_far = read bytes start in
    let rest : so_far.0 ≡ [] = sym (ap bytes_in so_far.1) ∙ none in
    let fs = map view vs in
    so_far.2.0 ∙ ap (λ (t : List ℕ). flat_map spelling fs ++ t) rest ∙ append-nil (flat_map spelling fs) ∙ spelled_flat fs

-- no whole value is left
pub end_so_far : (stream : List ℕ) (fs : List Frame) (held after : Held) → SoFar stream fs held → Answers {V = Value} view held (Ok None) after → SoFar stream fs after
end_so_far stream fs held after so_far none = let ends = end_drains stream fs held after so_far none in (ends.0, ends.1, ends.2)

-- an array is spelled by its size and its items
pub array_read : (n : ℕ) (rest bytes again : List ℕ) (vs : List Value) → rest ≡ spellings (frames_view vs) → n ≡ length vs
    → again ≡ (42 ∷ (decimal n ++ line_end)) ++ rest → bytes_eq again bytes ≡ true → bytes ≡ spelling (items (frames_view vs))
array_read n rest bytes again vs is size all same =
    sym ((bytes_eq-Decides again bytes).0 same) ∙ all ∙ ap (λ (t : List ℕ). 42 ∷ ((decimal n ++ line_end) ++ t)) is
    ∙ ap (λ (m : ℕ). 42 ∷ ((decimal m ++ line_end) ++ spellings (frames_view vs))) (size ∙ sym (count_told vs))

pub text_read : (text bytes again : List ℕ) → again ≡ spelling (bulk text) → bytes_eq again bytes ≡ true → bytes ≡ spelling (bulk text)
text_read text bytes again is same = sym ((bytes_eq-Decides again bytes).0 same) ∙ is

-- ---- what is told as it is

pub told_plain : (n : ℕ) (unsent answer : List ℕ) → answer ≡ drop n unsent → is_null answer ≡ false → JoinsTold Three Plain (drop n unsent) (take n unsent) unsent
told_plain n unsent answer is full =
    let here : is_null (drop n unsent) ≡ false = ap is_null (sym is) ∙ full in (
      drop n unsent,
      sym (take-append-drop n unsent),
      sym (ap (λ (b : Bool). elim b as (λ _. List ℕ) [ true ↦ null_line | false ↦ drop n unsent ]) here),
    )

-- a null is another one
pub told_null : (n : ℕ) (unsent answer after : List ℕ) → answer ≡ drop n unsent → is_null answer ≡ true → after ≡ take n unsent ++ null_line
    → JoinsTold Three Plain (drop n unsent) (take n unsent) after
told_null n unsent answer after is null added =
    let here : is_null (drop n unsent) ≡ true = ap is_null (sym is) ∙ null in
    (null_line, added, sym (ap (λ (b : Bool). elim b as (λ _. List ℕ) [ true ↦ null_line | false ↦ drop n unsent ]) here))

-- ---- where there is no answer

-- each value has a spelling of one byte at least
none_spelled : (values : FrameList) → [] ≡ spellings values → values ≡ no_frames
none_spelled no_frames h = refl
none_spelled (frame (simple text) fs) h = absurd (let no : ⊥ = cc in no)
none_spelled (frame (fault text) fs) h = absurd (let no : ⊥ = cc in no)
none_spelled (frame (int n) fs) h = absurd (let no : ⊥ = cc in no)
none_spelled (frame (bulk bytes) fs) h = absurd (let no : ⊥ = cc in no)
none_spelled (frame null_bulk fs) h = absurd (let no : ⊥ = cc in no)
none_spelled (frame (items gs) fs) h = absurd (let no : ⊥ = cc in no)
none_spelled (frame null_items fs) h = absurd (let no : ⊥ = cc in no)

none_told : (shape : Shape) (bytes : List ℕ) → AreTold shape [] bytes → bytes ≡ []
none_told shape bytes told = told.2 ∙ ap (all_told_as shape) (none_spelled told.0 told.1)

nothing_in_three : (shape : Shape) (bytes : List ℕ) → IsTold3 shape [] bytes → bytes ≡ []
nothing_in_three Plain bytes told = told
nothing_in_three Whole bytes told = none_told Whole bytes told
nothing_in_three Pairs bytes told = none_told Pairs bytes told
nothing_in_three Tables bytes told = none_told Tables bytes told
nothing_in_three Verbatim bytes told = none_told Verbatim bytes told
nothing_in_three Pushes bytes told = none_told Pushes bytes told
nothing_in_three Rows bytes told = none_told Rows bytes told
nothing_in_three Docs bytes told = none_told Docs bytes told

-- of no answer nothing is told
pub told_of_nothing : (protocol : Protocol) (shape : Shape) (bytes : List ℕ) → IsTold protocol shape [] bytes → bytes ≡ []
told_of_nothing Two shape bytes told = told
told_of_nothing Three shape bytes told = nothing_in_three shape bytes told
