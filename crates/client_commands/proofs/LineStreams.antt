-- Streams with lines: a stream is the same values however it comes in pieces.
use Rattle.std.proofs.Common.{◌≡◌, ◌∙◌, ◌⊎◌, inl, inr, ℕ, suc, ◌+◌, ◌-◌, ◌≤◌, ◌<◌, ◌&&◌, Bool, true, false, eqb, List, [], ◌∷◌, ◌++◌, length, take, drop, Option, Some, None, Result, Ok, Err, refl, sym, ap, subst, arith, length-append, true≢false}
use Rattle.std.specs.Prelude.{not, nat_le, nat_lt}
use Rattle.std.proofs.lemmas.Bool.{and_parts, or_parts, cases_lt, lt-ltb, le-ltb, leb-true, eqb-true}
use Rattle.std.proofs.lemmas.List.{take-append-le, drop-append-le}
use Rattle.ballot_law.specs.Words.{some_if}
use Rattle.tokens.specs.Quotes.{redis_words}
use Rattle.resp2.specs.declared.framing.fault.FrameFault.TheVariants.{BadKind}
use Rattle.resp2.specs.declared.framing.fault.Unread.{Unread}
use Rattle.resp2.specs.declared.framing.fault.Unread.TheVariants.{NeedsMore, Faulty}
use Rattle.resp2.specs.Framing.Frame.{Frame, simple, fault, int, bulk, null_bulk, items, null_items, spelling, IsFrame}
use Rattle.resp2.specs.Framing.Reading as read
use Rattle.resp2.specs.Framing.Reading.{frame_at, Stays}
use Rattle.resp2.proofs.FramingLemmas.Drains.{nothing_waits}
use Rattle.resp2.proofs.FramingLemmas.Steps.{ok_is}
use Rattle.resp2.proofs.FramingLemmas.Streams.{read_is_spelled, spelled_is_read}
use Rattle.resp2.proofs.FramingLemmas.Window.{frame_stays, waits_within}
use Rattle.client_commands.specs.Lines.{array_of, is_web, is_short, command_in, command_of_line, is_kind, begins_line, line_size, read_as, line_at, value_at, IsLineOf, Reads}
use Rattle.client_commands.proofs.LineLemmas.{line_ends, line_goes_on, array_frame}

-- ---- lines and values of RESP2

pub as_line : (bytes : List ℕ) → begins_line bytes ≡ true → value_at bytes ≡ line_at bytes
unfolding value_at
as_line bytes h = ap (λ (t : Bool). elim t as (λ _. Result (Frame × List ℕ) Unread) [ true ↦ line_at bytes | false ↦ frame_at bytes ]) h

pub as_frame : (bytes : List ℕ) → begins_line bytes ≡ false → value_at bytes ≡ frame_at bytes
unfolding value_at
as_frame bytes h = ap (λ (t : Bool). elim t as (λ _. Result (Frame × List ℕ) Unread) [ true ↦ line_at bytes | false ↦ frame_at bytes ]) h

-- a byte of no kind is at fault in RESP2
abbrev IsNoKind : ℕ → Type 0
IsNoKind b = (eqb b 42 ≡ false) × (eqb b 36 ≡ false) × (eqb b 43 ≡ false) × (eqb b 45 ≡ false) × (eqb b 58 ≡ false)

no_kind_at : (most more : ℕ) (inner : List ℕ → Result (Frame × List ℕ) Unread) (b : ℕ) (bytes : List ℕ) → IsNoKind b
    → read.kind_at most more inner b bytes ≡ Err (Faulty BadKind)
unfolding read.kind_at
no_kind_at most more inner b bytes h = rw (h.2, h.3, h.4, h.1, h.0) refl

no_kind : (b : ℕ) (bs : List ℕ) → IsNoKind b → frame_at (b ∷ bs) ≡ Err (Faulty BadKind)
unfolding frame_at read.value_at
no_kind b bs h =
    let more = 65536 - length (b ∷ bs) in
    ap (read.in_window (b ∷ bs)) (no_kind_at 1024 more (read.value_at 1024 more 7) b (take 65535 bs) h)

not_true : (t : Bool) → not t ≡ true → t ≡ false
not_true true h = absurd (true≢false (sym h))
not_true false h = refl

pub line_is_faulty : (bytes : List ℕ) → begins_line bytes ≡ true → frame_at bytes ≡ Err (Faulty BadKind)
line_is_faulty [] h = absurd (true≢false (sym h))
line_is_faulty (b ∷ bs) h =
    let one = or_parts (eqb b 42) _ (not_true (is_kind b) h) in
    let two = or_parts (eqb b 36) _ one.1 in
    let three = or_parts (eqb b 43) _ two.1 in
    let four = or_parts (eqb b 45) (eqb b 58) three.1 in
    no_kind b bs (one.0, two.0, three.0, four.0, four.1)

spelled_begins : (f : Frame) (rest : List ℕ) → begins_line (spelling f ++ rest) ≡ false
spelled_begins (simple text) rest = refl
spelled_begins (fault text) rest = refl
spelled_begins (int n) rest = refl
spelled_begins (bulk bytes) rest = refl
spelled_begins null_bulk rest = refl
spelled_begins (items fs) rest = refl
spelled_begins null_items rest = refl

-- a value in its spelling is read as in RESP2
pub spelled_is_value : (f : Frame) (rest : List ℕ) → IsFrame f → value_at (spelling f ++ rest) ≡ Ok (f, rest)
spelled_is_value f rest frame = as_frame (spelling f ++ rest) (spelled_begins f rest) ∙ spelled_is_read (spelling f ++ rest) f rest (refl, frame)

-- ---- which line is a command

some_if_found : {X : Type 0} (test : Bool) (x y : X) → some_if test x ≡ Some y → (test ≡ true) × (x ≡ y)
some_if_found true x y h = (refl, cc)
some_if_found false x y h = absurd cc

-- the words of a line, and what they make
abbrev IsMade : Option (List (List ℕ)) → Frame → Type 0
IsMade found value = (words : List (List ℕ)) × (found ≡ Some words) × (value ≡ array_of words) × IsFrame value

made : (found : Option (List (List ℕ))) (value : Frame) → elim found as (λ _. Option Frame) [ Some words ↦ command_in words | None ↦ None ] ≡ Some value → IsMade found value
made None value h = absurd cc
made (Some words) value h =
    let one = some_if_found (not (is_web words) && is_short words) (array_of words) value h in
    let two = and_parts (not (is_web words)) (is_short words) one.0 in
    let three = and_parts (nat_le (length words) 1024) (nat_le (length (spelling (array_of words))) 65536) two.1 in
    let frame = array_frame words (leb-true (length words) 1024 three.0) (leb-true (length (spelling (array_of words))) 65536 three.1) in
    (words, refl, sym one.1, subst IsFrame one.1 frame)

read_found : (command : Option Frame) (after : List ℕ) (value : Frame) (rest : List ℕ) → read_as command after ≡ Ok (value, rest) → (command ≡ Some value) × (after ≡ rest)
read_found None after value rest h = absurd cc
read_found (Some v) after value rest h =
    let same = ok_is (v, after) (value, rest) h in
    (ap (λ (x : Frame × List ℕ). Some x.0) same, ap (λ (x : Frame × List ℕ). x.1) same)

read_waits : (command : Option Frame) (after : List ℕ) → read_as command after ≡ Err NeedsMore → ⊥
read_waits None after h = cc
read_waits (Some v) after h = cc

-- a line that has its LF
cut_by : (b : ℕ) (bs : List ℕ) (t : Bool) → eqb b 10 ≡ t → (line_size bs < length bs → bs ≡ take (line_size bs) bs ++ 10 ∷ drop (line_size bs + 1) bs) → line_size (b ∷ bs) < suc (length bs)
    → b ∷ bs ≡ take (line_size (b ∷ bs)) (b ∷ bs) ++ 10 ∷ drop (line_size (b ∷ bs) + 1) (b ∷ bs)
cut_by b bs true h others lt = rw (line_ends b bs h) (ap (λ (x : ℕ). x ∷ bs) (eqb-true b 10 h))
cut_by b bs false h others lt =
    let one = line_goes_on b bs h in
    let next : suc (line_size bs) + 1 ≡ suc (line_size bs + 1) = omega arith in
    rw (one, next) (ap (λ (t : List ℕ). b ∷ t) (others (omega (arith, one, lt))))

line_cut : (bytes : List ℕ) → line_size bytes < length bytes → bytes ≡ take (line_size bytes) bytes ++ 10 ∷ drop (line_size bytes + 1) bytes
line_cut [] lt = absurd (omega arith)
line_cut (b ∷ bs) lt = cut_by b bs (eqb b 10) refl (line_cut bs) lt

-- ---- how a line is found

abbrev by_length : (long ended : Bool) → List ℕ → Result (Frame × List ℕ) Unread
by_length long ended bytes =
    elim long as (λ _. Result (Frame × List ℕ) Unread) [
      | true ↦ Err (Faulty BadKind)
      | false ↦ elim ended as (λ _. Result (Frame × List ℕ) Unread) [
        | true ↦ read_as (command_of_line (take (line_size bytes) bytes)) (drop (line_size bytes + 1) bytes)
        | false ↦ Err NeedsMore
      ]
    ]

too_long : (bytes : List ℕ) → 65536 < line_size bytes → line_at bytes ≡ Err (Faulty BadKind)
too_long bytes lt = ap (λ (t : Bool). by_length t (nat_lt (line_size bytes) (length bytes)) bytes) (lt-ltb 65536 (line_size bytes) lt)

short_enough : (bytes : List ℕ) → line_size bytes ≤ 65536 → line_at bytes ≡ by_length false (nat_lt (line_size bytes) (length bytes)) bytes
short_enough bytes le = ap (λ (t : Bool). by_length t (nat_lt (line_size bytes) (length bytes)) bytes) (le-ltb 65536 (line_size bytes) le)

has_end : (bytes : List ℕ) → line_size bytes ≤ 65536 → line_size bytes < length bytes
    → line_at bytes ≡ read_as (command_of_line (take (line_size bytes) bytes)) (drop (line_size bytes + 1) bytes)
has_end bytes le lt = short_enough bytes le ∙ ap (λ (t : Bool). by_length false t bytes) (lt-ltb (line_size bytes) (length bytes) lt)

has_no_end : (bytes : List ℕ) → line_size bytes ≤ 65536 → length bytes ≤ line_size bytes → line_at bytes ≡ Err NeedsMore
has_no_end bytes le ge = short_enough bytes le ∙ ap (λ (t : Bool). by_length false t bytes) (le-ltb (line_size bytes) (length bytes) ge)

-- the line with which these bytes begin, and its value
line_found : (bytes : List ℕ) (value : Frame) (rest : List ℕ) → line_at bytes ≡ Ok (value, rest) → IsLineOf bytes value rest × IsFrame value
line_found bytes value rest h =
    elim (cases_lt 65536 (line_size bytes)) [
      | inl lt ↦ absurd (let no = sym (too_long bytes lt) ∙ h in cc)
      | inr le ↦ elim (cases_lt (line_size bytes) (length bytes)) [
        | inl lt ↦
            let got = read_found (command_of_line (take (line_size bytes) bytes)) (drop (line_size bytes + 1) bytes) value rest (sym (has_end bytes le lt) ∙ h) in
            let words = made (redis_words (take (line_size bytes) bytes)) value got.0 in (
              record {
                line = take (line_size bytes) bytes;
                words = words.0;
                text = line_cut bytes lt ∙ ap (λ (t : List ℕ). take (line_size bytes) bytes ++ 10 ∷ t) got.1;
                words_are = words.1;
                value_is = words.2;
              },
              words.3,
            )
        | inr ge ↦ absurd (let no = sym (has_no_end bytes le ge) ∙ h in cc)
      ]
    ]

-- a line without its LF
line_waits : (bytes : List ℕ) → line_at bytes ≡ Err NeedsMore → length bytes ≤ 65536
line_waits bytes h =
    elim (cases_lt 65536 (line_size bytes)) [
      | inl lt ↦ absurd (let no = sym (too_long bytes lt) ∙ h in cc)
      | inr le ↦ elim (cases_lt (line_size bytes) (length bytes)) [
        | inl lt ↦ absurd (read_waits (command_of_line (take (line_size bytes) bytes)) (drop (line_size bytes + 1) bytes) (sym (has_end bytes le lt) ∙ h))
        | inr ge ↦ omega (arith, le, ge)
      ]
    ]

-- ---- the first value

by_begin : {A : Type 0} (bytes : List ℕ) (test : Bool) → begins_line bytes ≡ test → (begins_line bytes ≡ true → A) → (begins_line bytes ≡ false → A) → A
by_begin bytes true h line frame = line h
by_begin bytes false h line frame = frame h

-- it is spelled, or its words are those of a line
pub spelled_or_line : (bytes : List ℕ) (value : Frame) (rest : List ℕ) → value_at bytes ≡ Ok (value, rest)
    → ((bytes ≡ spelling value ++ rest) ⊎ IsLineOf bytes value rest) × IsFrame value
spelled_or_line bytes value rest h =
    by_begin bytes (begins_line bytes) refl
    (λ line. let found = line_found bytes value rest (sym (as_line bytes line) ∙ h) in (inr found.0, found.1))
    (λ frame. let found = read_is_spelled bytes value rest (sym (as_frame bytes frame) ∙ h) in (inl found.0, found.1))

pub value_is_frame : (bytes : List ℕ) (value : Frame) (rest : List ℕ) → value_at bytes ≡ Ok (value, rest) → IsFrame value
value_is_frame bytes value rest h = (spelled_or_line bytes value rest h).1

pub value_waits : (bytes : List ℕ) → value_at bytes ≡ Err NeedsMore → length bytes ≤ 65536
value_waits bytes h =
    by_begin bytes (begins_line bytes) refl
    (λ line. line_waits bytes (sym (as_line bytes line) ∙ h))
    (λ frame. waits_within bytes (sym (as_frame bytes frame) ∙ h))

-- ---- more bytes come

size_by : (b : ℕ) (bs p : List ℕ) (t : Bool) → eqb b 10 ≡ t → (line_size bs < length bs → line_size (bs ++ p) ≡ line_size bs) → line_size (b ∷ bs) < suc (length bs)
    → line_size (b ∷ (bs ++ p)) ≡ line_size (b ∷ bs)
size_by b bs p true h others lt = line_ends b (bs ++ p) h ∙ sym (line_ends b bs h)
size_by b bs p false h others lt =
    let one = line_goes_on b bs h in
    line_goes_on b (bs ++ p) h ∙ ap suc (others (omega (arith, one, lt))) ∙ sym one

size_stays : (bytes p : List ℕ) → line_size bytes < length bytes → line_size (bytes ++ p) ≡ line_size bytes
size_stays [] p lt = absurd (omega arith)
size_stays (b ∷ bs) p lt = size_by b bs p (eqb b 10) refl (size_stays bs p) lt

grows_by : (b : ℕ) (bs p : List ℕ) (t : Bool) → eqb b 10 ≡ t → line_size bs ≤ line_size (bs ++ p) → line_size (b ∷ bs) ≤ line_size (b ∷ (bs ++ p))
grows_by b bs p true h le = let none = line_ends b bs h in omega (arith, none)
grows_by b bs p false h le = let one = line_goes_on b bs h in let more = line_goes_on b (bs ++ p) h in omega (arith, one, more, le)

size_grows : (bytes p : List ℕ) → line_size bytes ≤ line_size (bytes ++ p)
size_grows [] p = omega arith
size_grows (b ∷ bs) p = grows_by b bs p (eqb b 10) refl (size_grows bs p)

read_stays : (p : List ℕ) (command : Option Frame) (rest : List ℕ) → Stays p (read_as command rest) (read_as command (rest ++ p))
read_stays p None rest = refl
read_stays p (Some value) rest = refl

line_stays : (p bytes : List ℕ) → Stays p (line_at bytes) (line_at (bytes ++ p))
line_stays p bytes =
    elim (cases_lt 65536 (line_size bytes)) [
      | inl lt ↦ let grows = size_grows bytes p in rw (too_long bytes lt, too_long (bytes ++ p) (omega (arith, lt, grows))) refl
      | inr le ↦ elim (cases_lt (line_size bytes) (length bytes)) [
        | inl lt ↦
            let same = size_stays bytes p lt in
            let longer : line_size (bytes ++ p) < length (bytes ++ p) = omega (arith, same, lt, length-append bytes p) in
            let front : take (line_size (bytes ++ p)) (bytes ++ p) ≡ take (line_size bytes) bytes =
            ap (λ (n : ℕ). take n (bytes ++ p)) same ∙ take-append-le (line_size bytes) bytes p (omega (arith, lt)) in
            let back : drop (line_size (bytes ++ p) + 1) (bytes ++ p) ≡ drop (line_size bytes + 1) bytes ++ p =
            ap (λ (n : ℕ). drop (n + 1) (bytes ++ p)) same ∙ drop-append-le (line_size bytes + 1) bytes p (omega (arith, lt)) in
            let there : line_at (bytes ++ p) ≡ read_as (command_of_line (take (line_size bytes) bytes)) (drop (line_size bytes + 1) bytes ++ p) =
            has_end (bytes ++ p) (omega (arith, same, le)) longer
            ∙ ap (λ (t : List ℕ). read_as (command_of_line t) (drop (line_size (bytes ++ p) + 1) (bytes ++ p))) front
            ∙ ap (λ (t : List ℕ). read_as (command_of_line (take (line_size bytes) bytes)) t) back in
            rw (has_end bytes le lt, there) (read_stays p (command_of_line (take (line_size bytes) bytes)) (drop (line_size bytes + 1) bytes))
        | inr ge ↦ rw (has_no_end bytes le ge) tt
      ]
    ]

begins_same : (b : ℕ) (bs p : List ℕ) (test : Bool) → begins_line (b ∷ bs) ≡ test → begins_line ((b ∷ bs) ++ p) ≡ test
begins_same b bs p test h = h

pub value_stays : (p bytes : List ℕ) → Stays p (value_at bytes) (value_at (bytes ++ p))
value_stays p [] = rw (as_frame [] refl, nothing_waits) tt
value_stays p (b ∷ bs) =
    by_begin (b ∷ bs) (begins_line (b ∷ bs)) refl
    (λ line. rw (as_line (b ∷ bs) line, as_line ((b ∷ bs) ++ p) (begins_same b bs p true line)) (line_stays p (b ∷ bs)))
    (λ frame. rw (as_frame (b ∷ bs) frame, as_frame ((b ∷ bs) ++ p) (begins_same b bs p false frame)) (frame_stays p (b ∷ bs)))

found_longer : (p : List ℕ) (read longer : Result (Frame × List ℕ) Unread) (value : Frame) (rest : List ℕ) → Stays p read longer → read ≡ Ok (value, rest)
    → longer ≡ Ok (value, rest ++ p)
found_longer p (Ok x) longer value rest h e =
    let same = ok_is x (value, rest) e in
    h ∙ ap (λ (y : Frame × List ℕ). let r : Result (Frame × List ℕ) Unread = Ok (y.0, y.1 ++ p) in r) same
found_longer p (Err u) longer value rest h e = absurd cc

-- ---- whole streams

-- one value more
pub reads_next : (stream : List ℕ) (values : List Frame) (bytes : List ℕ) (value : Frame) (rest : List ℕ) → Reads stream values bytes → value_at bytes ≡ Ok (value, rest)
    → Reads stream (values ++ value ∷ []) rest
reads_next stream [] bytes value rest r e = (rest, ap value_at r ∙ e, refl)
reads_next stream (v ∷ vs) bytes value rest r e = (r.0, r.1, reads_next r.0 vs bytes value rest r.2 e)

-- one piece more
pub reads_longer : (stream : List ℕ) (values : List Frame) (bytes piece : List ℕ) → Reads stream values bytes → Reads (stream ++ piece) values (bytes ++ piece)
reads_longer stream [] bytes piece r = ap (λ (t : List ℕ). t ++ piece) r
reads_longer stream (v ∷ vs) bytes piece r = (
  r.0 ++ piece,
  found_longer piece (value_at stream) (value_at (stream ++ piece)) v r.0 (value_stays piece stream) r.1,
  reads_longer r.0 vs bytes piece r.2,
)

-- the values of one stream after those of another that it goes on
pub reads_on : (stream : List ℕ) (values more : List Frame) (middle rest : List ℕ) → Reads stream values middle → Reads middle more rest → Reads stream (values ++ more) rest
reads_on stream [] more middle rest r s = subst (λ (t : List ℕ). Reads t more rest) (sym r) s
reads_on stream (v ∷ vs) more middle rest r s = (r.0, r.1, reads_on r.0 vs more middle rest r.2 s)

-- two pieces in a row
pub reads_join : (stream piece held : List ℕ) (values more : List Frame) (rest : List ℕ) → Reads stream values held → Reads (held ++ piece) more rest
    → Reads (stream ++ piece) (values ++ more) rest
reads_join stream piece held values more rest r s = reads_on (stream ++ piece) values more (held ++ piece) rest (reads_longer stream values held piece r) s
