-- Passing the items of a value one after the other, and what the reading of the whole value then gives.
use Rattle.std.proofs.Common.{◌≡◌, ℕ, suc, zero, ◌+◌, ◌-◌, ◌<◌, ◌≤◌, false, ltb, List, [], ◌∷◌, ◌++◌, length, take, drop, Some, Result, Ok, Err, refl, sym, ap, ◌∙◌, append_assoc, arith}
use Rattle.std.proofs.lemmas.Bool.{le-ltb}
use Rattle.std.proofs.lemmas.List.{take-append-drop, length-append, length-drop, take_at, take_all, append-nil}
use Rattle.ballot_law.specs.Results.{◌>>=◌}
use Rattle.resp2.specs.declared.framing.fault.Unread.{Unread}
use Rattle.resp2.specs.declared.framing.fault.Unread.TheVariants.{NeedsMore}
use Rattle.resp2.specs.Framing.Faults.{IsKind}
use Rattle.resp2.specs.Framing.Frame.{Frame, FrameList, simple, fault, int, bulk, null_bulk, items, null_items, frame, line_end, spelling}
use Rattle.resp2.specs.Framing.Reading.{line_length, line_at, number_of, size_of, values_at, items_at, kind_at, value_at, frame_at}
use Rattle.resp2.specs.Framing.Place.{skip, behind_open, Passed, Stands, IsOpenLine, Opens, OpensAt}
use Rattle.resp2.proofs.FramingLemmas.Again.{value_again}
use Rattle.resp2.proofs.FramingLemmas.Lines.{line_takes, line_again, line_length_whole}
use Rattle.resp2.proofs.FramingLemmas.Takes.{value_takes}
use Rattle.resp2.proofs.FramingLemmas.Told.{line_fails, kind_line, value_kind}
use Rattle.resp2.proofs.FramingLemmas.Window.{frame_needs}

-- ---- steps

then_both : {A B C : Type 0} (r : Result A Unread) (f : A → Result B Unread) (g : B → Result C Unread) → ((r >>= f) >>= g) ≡ (r >>= λ x. (f x >>= g))
then_both (Ok x) f g = refl
then_both (Err e) f g = refl

then_ok : {A : Type 0} (r : Result A Unread) → (r >>= λ x. Ok x) ≡ r
then_ok (Ok x) = refl
then_ok (Err e) = refl

then_same : {A B : Type 0} (r : Result A Unread) (f g : A → Result B Unread) → ((x : A) → f x ≡ g x) → (r >>= f) ≡ (r >>= g)
then_same (Ok x) f g same = same x
then_same (Err e) f g same = refl

err_of_rest : (r : Result (Frame × List ℕ) Unread) (u : Unread) → (r >>= λ first. Ok first.1) ≡ Err u → r ≡ Err u
err_of_rest (Ok x) u e = absurd cc
err_of_rest (Err d) u e = let same : d ≡ u = cc in ap (λ (v : Unread). Err v) same

-- ---- arrays that are open

-- the innermost array comes first
behind_pushed : (more depth : ℕ) (outer : List ℕ) (n : ℕ) (bytes : List ℕ)
    → behind_open more depth (outer ++ n ∷ []) bytes ≡ (skip (value_at 1024 more (depth - length outer)) n bytes >>= behind_open more depth outer)
behind_pushed more depth [] n bytes =
    let e : depth ≡ depth - 0 = omega arith in
    sym (then_ok (skip (value_at 1024 more depth) n bytes)) ∙ ap (λ (d : ℕ). skip (value_at 1024 more d) n bytes >>= behind_open more depth []) e
behind_pushed more depth (m ∷ inner) n bytes =
    let last : List ℕ → Result (List ℕ) Unread = λ rest. skip (value_at 1024 more depth) m rest in
    let e : (depth - 1) - length inner ≡ depth - suc (length inner) = omega arith in
    ap (λ (r : Result (List ℕ) Unread). r >>= last) (behind_pushed more (depth - 1) inner n bytes)
    ∙ then_both (skip (value_at 1024 more ((depth - 1) - length inner)) n bytes) (behind_open more (depth - 1) inner) last
    ∙ ap (λ (d : ℕ). skip (value_at 1024 more d) n bytes >>= behind_open more depth (m ∷ inner)) e

-- a list with a value in front of it, and an array of these values
abbrev in_front : Frame → FrameList × List ℕ → Result (FrameList × List ℕ) Unread
in_front f list = Ok (frame f list.0, list.1)

abbrev whole_array : FrameList × List ℕ → Result (Frame × List ℕ) Unread
whole_array list = Ok (items list.0, list.1)

first_then : (inner : List ℕ → Result (Frame × List ℕ) Unread) (n : ℕ) (r : Result (Frame × List ℕ) Unread) →
    ((bytes : List ℕ) → (values_at inner n bytes >>= λ list. Ok list.1) ≡ skip inner n bytes)
    → ((r >>= λ first. values_at inner n first.1 >>= in_front first.0) >>= λ list. Ok list.1) ≡ (r >>= λ first. skip inner n first.1)
first_then inner n (Ok x) same = then_both (values_at inner n x.1) (in_front x.0) (λ list. Ok list.1) ∙ same x.1
first_then inner n (Err e) same = refl

skip_values : (inner : List ℕ → Result (Frame × List ℕ) Unread) (n : ℕ) (bytes : List ℕ) → (values_at inner n bytes >>= λ list. Ok list.1) ≡ skip inner n bytes
unfolding skip values_at
skip_values inner zero bytes = refl
skip_values inner (suc n) bytes = first_then inner n (inner bytes) (λ rest. skip_values inner n rest)

items_then : (r : Result (FrameList × List ℕ) Unread) (f g : List ℕ → Result (List ℕ) Unread)
    → (((r >>= whole_array) >>= λ first. f first.1) >>= g) ≡ ((r >>= λ list. Ok list.1) >>= λ rest. (f rest >>= g))
items_then (Ok x) f g = refl
items_then (Err e) f g = refl

-- ---- passing

pub passed_start : Passed [] [] 1
unfolding skip
passed_start = λ more rest. sym (then_ok (value_at 1024 more 8 rest >>= λ first. Ok first.1))

passed_item : (front head outer : List ℕ) (n : ℕ) (f : Frame) → ((more : ℕ) (rest : List ℕ) → value_at 1024 more (8 - length outer) (head ++ rest) ≡ Ok (f, rest))
    → Passed front outer (suc n) → Passed (front ++ head) outer n
unfolding skip
passed_item front head outer n f reads passed = λ more rest.
    let inner = value_at 1024 more (8 - length outer) in
    ap (λ (t : List ℕ). value_at 1024 more 8 t >>= λ first. Ok first.1) (append_assoc front head rest) ∙ passed more (head ++ rest)
    ∙ ap (λ (r : Result (Frame × List ℕ) Unread). (r >>= λ first. skip inner n first.1) >>= behind_open more 8 outer) (reads more rest)

passed_header : (front head outer : List ℕ) (n count : ℕ) → length outer < 8 → Opens head count → Passed front outer (suc n) → Passed (front ++ head) (outer ++ n ∷ []) count
unfolding skip
passed_header front head outer n count room opens passed = λ more rest.
    let depth = 8 - length (outer ++ n ∷ []) in
    let outside = value_at 1024 more (8 - length outer) in
    let e : 8 - length outer ≡ suc depth = omega (arith, length-append outer (n ∷ [])) in
    let list = values_at (value_at 1024 more depth) count rest in
    let reads : outside (head ++ rest) ≡ (list >>= whole_array) = ap (λ (d : ℕ). value_at 1024 more d (head ++ rest)) e ∙ opens more depth rest in
    ap (λ (t : List ℕ). value_at 1024 more 8 t >>= λ first. Ok first.1) (append_assoc front head rest) ∙ passed more (head ++ rest)
    ∙ ap (λ (r : Result (Frame × List ℕ) Unread). (r >>= λ first. skip outside n first.1) >>= behind_open more 8 outer) reads
    ∙ items_then list (skip outside n) (behind_open more 8 outer)
    ∙ ap (λ (r : Result (List ℕ) Unread). r >>= λ rest. (skip outside n rest >>= behind_open more 8 outer)) (skip_values (value_at 1024 more depth) count rest)
    ∙ then_same (skip (value_at 1024 more depth) count rest) (λ rest. skip outside n rest >>= behind_open more 8 outer) (behind_open more 8 (outer ++ n ∷ []))
    (λ rest. sym (behind_pushed more 8 outer n rest))

pub passed_end : (front outer : List ℕ) (n : ℕ) → Passed front (outer ++ n ∷ []) 0 → Passed front outer n
unfolding skip
passed_end front outer n passed = λ more rest. passed more rest ∙ behind_pushed more 8 outer n rest

passed_waits : (front outer : List ℕ) (n more : ℕ) (rest : List ℕ) (u : Unread) → Passed front outer (suc n) → value_at 1024 more (8 - length outer) rest ≡ Err u →
    value_at 1024 more 8 (front ++ rest) ≡ Err u
unfolding skip
passed_waits front outer n more rest u passed stops =
    let inner = value_at 1024 more (8 - length outer) in
    err_of_rest (value_at 1024 more 8 (front ++ rest)) u (passed more rest ∙
    ap (λ (r : Result (Frame × List ℕ) Unread). (r >>= λ first. skip inner n first.1) >>= behind_open more 8 outer) stops)

-- ---- what an item and a header are made of

-- a spelling has a byte at least
pub spelled_some : (f : Frame) → 0 < length (spelling f)
spelled_some (simple text) = omega arith
spelled_some (fault text) = omega arith
spelled_some (int n) = omega arith
spelled_some (bulk bytes) = omega arith
spelled_some null_bulk = omega arith
spelled_some (items fs) = omega arith
spelled_some null_items = omega arith

-- the bytes of an item, which are read the same whatever follows
abbrev ItemAt : List ℕ → ℕ → Frame → List ℕ → Type 0
ItemAt bytes depth f after = (head : List ℕ) × (bytes ≡ head ++ after) × (0 < length head) × ((more : ℕ) (rest : List ℕ) → value_at 1024 more depth (head ++ rest) ≡ Ok (f, rest))

item_at : (more depth : ℕ) (bytes : List ℕ) (f : Frame) (after : List ℕ) → length bytes + more ≤ 65536 → value_at 1024 more depth bytes ≡ Ok (f, after) → ItemAt bytes depth f after
unfolding value_at
item_at more zero [] f after room e = absurd cc
item_at more zero (b ∷ bs) f after room e = absurd cc
item_at more (suc d) bytes f after room e =
    let t = value_takes 1024 more (suc d) (omega arith) bytes (f, after) (omega arith) e in
    (spelling f, t.parts, spelled_some f, λ longer rest. value_again f 1024 longer d rest t.plain t.deep t.wide)

pub header_opens : (bytes line after : List ℕ) (n : ℕ) → line_at bytes ≡ Ok (line, after) → number_of line ≡ Some n → n ≤ 1024 → OpensAt (42 ∷ bytes) n after
unfolding value_at kind_at items_at size_of
header_opens bytes line after n e number few =
    let t = line_takes bytes line after e in
    let within : ltb 1024 n ≡ false = le-ltb _ _ few in
    let opens : Opens (42 ∷ (line ++ line_end)) n = λ more depth rest. rw (append_assoc line line_end rest, line_again line rest t.1, number, within) refl in
    (42 ∷ (line ++ line_end), ap (λ (s : List ℕ). 42 ∷ s) (t.0 ∙ sym (append_assoc line line_end after)), omega arith, opens)

-- ---- a place in the bytes

front_moves : (bytes : List ℕ) (at : ℕ) (head after : List ℕ) → drop at bytes ≡ head ++ after → take (length bytes - length after) bytes ≡ take at bytes ++ head
front_moves bytes at head after parts =
    let front = take at bytes ++ head in
    let whole : bytes ≡ front ++ after = sym (take-append-drop at bytes) ∙ ap (λ (t : List ℕ). take at bytes ++ t) parts ∙ sym (append_assoc (take at bytes) head after) in
    let count : length bytes - length after ≡ length front = omega (arith, ap length whole, length-append front after) in
    ap (λ (k : ℕ). take k bytes) count ∙ ap (λ (t : List ℕ). take (length front) t) whole ∙ take_at front after (length front) refl

pub stands_start : (bytes outer : List ℕ) → outer ≡ [] → Stands bytes outer 1 0
stands_start bytes outer none = rw none (omega arith, passed_start)

pub stands_left : (bytes outer outside : List ℕ) (left n at : ℕ) → outer ≡ outside ++ n ∷ [] → left ≡ 0 → Stands bytes outer left at → Stands bytes outside n at
stands_left bytes outer outside left n at is none stands = (stands.0, passed_end (take at bytes) outside n (rw (is, none) at stands.1))

pub stands_inside : (bytes head after outer : List ℕ) (left n at count : ℕ) → left ≡ suc n → drop at bytes ≡ head ++ after → length outer < 8 → Opens head count →
    Stands bytes outer left at
    → Stands bytes (outer ++ n ∷ []) count (length bytes - length after)
stands_inside bytes head after outer left n at count is parts room opens stands =
    let moved = front_moves bytes at head after parts in
    (omega arith, rw moved (passed_header (take at bytes) head outer n count room opens (rw is at stands.1)))

pub stands_behind : (bytes after outer : List ℕ) (left n at more : ℕ) (f : Frame) → left ≡ suc n → length bytes + more ≤ 65536 →
    value_at 1024 more (8 - length outer) (drop at bytes) ≡ Ok (f, after) → Stands bytes outer left at
    → Stands bytes outer n (length bytes - length after)
stands_behind bytes after outer left n at more f is room reads stands =
    let item = item_at more (8 - length outer) (drop at bytes) f after (omega (arith, length-drop at bytes, stands.0)) reads in
    let moved = front_moves bytes at item.0 after item.1 in
    (omega arith, rw moved (passed_item (take at bytes) item.0 outer n f item.3 (rw is at stands.1)))

-- what is behind an item or a header is shorter
pub gets_on : (bytes head after outer : List ℕ) (at : ℕ) → drop at bytes ≡ head ++ after → 0 < length head → at ≤ length bytes → length after < length bytes - at
gets_on bytes head after outer at parts some le = omega (arith, ap length parts, length-append head after, length-drop at bytes, some, le)

pub item_gets_on : (bytes after : List ℕ) (depth at more : ℕ) (f : Frame) → length bytes + more ≤ 65536 → value_at 1024 more depth (drop at bytes) ≡ Ok (f, after) →
    at ≤ length bytes → length after < length bytes - at
item_gets_on bytes after depth at more f room reads le =
    let item = item_at more depth (drop at bytes) f after (omega (arith, length-drop at bytes, le)) reads in
    gets_on bytes item.0 after [] at item.1 item.2 le

pub stands_waits : (bytes outer : List ℕ) (left n at more : ℕ) (u : Unread) → left ≡ suc n → value_at 1024 more (8 - length outer) (drop at bytes) ≡ Err u →
    Stands bytes outer left at → value_at 1024 more 8 bytes ≡ Err u
stands_waits bytes outer left n at more u is stops stands =
    ap (λ (t : List ℕ). value_at 1024 more 8 t) (sym (take-append-drop at bytes)) ∙ passed_waits (take at bytes) outer n more (drop at bytes) u (rw is at stands.1) stops

-- ---- a line without an end

pub open_line : (bytes : List ℕ) (kind : ℕ) (line : List ℕ) → bytes ≡ kind ∷ line → line_length bytes ≡ length bytes → IsKind kind → IsOpenLine bytes
open_line bytes kind line is all told = let whole = rw is at (line_length_whole bytes all) in rw is (told, whole.1)

-- its value needs more bytes
open_line_waits : (more depth : ℕ) (bytes : List ℕ) → 0 < depth → IsOpenLine bytes → value_at 1024 more depth bytes ≡ Err NeedsMore
open_line_waits more depth [] pos h = absurd h
open_line_waits more depth (kind ∷ line) pos h =
    let none : line_at line ≡ Err NeedsMore = ap line_at (sym (append-nil line)) ∙ line_fails line [] NeedsMore h.1 tt refl in
    value_kind more depth kind line NeedsMore pos (λ inner. kind_line more inner kind line NeedsMore h.0 none)

pub stands_in_line : (bytes outer : List ℕ) (left n at more : ℕ) → left ≡ suc n → length outer < 8 → IsOpenLine (drop at bytes) → Stands bytes outer left at →
    value_at 1024 more 8 bytes ≡ Err NeedsMore
stands_in_line bytes outer left n at more is room line stands =
    stands_waits bytes outer left n at more NeedsMore is (open_line_waits more (8 - length outer) (drop at bytes) (omega arith) line) stands

-- ---- what a reader holds

pub waits_held : (bytes : List ℕ) → length bytes ≤ 65536 → value_at 1024 (65536 - length bytes) 8 bytes ≡ Err NeedsMore → frame_at bytes ≡ Err NeedsMore
waits_held bytes le e = frame_needs bytes bytes (sym (take_all 65536 bytes le)) e le
