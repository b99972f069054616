-- No reading of bytes speaks of memory.
use Rattle.std.proofs.Common.{◌≡◌, ℕ, suc, zero, Bool, true, false, cond, eqb, ltb, ◌+◌, ◌-◌, List, [], ◌∷◌, length, take, drop, Option, Some, None, Result, Ok, Err, refl, subst}
use Rattle.std.specs.Prelude.{bytes_eq}
use Rattle.resp2.specs.declared.framing.fault.FrameFault.{FrameFault}
use Rattle.resp2.specs.declared.framing.fault.FrameFault.TheVariants.{BadKind, BadLength, BadNumber, MissingEnd, TooLong, TooDeep, TooMany, NoMemory}
use Rattle.resp2.specs.declared.framing.fault.Unread.{Unread}
use Rattle.resp2.specs.declared.framing.fault.Unread.TheVariants.{NeedsMore, Faulty}
use Rattle.resp2.specs.Framing.Frame.{Frame, simple, fault, int, bulk, null_bulk, items, null_items, frame}
use Rattle.ballot_law.specs.Results.{◌>>=◌}
use Rattle.resp2.specs.Framing.Reading.{if_some, expect, end_at, line_length, line_at, number_of, size_of, integer_of, text_at, integer_at, block_at, bulk_at, values_at, items_at, kind_at, value_at, in_window, frame_at}
use Rattle.resp2.specs.Framing.Stream.{reading, ended, Answers}

abbrev IsNamed : FrameFault → Type 0
IsNamed NoMemory = ⊥
IsNamed _ = Unit {0}

abbrev Named : {A : Type 0} → Result A Unread → Type 0
Named (Ok x) = Unit {0}
Named (Err NeedsMore) = Unit {0}
Named (Err (Faulty f)) = IsNamed f

named_then : {A B : Type 0} (r : Result A Unread) (f : A → Result B Unread) → Named r → ((x : A) → Named (f x)) → Named (r >>= f)
named_then (Ok x) f h k = k x
named_then (Err NeedsMore) f h k = tt
named_then (Err (Faulty e)) f h k = h

named_cond : {A : Type 0} (b : Bool) (r s : Result A Unread) → Named r → Named s → Named (cond b r s)
named_cond true r s = λ h k. h
named_cond false r s = λ h k. k

named_some : {A B : Type 0} (o : Option A) (f : A → Result B Unread) (r : Result B Unread) → ((x : A) → Named (f x)) → Named r → Named (if_some o f r)
named_some (Some x) f r = λ h k. h x
named_some None f r = λ h k. k

named_expect : (byte : ℕ) (bytes : List ℕ) → Named (expect byte bytes)
named_expect byte [] = tt
named_expect byte (b ∷ bs) = named_cond (eqb b byte) (Ok bs) (Err (Faulty MissingEnd)) tt tt

named_end : (bytes : List ℕ) → Named (end_at bytes)
named_end bytes = named_then (expect 13 bytes) (expect 10) (named_expect 13 bytes) (named_expect 10)

named_line : (bytes : List ℕ) → Named (line_at bytes)
unfolding line_at
named_line bytes = named_then (end_at (drop (line_length bytes) bytes)) (λ rest. Ok (take (line_length bytes) bytes, rest)) (named_end (drop (line_length bytes) bytes))
    (λ rest. tt)

named_size : (line : List ℕ) → Named (size_of line)
unfolding size_of
named_size line = named_some (number_of line) (λ n. Ok (Some n)) (cond (bytes_eq line (45 ∷ 49 ∷ [])) (Ok None) (Err (Faulty BadLength))) (λ n. tt)
    (named_cond (bytes_eq line (45 ∷ 49 ∷ [])) (Ok None) (Err (Faulty BadLength)) tt tt)

named_text : (kind : List ℕ → Frame) (bytes : List ℕ) → Named (text_at kind bytes)
unfolding text_at
named_text kind bytes = named_then (line_at bytes) (λ line. Ok (kind line.0, line.1)) (named_line bytes) (λ line. tt)

named_integer : (bytes : List ℕ) → Named (integer_at bytes)
unfolding integer_at
named_integer bytes = named_then (line_at bytes) (λ line. if_some (integer_of line.0) (λ n. Ok (int n, line.1)) (Err (Faulty BadNumber))) (named_line bytes)
    (λ line. named_some (integer_of line.0) (λ n. Ok (int n, line.1)) (Err (Faulty BadNumber)) (λ n. tt) tt)

named_block : (more n : ℕ) (bytes : List ℕ) → Named (block_at more n bytes)
unfolding block_at
named_block more n bytes =
    let last : Result (Frame × List ℕ) Unread = end_at (drop n bytes) >>= λ rest. Ok (bulk (take n bytes), rest) in
    named_cond (ltb (length bytes + more) (n + 2)) (Err (Faulty TooLong)) (cond (ltb (length bytes) n) (Err NeedsMore) last) tt
    (named_cond (ltb (length bytes) n) (Err NeedsMore) last tt
    (named_then (end_at (drop n bytes)) (λ rest. Ok (bulk (take n bytes), rest)) (named_end (drop n bytes)) (λ rest. tt)))

named_bulk : (more : ℕ) (bytes : List ℕ) → Named (bulk_at more bytes)
unfolding bulk_at
named_bulk more bytes = named_then (line_at bytes) (λ line. size_of line.0 >>= λ size. if_some size (λ n. block_at more n line.1) (Ok (null_bulk, line.1))) (named_line bytes)
    (λ line. named_then (size_of line.0) (λ size. if_some size (λ n. block_at more n line.1) (Ok (null_bulk, line.1))) (named_size line.0)
    (λ size. named_some size (λ n. block_at more n line.1) (Ok (null_bulk, line.1)) (λ n. named_block more n line.1) tt))

named_values : (inner : List ℕ → Result (Frame × List ℕ) Unread) → ((bytes : List ℕ) → Named (inner bytes)) → (n : ℕ) (bytes : List ℕ) → Named (values_at inner n bytes)
unfolding values_at
named_values inner h zero bytes = tt
named_values inner h (suc n) bytes = named_then (inner bytes) (λ first. values_at inner n first.1 >>= λ others. Ok (frame first.0 others.0, others.1)) (h bytes)
    (λ first. named_then (values_at inner n first.1) (λ others. Ok (frame first.0 others.0, others.1)) (named_values inner h n first.1) (λ others. tt))

named_items : (most : ℕ) (inner : List ℕ → Result (Frame × List ℕ) Unread) → ((bytes : List ℕ) → Named (inner bytes)) → (bytes : List ℕ) → Named (items_at most inner bytes)
unfolding items_at
named_items most inner h bytes =
    named_then (line_at bytes) (λ line. size_of line.0 >>= λ size. if_some size
    (λ n. cond (ltb most n) (Err (Faulty TooMany)) (values_at inner n line.1 >>= λ list. Ok (items list.0, list.1))) (Ok (null_items, line.1))) (named_line bytes)
    (λ line. named_then (size_of line.0) (λ size. if_some size (λ n. cond (ltb most n) (Err (Faulty TooMany)) (values_at inner n line.1 >>= λ list. Ok (items list.0, list.1)))
    (Ok (null_items, line.1))) (named_size line.0)
    (λ size. named_some size (λ n. cond (ltb most n) (Err (Faulty TooMany)) (values_at inner n line.1 >>= λ list. Ok (items list.0, list.1))) (Ok (null_items, line.1))
    (λ n. named_cond (ltb most n) (Err (Faulty TooMany)) (values_at inner n line.1 >>= λ list. Ok (items list.0, list.1)) tt
    (named_then (values_at inner n line.1) (λ list. Ok (items list.0, list.1)) (named_values inner h n line.1) (λ list. tt)))
    tt))

named_kind : (most more : ℕ) (inner : List ℕ → Result (Frame × List ℕ) Unread) → ((bytes : List ℕ) → Named (inner bytes)) → (kind : ℕ) (bytes : List ℕ) →
    Named (kind_at most more inner kind bytes)
unfolding kind_at
named_kind most more inner h kind bytes =
    let bad : Result (Frame × List ℕ) Unread = Err (Faulty BadKind) in
    let r4 : Result (Frame × List ℕ) Unread = cond (eqb kind 42) (items_at most inner bytes) bad in
    let r3 : Result (Frame × List ℕ) Unread = cond (eqb kind 36) (bulk_at more bytes) r4 in
    let r2 : Result (Frame × List ℕ) Unread = cond (eqb kind 58) (integer_at bytes) r3 in
    let r1 : Result (Frame × List ℕ) Unread = cond (eqb kind 45) (text_at fault bytes) r2 in
    named_cond (eqb kind 43) (text_at simple bytes) r1 (named_text simple bytes)
    (named_cond (eqb kind 45) (text_at fault bytes) r2 (named_text fault bytes)
    (named_cond (eqb kind 58) (integer_at bytes) r3 (named_integer bytes)
    (named_cond (eqb kind 36) (bulk_at more bytes) r4 (named_bulk more bytes)
    (named_cond (eqb kind 42) (items_at most inner bytes) bad (named_items most inner h bytes) tt))))

named_value : (most more depth : ℕ) (bytes : List ℕ) → Named (value_at most more depth bytes)
unfolding value_at
named_value most more zero [] = tt
named_value most more zero (b ∷ bs) = tt
named_value most more (suc d) [] = tt
named_value most more (suc d) (b ∷ bs) = named_kind most more (value_at most more d) (named_value most more d) b bs

named_window : (bytes : List ℕ) (r : Result (Frame × List ℕ) Unread) → Named r → Named (in_window bytes r)
named_window bytes (Ok x) h = tt
named_window bytes (Err NeedsMore) h = named_cond (ltb 65536 (length bytes)) (Err (Faulty TooLong)) (Err NeedsMore) tt tt
named_window bytes (Err (Faulty f)) h = h

pub named_frame : (bytes : List ℕ) → frame_at bytes ≡ Err (Faulty NoMemory) → ⊥
unfolding frame_at
named_frame bytes e =
    let whole : Named (frame_at bytes) = named_window bytes (value_at 1024 (65536 - length bytes) 8 (take 65536 bytes))
    (named_value 1024 (65536 - length bytes) 8 (take 65536 bytes)) in
    subst (λ (r : Result (Frame × List ℕ) Unread). Named r) e whole

-- the fault that shows is what is answered
pub fault_answers : {V : Type 0} (view : V → Frame) (bytes : List ℕ) (f : FrameFault) → frame_at bytes ≡ Err (Faulty f) → Answers view (reading bytes) (Err f) (ended f)
fault_answers view bytes NoMemory e = absurd (named_frame bytes e)
fault_answers view bytes BadKind e = (e, refl)
fault_answers view bytes BadLength e = (e, refl)
fault_answers view bytes BadNumber e = (e, refl)
fault_answers view bytes MissingEnd e = (e, refl)
fault_answers view bytes TooLong e = (e, refl)
fault_answers view bytes TooDeep e = (e, refl)
fault_answers view bytes TooMany e = (e, refl)
