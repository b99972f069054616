-- A value or a fault that was read stays when more bytes come.
use Rattle.std.proofs.Common.{◌≡◌, ℕ, suc, zero, ◌+◌, cond, eqb, ltb, List, [], ◌∷◌, ◌++◌, length, take, drop, Result, Ok, Err, refl, arith, inl, inr}
use Rattle.std.proofs.lemmas.Bool.{le-ltb, lt-ltb, cases_lt}
use Rattle.std.proofs.lemmas.List.{length-append, take-append-le, drop-append-le}
use Rattle.resp2.specs.declared.framing.fault.FrameFault.TheVariants.{BadKind, BadNumber, TooMany}
use Rattle.resp2.specs.declared.framing.fault.Unread.{Unread}
use Rattle.resp2.specs.declared.framing.fault.Unread.TheVariants.{Faulty}
use Rattle.resp2.specs.Framing.Frame.{Frame, simple, fault, int, bulk, null_bulk, items, null_items, frame}
use Rattle.ballot_law.specs.Results.{◌>>=◌}
use Rattle.resp2.specs.Framing.Reading.{if_some, line_at, size_of, integer_of, text_at, integer_at, block_at, bulk_at, values_at, items_at, kind_at, value_at, Stays}
use Rattle.resp2.proofs.FramingLemmas.Steps.{stays_then, stays_after, stays_cond, stays_some}
use Rattle.resp2.proofs.FramingLemmas.Lines.{end_stays, line_stays}

text_stays : (kind : List ℕ → Frame) (p bytes : List ℕ) → Stays p (text_at kind bytes) (text_at kind (bytes ++ p))
unfolding text_at
text_stays kind p bytes = stays_then p (line_at bytes) (line_at (bytes ++ p)) (λ line. Ok (kind line.0, line.1)) (λ line. Ok (kind line.0, line.1)) (line_stays p bytes)
    (λ line rest. refl)

integer_stays : (p bytes : List ℕ) → Stays p (integer_at bytes) (integer_at (bytes ++ p))
unfolding integer_at
integer_stays p bytes = stays_then p (line_at bytes) (line_at (bytes ++ p)) (λ line. if_some (integer_of line.0) (λ n. Ok (int n, line.1)) (Err (Faulty BadNumber)))
    (λ line. if_some (integer_of line.0) (λ n. Ok (int n, line.1)) (Err (Faulty BadNumber))) (line_stays p bytes)
    (λ line rest. stays_some p (integer_of line) (λ n. Ok (int n, rest)) (λ n. Ok (int n, rest ++ p)) (Err (Faulty BadNumber)) (Err (Faulty BadNumber)) (λ n. refl) refl)

block_stays : (p : List ℕ) (more n : ℕ) (bytes : List ℕ) → Stays p (block_at (more + length p) n bytes) (block_at more n (bytes ++ p))
unfolding block_at
block_stays p more n bytes =
    let same : length bytes + (more + length p) ≡ length (bytes ++ p) + more = omega (arith, length-append bytes p) in
    elim (cases_lt (length bytes + (more + length p)) (n + 2)) [
      | inl lt ↦ rw (lt-ltb (length bytes + (more + length p)) (n + 2) lt, lt-ltb (length (bytes ++ p) + more) (n + 2) (omega arith)) refl
      | inr le ↦ rw (le-ltb (length bytes + (more + length p)) (n + 2) le, le-ltb (length (bytes ++ p) + more) (n + 2) (omega arith)) (elim (cases_lt (length bytes) n) [
        | inl lt ↦ rw (lt-ltb (length bytes) n lt) tt
        | inr enough ↦ rw (
          le-ltb (length bytes) n enough,
          le-ltb (length (bytes ++ p)) n (omega (arith, length-append bytes p)),
          drop-append-le n bytes p enough,
          take-append-le n
              bytes p enough,
        ) (end_stays p (bulk (take n bytes)) (drop n bytes))
      ])
    ]

bulk_stays : (p : List ℕ) (more : ℕ) (bytes : List ℕ) → Stays p (bulk_at (more + length p) bytes) (bulk_at more (bytes ++ p))
unfolding bulk_at
bulk_stays p more bytes =
    stays_then p (line_at bytes) (line_at (bytes ++ p))
    (λ line. size_of line.0 >>= λ size. if_some size (λ n. block_at (more + length p) n line.1) (Ok (null_bulk, line.1)))
    (λ line. size_of line.0 >>= λ size. if_some size (λ n. block_at more n line.1) (Ok (null_bulk, line.1)))
    (line_stays p bytes)
    (λ line rest. stays_after p (size_of line)
    (λ size. if_some size (λ n. block_at (more + length p) n rest) (Ok (null_bulk, rest)))
    (λ size. if_some size (λ n. block_at more n (rest ++ p)) (Ok (null_bulk, rest ++ p)))
    (λ size. stays_some p size (λ n. block_at (more + length p) n rest) (λ n. block_at more n (rest ++ p)) (Ok (null_bulk, rest)) (Ok (null_bulk, rest ++ p))
    (λ n. block_stays p more n rest) refl))

abbrev StaysEach : List ℕ → (List ℕ → Result (Frame × List ℕ) Unread) → (List ℕ → Result (Frame × List ℕ) Unread) → Type 0
StaysEach p inner longer = (bytes : List ℕ) → Stays p (inner bytes) (longer (bytes ++ p))

values_stay : (p : List ℕ) (inner longer : List ℕ → Result (Frame × List ℕ) Unread) → StaysEach p inner longer → (n : ℕ) (bytes : List ℕ) →
    Stays p (values_at inner n bytes) (values_at longer n (bytes ++ p))
unfolding values_at
values_stay p inner longer h zero bytes = refl
values_stay p inner longer h (suc n) bytes =
    stays_then p (inner bytes) (longer (bytes ++ p))
    (λ first. values_at inner n first.1 >>= λ others. Ok (frame first.0 others.0, others.1))
    (λ first. values_at longer n first.1 >>= λ others. Ok (frame first.0 others.0, others.1))
    (h bytes)
    (λ f rest. stays_then p (values_at inner n rest) (values_at longer n (rest ++ p)) (λ others. Ok (frame f others.0, others.1)) (λ others. Ok (frame f others.0, others.1))
    (values_stay p inner longer h n rest) (λ fs after. refl))

items_stay : (p : List ℕ) (most : ℕ) (inner longer : List ℕ → Result (Frame × List ℕ) Unread) → StaysEach p inner longer → (bytes : List ℕ) →
    Stays p (items_at most inner bytes) (items_at most longer (bytes ++ p))
unfolding items_at
items_stay p most inner longer h bytes =
    stays_then p (line_at bytes) (line_at (bytes ++ p))
    (λ line. size_of line.0 >>= λ size. if_some size (λ n. cond (ltb most n) (Err (Faulty TooMany)) (values_at inner n line.1 >>= λ list. Ok (items list.0, list.1)))
    (Ok (null_items, line.1)))
    (λ line. size_of line.0 >>= λ size. if_some size (λ n. cond (ltb most n) (Err (Faulty TooMany)) (values_at longer n line.1 >>= λ list. Ok (items list.0, list.1)))
    (Ok (null_items, line.1)))
    (line_stays p bytes)
    (λ line rest. stays_after p (size_of line)
    (λ size. if_some size (λ n. cond (ltb most n) (Err (Faulty TooMany)) (values_at inner n rest >>= λ list. Ok (items list.0, list.1))) (Ok (null_items, rest)))
    (λ size. if_some size (λ n. cond (ltb most n) (Err (Faulty TooMany)) (values_at longer n (rest ++ p) >>= λ list. Ok (items list.0, list.1))) (Ok (null_items, rest ++ p)))
    (λ size. stays_some p size
    (λ n. cond (ltb most n) (Err (Faulty TooMany)) (values_at inner n rest >>= λ list. Ok (items list.0, list.1)))
    (λ n. cond (ltb most n) (Err (Faulty TooMany)) (values_at longer n (rest ++ p) >>= λ list. Ok (items list.0, list.1)))
    (Ok (null_items, rest)) (Ok (null_items, rest ++ p))
    (λ n. stays_cond p (ltb most n) (Err (Faulty TooMany)) (Err (Faulty TooMany))
    (values_at inner n rest >>= λ list. Ok (items list.0, list.1)) (values_at longer n (rest ++ p) >>= λ list. Ok (items list.0, list.1)) refl
    (stays_then p (values_at inner n rest) (values_at longer n (rest ++ p)) (λ list. Ok (items list.0, list.1)) (λ list. Ok (items list.0, list.1))
    (values_stay p inner longer h n rest) (λ fs after. refl)))
    refl))

kind_stays : (p : List ℕ) (most more : ℕ) (inner longer : List ℕ → Result (Frame × List ℕ) Unread) → StaysEach p inner longer → (kind : ℕ) (bytes : List ℕ)
    → Stays p (kind_at most (more + length p) inner kind bytes) (kind_at most more longer kind (bytes ++ p))
unfolding kind_at
kind_stays p most more inner longer h kind bytes =
    let bad : Result (Frame × List ℕ) Unread = Err (Faulty BadKind) in
    let r4 : Result (Frame × List ℕ) Unread = cond (eqb kind 42) (items_at most inner bytes) bad in
    let s4 : Result (Frame × List ℕ) Unread = cond (eqb kind 42) (items_at most longer (bytes ++ p)) bad in
    let r3 : Result (Frame × List ℕ) Unread = cond (eqb kind 36) (bulk_at (more + length p) bytes) r4 in
    let s3 : Result (Frame × List ℕ) Unread = cond (eqb kind 36) (bulk_at more (bytes ++ p)) s4 in
    let r2 : Result (Frame × List ℕ) Unread = cond (eqb kind 58) (integer_at bytes) r3 in
    let s2 : Result (Frame × List ℕ) Unread = cond (eqb kind 58) (integer_at (bytes ++ p)) s3 in
    let r1 : Result (Frame × List ℕ) Unread = cond (eqb kind 45) (text_at fault bytes) r2 in
    let s1 : Result (Frame × List ℕ) Unread = cond (eqb kind 45) (text_at fault (bytes ++ p)) s2 in
    stays_cond p (eqb kind 43) (text_at simple bytes) (text_at simple (bytes ++ p)) r1 s1 (text_stays simple p bytes)
    (stays_cond p (eqb kind 45) (text_at fault bytes) (text_at fault (bytes ++ p)) r2 s2 (text_stays fault p bytes)
    (stays_cond p (eqb kind 58) (integer_at bytes) (integer_at (bytes ++ p)) r3 s3 (integer_stays p bytes)
    (stays_cond p (eqb kind 36) (bulk_at (more + length p) bytes) (bulk_at more (bytes ++ p)) r4 s4 (bulk_stays p more bytes)
    (stays_cond p (eqb kind 42) (items_at most inner bytes) (items_at most longer (bytes ++ p)) bad bad (items_stay p most inner longer h bytes) refl))))

pub value_stays : (p : List ℕ) (most more depth : ℕ) (bytes : List ℕ) → Stays p (value_at most (more + length p) depth bytes) (value_at most more depth (bytes ++ p))
unfolding value_at
value_stays p most more zero [] = tt
value_stays p most more zero (b ∷ bs) = refl
value_stays p most more (suc d) [] = tt
value_stays p most more (suc d) (b ∷ bs) = kind_stays p most more (value_at most (more + length p) d) (value_at most more d) (value_stays p most more d) b bs
