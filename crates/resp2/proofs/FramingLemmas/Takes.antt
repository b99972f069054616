-- What is read is spelled so.
use Rattle.std.proofs.Common.{◌≡◌, ℕ, suc, zero, ◌+◌, ◌-◌, ◌^◌, ◌<◌, ◌≤◌, cond, eqb, ltb, List, [], ◌∷◌, ◌++◌, length, take, drop, Result, Ok, Err, decimal, refl, sym, ap, subst, ◌∙◌, append_assoc, arith, inl, inr}
use Rattle.std.specs.Fmt.{signed_decimal}
use Rattle.std.proofs.lemmas.Bool.{eqb-true, ltb-false}
use Rattle.std.proofs.lemmas.List.{take-append-drop, length-append, length-take}
use Rattle.resp2.specs.declared.framing.fault.FrameFault.TheVariants.{BadKind, BadNumber, TooLong, TooMany}
use Rattle.resp2.specs.declared.framing.fault.Unread.{Unread}
use Rattle.resp2.specs.declared.framing.fault.Unread.TheVariants.{NeedsMore, Faulty}
use Rattle.resp2.specs.Framing.Frame.{Frame, FrameList, simple, fault, int, bulk, null_bulk, items, null_items, no_frames, frame, line_end, count, spelling, spellings, IsPlain, ArePlain, depth_of, deepest_of, width_of, widest_of}
use Rattle.ballot_law.specs.Results.{◌>>=◌}
use Rattle.resp2.specs.Framing.Reading.{if_some, end_at, line_at, size_of, integer_of, text_at, integer_at, block_at, bulk_at, values_at, items_at, kind_at, value_at}
use Rattle.resp2.proofs.FramingLemmas.Steps.{bind_ok, guard_ok, chosen, some_ok, ok_is}
use Rattle.resp2.proofs.FramingLemmas.Lines.{end_takes, line_takes}
use Rattle.resp2.proofs.FramingLemmas.Numbers.{number_takes, size_takes, integer_takes}

-- the value that was read from the front of the bytes
pub record Taken (most depth : ℕ) (bytes : List ℕ) (f : Frame) (rest : List ℕ) : Type 0 where
  pub parts : bytes ≡ spelling f ++ rest
  pub plain : IsPlain f
  pub deep : depth_of f ≤ depth
  pub wide : width_of f ≤ most

behind : (kind : ℕ) (bytes text rest : List ℕ) → bytes ≡ text ++ (line_end ++ rest) → kind ∷ bytes ≡ kind ∷ ((text ++ line_end) ++ rest)
behind kind bytes text rest e = ap (λ (t : List ℕ). kind ∷ t) (e ∙ sym (append_assoc text line_end rest))

simple_takes : (most d : ℕ) (bytes : List ℕ) (x : Frame × List ℕ) → text_at simple bytes ≡ Ok x → Taken most (suc d) (43 ∷ bytes) x.0 x.1
unfolding text_at
simple_takes most d bytes x e =
    let a = bind_ok (line_at bytes) (λ line. Ok (simple line.0, line.1)) x e in
    let t = line_takes bytes a.0.0 a.0.1 a.1 in
    let made : Taken most (suc d) (43 ∷ bytes) (simple a.0.0) a.0.1 = record { parts = behind 43 bytes a.0.0 a.0.1 t.0; plain = t.1; deep = omega arith; wide = omega arith } in
    subst (λ (y : Frame × List ℕ). Taken most (suc d) (43 ∷ bytes) y.0 y.1) (ok_is (simple a.0.0, a.0.1) x a.2) made

fault_takes : (most d : ℕ) (bytes : List ℕ) (x : Frame × List ℕ) → text_at fault bytes ≡ Ok x → Taken most (suc d) (45 ∷ bytes) x.0 x.1
unfolding text_at
fault_takes most d bytes x e =
    let a = bind_ok (line_at bytes) (λ line. Ok (fault line.0, line.1)) x e in
    let t = line_takes bytes a.0.0 a.0.1 a.1 in
    let made : Taken most (suc d) (45 ∷ bytes) (fault a.0.0) a.0.1 = record { parts = behind 45 bytes a.0.0 a.0.1 t.0; plain = t.1; deep = omega arith; wide = omega arith } in
    subst (λ (y : Frame × List ℕ). Taken most (suc d) (45 ∷ bytes) y.0 y.1) (ok_is (fault a.0.0, a.0.1) x a.2) made

integer_reads : (most d : ℕ) (bytes : List ℕ) (x : Frame × List ℕ) → integer_at bytes ≡ Ok x → Taken most (suc d) (58 ∷ bytes) x.0 x.1
unfolding integer_at
integer_reads most d bytes x e =
    let a = bind_ok (line_at bytes) (λ line. if_some (integer_of line.0) (λ n. Ok (int n, line.1)) (Err (Faulty BadNumber))) x e in
    let t = line_takes bytes a.0.0 a.0.1 a.1 in
    let b = some_ok (integer_of a.0.0) (λ n. Ok (int n, a.0.1)) (Faulty BadNumber) x a.2 in
    let n = integer_takes a.0.0 b.0 b.1 in
    let text : bytes ≡ signed_decimal b.0 ++ (line_end ++ a.0.1) = t.0 ∙ ap (λ (s : List ℕ). s ++ (line_end ++ a.0.1)) n.0 in
    let made : Taken most (suc d) (58 ∷ bytes) (int b.0) a.0.1 =
    record { parts = behind 58 bytes (signed_decimal b.0) a.0.1 text; plain = n.1; deep = omega arith; wide = omega arith } in
    subst (λ (y : Frame × List ℕ). Taken most (suc d) (58 ∷ bytes) y.0 y.1) (ok_is (int b.0, a.0.1) x b.2) made

-- ---- bulk strings

record Block (n : ℕ) (bytes : List ℕ) (x : Frame × List ℕ) : Type 0 where
  block : List ℕ
  is : x.0 ≡ bulk block
  long : length block ≡ n
  parts : bytes ≡ block ++ (line_end ++ x.1)

block_takes : (more n : ℕ) (bytes : List ℕ) (x : Frame × List ℕ) → block_at more n bytes ≡ Ok x → Block n bytes x
unfolding block_at
block_takes more n bytes x e =
    let last : Result (Frame × List ℕ) Unread = end_at (drop n bytes) >>= λ rest. Ok (bulk (take n bytes), rest) in
    let g = guard_ok (ltb (length bytes + more) (n + 2)) (Faulty TooLong) (cond (ltb (length bytes) n) (Err NeedsMore) last) x e in
    let h = guard_ok (ltb (length bytes) n) NeedsMore last x g.1 in
    let a = bind_ok (end_at (drop n bytes)) (λ rest. Ok (bulk (take n bytes), rest)) x h.1 in
    let tail = end_takes (drop n bytes) a.0 a.1 in
    let same = ok_is (bulk (take n bytes), a.0) x a.2 in
    let enough : n ≤ length bytes = ltb-false _ _ h.0 in
    let rest_is : a.0 ≡ x.1 = ap (λ (y : Frame × List ℕ). y.1) same in
    record {
      block = take n bytes;
      is = sym (ap (λ (y : Frame × List ℕ). y.0) same);
      long = omega (arith, length-take n bytes);
      parts = sym (take-append-drop n bytes) ∙ ap (λ (t : List ℕ). take n bytes ++ t) (tail ∙ ap (λ (t : List ℕ). line_end ++ t) rest_is);
    }

after_line : (bytes line rest : List ℕ) → bytes ≡ line ++ (line_end ++ rest) → length rest ≤ length bytes
after_line bytes line rest e = omega (arith, ap length e, length-append line (line_end ++ rest))

bulk_takes : (most d more : ℕ) (bytes : List ℕ) (x : Frame × List ℕ) → length bytes + more < 2 ^ 64 → bulk_at more bytes ≡ Ok x → Taken most (suc d) (36 ∷ bytes) x.0 x.1
unfolding bulk_at
bulk_takes most d more bytes x room e =
    let a = bind_ok (line_at bytes) (λ line. size_of line.0 >>= λ size. if_some size (λ n. block_at more n line.1) (Ok (null_bulk, line.1))) x e in
    let b = bind_ok (size_of a.0.0) (λ size. if_some size (λ n. block_at more n a.0.1) (Ok (null_bulk, a.0.1))) x a.2 in
    let t = line_takes bytes a.0.0 a.0.1 a.1 in
    elim (size_takes a.0.0 b.0 b.1) [
      | inl w ↦
          let k = w.0 in
          let read : block_at more k a.0.1 ≡ Ok x = rw w.1 at b.2 in
          let c = block_takes more k a.0.1 x read in
          let shorter = after_line bytes a.0.0 a.0.1 t.0 in
          let shorter_still : length c.block + 2 ≤ length a.0.1 = omega (arith, ap length c.parts, length-append c.block (line_end ++ x.1)) in
          let small : k < 2 ^ 64 - 1 = omega (arith, c.long) in
          let header : a.0.0 ≡ decimal (length c.block) = number_takes a.0.0 k small w.2 ∙ ap decimal (sym c.long) in
          let text : bytes ≡ (decimal (length c.block) ++ line_end) ++ ((c.block ++ line_end) ++ x.1) =
          t.0 ∙ ap (λ (s : List ℕ). s ++ (line_end ++ a.0.1)) header ∙ sym (append_assoc (decimal (length c.block)) line_end a.0.1)
          ∙ ap (λ (s : List ℕ). (decimal (length c.block) ++ line_end) ++ s) (c.parts ∙ sym (append_assoc c.block line_end x.1)) in
          let whole : 36 ∷ bytes ≡ spelling (bulk c.block) ++ x.1 =
          ap (λ (s : List ℕ). 36 ∷ s) (text ∙ sym (append_assoc (decimal (length c.block) ++ line_end) (c.block ++ line_end) x.1)) in
          let made : Taken most (suc d) (36 ∷ bytes) (bulk c.block) x.1 = record { parts = whole; plain = omega (arith, c.long); deep = omega arith; wide = omega arith } in
          subst (λ (f : Frame). Taken most (suc d) (36 ∷ bytes) f x.1) (sym c.is) made
      | inr w ↦
          let read : Ok (null_bulk, a.0.1) ≡ Ok x = rw w.0 at b.2 in
          let text : bytes ≡ 45 ∷ 49 ∷ (line_end ++ a.0.1) = t.0 ∙ ap (λ (s : List ℕ). s ++ (line_end ++ a.0.1)) w.1 in
          let made : Taken most (suc d) (36 ∷ bytes) null_bulk a.0.1 = record { parts = ap (λ (s : List ℕ). 36 ∷ s) text; plain = tt; deep = omega arith; wide = omega arith } in
          subst (λ (y : Frame × List ℕ). Taken most (suc d) (36 ∷ bytes) y.0 y.1) (ok_is (null_bulk, a.0.1) x read) made
    ]

-- ---- arrays, over a reader of one item

abbrev Takes : ℕ → ℕ → ℕ → (List ℕ → Result (Frame × List ℕ) Unread) → Type 0
Takes most d more inner = (bytes : List ℕ) (x : Frame × List ℕ) → length bytes + more < 2 ^ 64 → inner bytes ≡ Ok x → Taken most d bytes x.0 x.1

record AllTaken (most depth n : ℕ) (bytes : List ℕ) (fs : FrameList) (rest : List ℕ) : Type 0 where
  parts : bytes ≡ spellings fs ++ rest
  many : count fs ≡ n
  plain : ArePlain fs
  deep : deepest_of fs ≤ depth
  wide : widest_of fs ≤ most

values_take : (most d more : ℕ) (inner : List ℕ → Result (Frame × List ℕ) Unread) → Takes most d more inner
    → (n : ℕ) (bytes : List ℕ) (x : FrameList × List ℕ) → length bytes + more < 2 ^ 64 → values_at inner n bytes ≡ Ok x → AllTaken most d n bytes x.0 x.1
unfolding values_at
values_take most d more inner h zero bytes x room e =
    let made : AllTaken most d 0 bytes no_frames bytes = record { parts = refl; many = refl; plain = tt; deep = omega arith; wide = omega arith } in
    subst (λ (y : FrameList × List ℕ). AllTaken most d 0 bytes y.0 y.1) (ok_is (no_frames, bytes) x e) made
values_take most d more inner h (suc n) bytes x room e =
    let a = bind_ok (inner bytes) (λ first. values_at inner n first.1 >>= λ others. Ok (frame first.0 others.0, others.1)) x e in
    let b = bind_ok (values_at inner n a.0.1) (λ others. Ok (frame a.0.0 others.0, others.1)) x a.2 in
    let first = h bytes a.0 room a.1 in
    let shorter : length a.0.1 ≤ length bytes = omega (arith, ap length first.parts, length-append (spelling a.0.0) a.0.1) in
    let second = values_take most d more inner h n a.0.1 b.0 (omega arith) b.1 in
    let whole : bytes ≡ (spelling a.0.0 ++ spellings b.0.0) ++ b.0.1 =
    first.parts ∙ ap (λ (t : List ℕ). spelling a.0.0 ++ t) second.parts ∙ sym (append_assoc (spelling a.0.0) (spellings b.0.0) b.0.1) in
    let made : AllTaken most d (suc n) bytes (frame a.0.0 b.0.0) b.0.1 = record {
      parts = whole;
      many = ap suc second.many;
      plain = (first.plain, second.plain);
      deep = omega (arith, first.deep, second.deep);
      wide = omega (arith, first.wide, second.wide);
    } in
    subst (λ (y : FrameList × List ℕ). AllTaken most d (suc n) bytes y.0 y.1) (ok_is (frame a.0.0 b.0.0, b.0.1) x b.2) made

items_take : (most d more : ℕ) (inner : List ℕ → Result (Frame × List ℕ) Unread) → Takes most d more inner → most < 2 ^ 64 - 1
    → (bytes : List ℕ) (x : Frame × List ℕ) → length bytes + more < 2 ^ 64 → items_at most inner bytes ≡ Ok x → Taken most (suc d) (42 ∷ bytes) x.0 x.1
unfolding items_at
items_take most d more inner h few bytes x room e =
    let a = bind_ok (line_at bytes) (λ line. size_of line.0 >>= λ size. if_some size
    (λ n. cond (ltb most n) (Err (Faulty TooMany)) (values_at inner n line.1 >>= λ list. Ok (items list.0, list.1))) (Ok (null_items, line.1))) x e in
    let b = bind_ok (size_of a.0.0) (λ size. if_some size (λ n. cond (ltb most n) (Err (Faulty TooMany)) (values_at inner n a.0.1 >>= λ list. Ok (items list.0, list.1)))
    (Ok (null_items, a.0.1))) x a.2 in
    let t = line_takes bytes a.0.0 a.0.1 a.1 in
    elim (size_takes a.0.0 b.0 b.1) [
      | inl w ↦
          let k = w.0 in
          let read : cond (ltb most k) (Err (Faulty TooMany)) (values_at inner k a.0.1 >>= λ list. Ok (items list.0, list.1)) ≡ Ok x = rw w.1 at b.2 in
          let g = guard_ok (ltb most k) (Faulty TooMany) (values_at inner k a.0.1 >>= λ list. Ok (items list.0, list.1)) x read in
          let c = bind_ok (values_at inner k a.0.1) (λ list. Ok (items list.0, list.1)) x g.1 in
          let shorter = after_line bytes a.0.0 a.0.1 t.0 in
          let all = values_take most d more inner h k a.0.1 c.0 (omega arith) c.1 in
          let within : k ≤ most = ltb-false _ _ g.0 in
          let small : k < 2 ^ 64 - 1 = omega arith in
          let header : a.0.0 ≡ decimal (count c.0.0) = number_takes a.0.0 k small w.2 ∙ ap decimal (sym all.many) in
          let text : bytes ≡ (decimal (count c.0.0) ++ line_end) ++ (spellings c.0.0 ++ c.0.1) =
          t.0 ∙ ap (λ (s : List ℕ). s ++ (line_end ++ a.0.1)) header ∙ sym (append_assoc (decimal (count c.0.0)) line_end a.0.1)
          ∙ ap (λ (s : List ℕ). (decimal (count c.0.0) ++ line_end) ++ s) all.parts in
          let whole : 42 ∷ bytes ≡ spelling (items c.0.0) ++ c.0.1 =
          ap (λ (s : List ℕ). 42 ∷ s) (text ∙ sym (append_assoc (decimal (count c.0.0) ++ line_end) (spellings c.0.0) c.0.1)) in
          let made : Taken most (suc d) (42 ∷ bytes) (items c.0.0) c.0.1 = record {
            parts = whole;
            plain = (omega (arith, all.many), all.plain);
            deep = omega (arith, all.deep);
            wide = omega (arith, all.wide, all.many);
          } in
          subst (λ (y : Frame × List ℕ). Taken most (suc d) (42 ∷ bytes) y.0 y.1) (ok_is (items c.0.0, c.0.1) x c.2) made
      | inr w ↦
          let read : Ok (null_items, a.0.1) ≡ Ok x = rw w.0 at b.2 in
          let text : bytes ≡ 45 ∷ 49 ∷ (line_end ++ a.0.1) = t.0 ∙ ap (λ (s : List ℕ). s ++ (line_end ++ a.0.1)) w.1 in
          let made : Taken most (suc d) (42 ∷ bytes) null_items a.0.1 = record { parts = ap (λ (s : List ℕ). 42 ∷ s) text; plain = tt; deep = omega arith; wide = omega arith } in
          subst (λ (y : Frame × List ℕ). Taken most (suc d) (42 ∷ bytes) y.0 y.1) (ok_is (null_items, a.0.1) x read) made
    ]

-- ---- values

kind_takes : (most d more : ℕ) (inner : List ℕ → Result (Frame × List ℕ) Unread) → Takes most d more inner → most < 2 ^ 64 - 1
    → (kind : ℕ) (bytes : List ℕ) (x : Frame × List ℕ) → length bytes + more < 2 ^ 64 → kind_at most more inner kind bytes ≡ Ok x → Taken most (suc d) (kind ∷ bytes) x.0 x.1
unfolding kind_at
kind_takes most d more inner h few kind bytes x room e =
    let at : ℕ → Type 0 = λ k. Taken most (suc d) (k ∷ bytes) x.0 x.1 in
    let other5 : Result (Frame × List ℕ) Unread = Err (Faulty BadKind) in
    let other4 : Result (Frame × List ℕ) Unread = cond (eqb kind 42) (items_at most inner bytes) other5 in
    let other3 : Result (Frame × List ℕ) Unread = cond (eqb kind 36) (bulk_at more bytes) other4 in
    let other2 : Result (Frame × List ℕ) Unread = cond (eqb kind 58) (integer_at bytes) other3 in
    let other1 : Result (Frame × List ℕ) Unread = cond (eqb kind 45) (text_at fault bytes) other2 in
    elim (chosen (eqb kind 43) (text_at simple bytes) other1 (Ok x) e) [
      | inl w ↦ subst at (sym (eqb-true kind 43 w.0)) (simple_takes most d bytes x w.1)
      | inr v1 ↦ elim (chosen (eqb kind 45) (text_at fault bytes) other2 (Ok x) v1.1) [
        | inl w ↦ subst at (sym (eqb-true kind 45 w.0)) (fault_takes most d bytes x w.1)
        | inr v2 ↦ elim (chosen (eqb kind 58) (integer_at bytes) other3 (Ok x) v2.1) [
          | inl w ↦ subst at (sym (eqb-true kind 58 w.0)) (integer_reads most d bytes x w.1)
          | inr v3 ↦ elim (chosen (eqb kind 36) (bulk_at more bytes) other4 (Ok x) v3.1) [
            | inl w ↦ subst at (sym (eqb-true kind 36 w.0)) (bulk_takes most d more bytes x room w.1)
            | inr v4 ↦ elim (chosen (eqb kind 42) (items_at most inner bytes) other5 (Ok x) v4.1) [
              | inl w ↦ subst at (sym (eqb-true kind 42 w.0)) (items_take most d more inner h few bytes x room w.1)
              | inr v5 ↦ let none : Err (Faulty BadKind) ≡ Ok x = v5.1 in absurd cc
            ]
          ]
        ]
      ]
    ]

pub value_takes : (most more depth : ℕ) → most < 2 ^ 64 - 1 → (bytes : List ℕ) (x : Frame × List ℕ) → length bytes + more < 2 ^ 64 → value_at most more depth bytes ≡ Ok x →
    Taken most depth bytes x.0 x.1
unfolding value_at
value_takes most more zero few [] x room e = absurd cc
value_takes most more zero few (b ∷ bs) x room e = absurd cc
value_takes most more (suc d) few [] x room e = absurd cc
value_takes most more (suc d) few (b ∷ bs) x room e = kind_takes most d more (value_at most more d) (value_takes most more d few) few b bs x (omega arith) e
