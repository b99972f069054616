-- Where a reading gives no value, the grammar's table says so.
use Rattle.std.proofs.Common.{◌≡◌, ◌≢◌, ℕ, suc, zero, ◌+◌, ◌-◌, ◌^◌, ◌<◌, ◌≤◌, min, Bool, true, false, cond, eqb, ltb, ◌||◌, ◌⊎◌, List, [], ◌∷◌, ◌++◌, length, take, drop, Option, Some, None, Result, Ok, Err, decimal, refl, sym, ap, subst, ◌∙◌, append_assoc, arith, inl, inr}
use Rattle.std.specs.Prelude.{ℤ, bytes_eq}
use Rattle.std.specs.Fmt.{signed_decimal}
use Rattle.std.proofs.lemmas.Option.{same_Some}
use Rattle.std.proofs.lemmas.Bool.{eqb-true, eqb-false, ltb-true, ltb-false}
use Rattle.std.proofs.lemmas.List.{append-nil, take-append-drop, length-append, length-take}
use Rattle.ballot_law.specs.Results.{◌>>=◌}
use Rattle.ballot_law.specs.Words.{is_decimal, number_on}
use Rattle.resp2.specs.declared.framing.fault.FrameFault.{FrameFault}
use Rattle.resp2.specs.declared.framing.fault.FrameFault.TheVariants.{BadKind, BadLength, BadNumber, MissingEnd, TooLong, TooDeep, TooMany}
use Rattle.resp2.specs.declared.framing.fault.Unread.{Unread}
use Rattle.resp2.specs.declared.framing.fault.Unread.TheVariants.{NeedsMore, Faulty}
use Rattle.resp2.specs.Framing.Frame.{Frame, FrameList, simple, fault, int, bulk, null_bulk, items, null_items, no_frames, frame, line_end, count, spelling, spellings, IsLine, IsLong, ArePlain, deepest_of, widest_of}
use Rattle.resp2.specs.Framing.Reading.{if_some, expect, end_at, line_length, line_at, number_of, size_of, integer_of, text_at, integer_at, block_at, bulk_at, values_at, items_at, kind_at, value_at}
use Rattle.resp2.specs.Framing.Faults.{OpenArray, opening, Within, IsKind, IsBehindLine, BeginsEnd, BreaksEnd, with_bulk, Begins, Shows}
use Rattle.resp2.proofs.FramingLemmas.Steps.{chosen}
use Rattle.resp2.proofs.FramingLemmas.Lines.{line_front, line_takes}
use Rattle.resp2.proofs.FramingLemmas.Numbers.{number_takes, size_takes, integer_again}
use Rattle.resp2.proofs.FramingLemmas.Takes.{Taken, value_takes}

-- what a reading without a value says
abbrev pub Says : Unread → ℕ → ℕ → List ℕ → Type 0
Says NeedsMore = Begins
Says (Faulty f) = Shows f

-- which step stopped
pub bind_err : {A B : Type 0} (r : Result A Unread) (f : A → Result B Unread) (u : Unread) → (r >>= f) ≡ Err u → (r ≡ Err u) ⊎ ((x : A) × (r ≡ Ok x) × (f x ≡ Err u))
bind_err (Ok x) f u e = inr (x, refl, e)
bind_err (Err v) f u e = inl (let same : v ≡ u = cc in ap (λ (w : Unread). Err w) same)

abbrev failed : {A : Type 0} → Unread → Result A Unread
failed u = Err u

pub err_is : {A : Type 0} (u v : Unread) → failed {A = A} u ≡ failed v → u ≡ v
err_is u v e = cc

-- ---- ends

abbrev pub EndSays : Unread → List ℕ → Type 0
EndSays NeedsMore end = BeginsEnd end
EndSays (Faulty f) end = (f ≡ MissingEnd) × BreaksEnd end

pub ok_err : {A : Type 0} (x : A) (u : Unread) → Ok x ≡ failed u → ⊥
ok_err x u e = cc

end_one : (b : ℕ) (v : Bool) (u : Unread) → eqb b 13 ≡ v → (cond v (Ok []) (Err (Faulty MissingEnd)) >>= expect 10) ≡ Err u → EndSays u (b ∷ [])
end_one b true u d e = subst (λ (v : Unread). EndSays v (b ∷ [])) (err_is {A = List ℕ} NeedsMore u e) (eqb-true b 13 d)
end_one b false u d e = subst (λ (v : Unread). EndSays v (b ∷ [])) (err_is {A = List ℕ} (Faulty MissingEnd) u e) (refl, eqb-false b 13 d)

end_two : (b c : ℕ) (bs : List ℕ) (v : Bool) (u : Unread) → eqb b 13 ≡ v → (cond v (Ok (c ∷ bs)) (Err (Faulty MissingEnd)) >>= expect 10) ≡ Err u → EndSays u (b ∷ c ∷ bs)
end_two b c bs true u d e = elim (chosen (eqb c 10) (Ok bs) (Err (Faulty MissingEnd)) (Err u) e) [
  | inl w ↦ absurd (ok_err bs u w.1)
  | inr w ↦ subst (λ (v : Unread). EndSays v (b ∷ c ∷ bs)) (err_is {A = List ℕ} (Faulty MissingEnd) u w.1) (refl, inr (eqb-true b 13 d, eqb-false c 10 w.0))
]
end_two b c bs false u d e = subst (λ (v : Unread). EndSays v (b ∷ c ∷ bs)) (err_is {A = List ℕ} (Faulty MissingEnd) u e) (refl, inl (eqb-false b 13 d))

pub end_stops : (end : List ℕ) (u : Unread) → end_at end ≡ Err u → EndSays u end
end_stops [] u e = subst (λ (v : Unread). EndSays v []) (err_is {A = List ℕ} NeedsMore u e) tt
end_stops (b ∷ []) u e = end_one b (eqb b 13) u refl e
end_stops (b ∷ c ∷ bs) u e = end_two b c bs (eqb b 13) u refl e

-- ---- lines

pub record LineStops (u : Unread) (bytes : List ℕ) : Type 0 where
  pub line : List ℕ
  pub end : List ℕ
  pub is : bytes ≡ line ++ end
  pub is_line : IsLine line
  pub behind : IsBehindLine end
  pub says : EndSays u end

behind_line : (bytes : List ℕ) → IsBehindLine (drop (line_length bytes) bytes)
behind_line [] = tt
behind_line (b ∷ bs) = at_test (behind_line bs) (eqb b 13) (eqb b 10) refl refl
  where
    at_test : IsBehindLine (drop (line_length bs) bs) → (v w : Bool) → eqb b 13 ≡ v → eqb b 10 ≡ w → IsBehindLine (drop (cond (v || w) 0 (suc (line_length bs))) (b ∷ bs))
    at_test h true w e d = inl (eqb-true b 13 e)
    at_test h false true e d = inr (eqb-true b 10 d)
    at_test h false false e d = h

line_stops : (bytes : List ℕ) (u : Unread) → line_at bytes ≡ Err u → LineStops u bytes
unfolding line_at
line_stops bytes u e =
    let n = line_length bytes in
    elim (bind_err (end_at (drop n bytes)) (λ rest. Ok (take n bytes, rest)) u e) [
      | inl h ↦ record {
        line = take n bytes;
        end = drop n bytes;
        is = sym (take-append-drop n bytes);
        is_line = line_front bytes;
        behind = behind_line bytes;
        says =
            end_stops (drop n bytes) u h;
      }
      | inr h ↦ absurd (ok_err (take n bytes, h.0) u h.2)
    ]

module _ (levels before : ℕ) (some : 0 < levels) where
  line_says : (kind : ℕ) (bytes : List ℕ) (u : Unread) → IsKind kind → LineStops u bytes → Says u levels before (kind ∷ bytes)
  line_says kind bytes NeedsMore k s =
      inr (some, inl (record { kind = kind; line = s.line; end = s.end; is = ap (λ (t : List ℕ). kind ∷ t) s.is; is_kind = k; is_line = s.is_line }, s.says))
  line_says kind bytes (Faulty f) k s =
      subst (λ (g : FrameFault). Shows g levels before (kind ∷ bytes)) (sym s.says.0)
      (some, inl (record { kind = kind; line = s.line; end = s.end; is = ap (λ (t : List ℕ). kind ∷ t) s.is; is_kind = k; is_line = s.is_line }, s.behind, s.says.1))

  text_stops : (kind : ℕ) (make : List ℕ → Frame) (bytes : List ℕ) (u : Unread) → IsKind kind → text_at make bytes ≡ Err u → Says u levels before (kind ∷ bytes)
  unfolding text_at
  text_stops kind make bytes u k e = elim (bind_err (line_at bytes) (λ line. Ok (make line.0, line.1)) u e) [
    | inl h ↦ line_says kind bytes u k (line_stops bytes u h)
    | inr h ↦ absurd (ok_err (make h.0.0, h.0.1) u h.2)
  ]

-- ---- numbers

abbrev minus_one : List ℕ
minus_one = 45 ∷ 49 ∷ []

record BadSize (u : Unread) (line : List ℕ) : Type 0 where
  is : Faulty BadLength ≡ u
  form : is_decimal line ≡ false
  other : line ≢ minus_one

size_by : (line : List ℕ) (u : Unread) (n : ℕ) (t : Bool) → is_decimal line ≡ t →
    if_some (cond t (Some n) None) (λ n. Ok (Some n)) (cond (bytes_eq line minus_one) (Ok None) (Err (Faulty BadLength))) ≡ Err u → BadSize u line
size_by line u n true d e = absurd (ok_err (Some n) u e)
size_by line u n false d e = elim (chosen (bytes_eq line minus_one) (Ok None) (Err (Faulty BadLength)) (Err u) e) [
  | inl w ↦ absurd (ok_err {A = Option ℕ} None u w.1)
  | inr w ↦ record {
    is = err_is {A = Option ℕ} (Faulty BadLength) u w.1;
    form = d;
    other = λ same. let t : bytes_eq line minus_one ≡ true = ap (λ (t : List ℕ). bytes_eq t minus_one) same in absurd (let d : false ≡ true = sym w.0 ∙ t in cc);
  }
]

size_stops : (line : List ℕ) (u : Unread) → size_of line ≡ Err u → BadSize u line
unfolding size_of number_of
size_stops line u e = size_by line u (min (number_on 0 line) (2 ^ 64 - 1)) (is_decimal line) refl e

pub number_is : (line : List ℕ) (n : ℕ) → number_of line ≡ Some n → (is_decimal line ≡ true) × (min (number_on 0 line) (2 ^ 64 - 1) ≡ n)
unfolding number_of
number_is line n e = elim (chosen (is_decimal line) (Some (min (number_on 0 line) (2 ^ 64 - 1))) None (Some n) e) [
  | inl w ↦ (w.0, same_Some (min (number_on 0 line) (2 ^ 64 - 1)) n w.1)
  | inr w ↦ absurd (let d : None ≡ Some n = w.1 in cc)
]

some_err : {A B : Type 0} (o : Option A) (f : A → B) (d u : Unread) → if_some o (λ x. Ok (f x)) (Err d) ≡ Err u → (o ≡ None) × (d ≡ u)
some_err (Some x) f d u e = absurd (ok_err (f x) u e)
some_err {B = B} None f d u e = (refl, err_is {A = B} d u e)

module _ (levels before : ℕ) (some : 0 < levels) where
  integer_stops : (bytes : List ℕ) (u : Unread) → integer_at bytes ≡ Err u → Says u levels before (58 ∷ bytes)
  unfolding integer_at
  integer_stops bytes u e = elim (bind_err (line_at bytes) (λ line. if_some (integer_of line.0) (λ n. Ok (int n, line.1)) (Err (Faulty BadNumber))) u e) [
    | inl h ↦ line_says levels before some 58 bytes u (inr (inr (inl refl))) (line_stops bytes u h)
    | inr h ↦
        let t = line_takes bytes h.0.0 h.0.1 h.1 in
        let n = some_err (integer_of h.0.0) (λ n. (int n, h.0.1)) (Faulty BadNumber) u h.2 in
        let none : (n : ℤ) → IsLong n → h.0.0 ≢ signed_decimal n = λ k long same. let d : None ≡ Some k = sym n.0 ∙ ap integer_of same ∙ integer_again k long in absurd cc in
        subst (λ (v : Unread). Says v levels before (58 ∷ bytes)) n.1 (h.0.0, h.0.1, some, ap (λ (t : List ℕ). 58 ∷ t) t.0, t.1, none)
  ]

  -- ---- bulk strings

  block_says : (digits block rest end : List ℕ) (u : Unread) → is_decimal digits ≡ true → with_bulk before digits ≤ 65536 → length block ≡ number_on 0 digits →
      rest ≡ block ++ end → EndSays u end
      → Says u levels before (36 ∷ (digits ++ (line_end ++ rest)))
  block_says digits block rest end NeedsMore form fits all is says =
      inr (
        some,
        inr (
          record { digits = digits; block = block; end = end; is = ap (λ (t : List ℕ). 36 ∷ (digits ++ (line_end ++ t))) is; is_length = form; fits = fits },
          inr
              (all, says),
        ),
      )
  block_says digits block rest end (Faulty f) form fits all is says =
      subst (λ (g : FrameFault). Shows g levels before (36 ∷ (digits ++ (line_end ++ rest)))) (sym says.0)
      (some, inr (record { digits = digits; block = block; end = end; is = ap (λ (t : List ℕ). 36 ∷ (digits ++ (line_end ++ t))) is; is_length = form; fits = fits }, all, says.1))

  block_stops : (more n : ℕ) (digits rest : List ℕ) (u : Unread) → is_decimal digits ≡ true → min (number_on 0 digits) (2 ^ 64 - 1) ≡ n →
      before + 1 + length digits + 2 + length rest + more ≡ 65536
      → block_at more n rest ≡ Err u → Says u levels before (36 ∷ (digits ++ (line_end ++ rest)))
  unfolding block_at
  block_stops more n digits rest u form value room e =
      let at : Unread → Type 0 = λ v. Says v levels before (36 ∷ (digits ++ (line_end ++ rest))) in
      let last : Result (Frame × List ℕ) Unread = end_at (drop n rest) >>= λ r. Ok (bulk (take n rest), r) in
      elim (chosen (ltb (length rest + more) (n + 2)) (Err (Faulty TooLong)) (cond (ltb (length rest) n) (Err NeedsMore) last) (Err u) e) [
        | inl w ↦
            let over = ltb-true (length rest + more) (n + 2) w.0 in
            subst at (err_is {A = Frame × List ℕ} (Faulty TooLong) u w.1) (digits, rest, some, refl, form, omega arith)
        | inr v ↦
            let within = ltb-false (length rest + more) (n + 2) v.0 in
            let fits : with_bulk before digits ≤ 65536 = omega arith in
            elim (chosen (ltb (length rest) n) (Err NeedsMore) last (Err u) v.1) [
              | inl w ↦
                  let less = ltb-true (length rest) n w.0 in
                  let short : length rest < number_on 0 digits = omega arith in
                  subst at (err_is {A = Frame × List ℕ} NeedsMore u w.1)
                  (inr (
                    some,
                    inr (
                      record {
                        digits = digits;
                        block = rest;
                        end = [];
                        is =
                            ap (λ (t : List ℕ). 36 ∷ (digits ++ (line_end ++ t))) (sym (append-nil rest));
                        is_length = form;
                        fits = fits;
                      },
                      inl (short, refl),
                    ),
                  ))
              | inr w ↦
                  let enough = ltb-false (length rest) n w.0 in
                  let all : length (take n rest) ≡ number_on 0 digits = omega (arith, length-take n rest) in
                  elim (bind_err (end_at (drop n rest)) (λ r. Ok (bulk (take n rest), r)) u w.1) [
                    | inl h ↦ block_says digits (take n rest) rest (drop n rest) u form fits all (sym (take-append-drop n rest)) (end_stops (drop n rest) u h)
                    | inr h ↦ absurd (ok_err (bulk (take n rest), h.0) u h.2)
                  ]
            ]
      ]

  bulk_stops : (more : ℕ) (bytes : List ℕ) (u : Unread) → before + length (36 ∷ bytes) + more ≡ 65536 → bulk_at more bytes ≡ Err u → Says u levels before (36 ∷ bytes)
  unfolding bulk_at
  bulk_stops more bytes u room e = elim (bind_err (line_at bytes) (λ line. size_of line.0 >>= λ size. if_some size (λ n. block_at more n line.1) (Ok (null_bulk, line.1))) u e) [
    | inl h ↦ line_says levels before some 36 bytes u (inr (inr (inr (inl refl)))) (line_stops bytes u h)
    | inr h ↦
        let t = line_takes bytes h.0.0 h.0.1 h.1 in
        elim (bind_err (size_of h.0.0) (λ size. if_some size (λ n. block_at more n h.0.1) (Ok (null_bulk, h.0.1))) u h.2) [
          | inl g ↦
              let bad = size_stops h.0.0 u g in
              subst (λ (v : Unread). Says v levels before (36 ∷ bytes)) bad.is (36, h.0.0, h.0.1, some, ap (λ (t : List ℕ). 36 ∷ t) t.0, inl refl, t.1, bad.form, bad.other)
          | inr g ↦ elim (size_takes h.0.0 g.0 g.1) [
            | inl w ↦
                let read : block_at more w.0 h.0.1 ≡ Err u = rw w.1 at g.2 in
                let number = number_is h.0.0 w.0 w.2 in
                let space : before + 1 + length h.0.0 + 2 + length h.0.1 + more ≡ 65536 = omega (arith, ap length t.0, length-append h.0.0 (line_end ++ h.0.1)) in
                subst (λ (s : List ℕ). Says u levels before (36 ∷ s)) (sym t.0) (block_stops more w.0 h.0.0 h.0.1 u number.0 number.1 space read)
            | inr w ↦ let read : Ok (null_bulk, h.0.1) ≡ Err u = rw w.0 at g.2 in absurd (ok_err (null_bulk, h.0.1) u read)
          ]
        ]
  ]

-- ---- arrays

abbrev Stops : ℕ → ℕ → (List ℕ → Result (Frame × List ℕ) Unread) → Type 0
Stops levels more inner = (before : ℕ) (bytes : List ℕ) (u : Unread) → before + length bytes + more ≡ 65536 → inner bytes ≡ Err u → Within (Says u) levels before bytes

abbrev Takes : ℕ → ℕ → (List ℕ → Result (Frame × List ℕ) Unread) → Type 0
Takes levels more inner = (bytes : List ℕ) (x : Frame × List ℕ) → length bytes + more < 2 ^ 64 → inner bytes ≡ Ok x → Taken 1024 levels bytes x.0 x.1

record StopsAt (levels n : ℕ) (inner : List ℕ → Result (Frame × List ℕ) Unread) (u : Unread) (bytes : List ℕ) : Type 0 where
  whole : FrameList
  rest : List ℕ
  is : bytes ≡ spellings whole ++ rest
  more : count whole < n
  plain : ArePlain whole
  deep : deepest_of whole ≤ levels
  wide : widest_of whole ≤ 1024
  stops : inner rest ≡ Err u

module _ (levels more : ℕ) (inner : List ℕ → Result (Frame × List ℕ) Unread) (takes : Takes levels more inner) where
  values_stop : (n : ℕ) (bytes : List ℕ) (u : Unread) → length bytes + more < 2 ^ 64 → values_at inner n bytes ≡ Err u → StopsAt levels n inner u bytes
  unfolding values_at
  values_stop zero bytes u room e = absurd (ok_err (no_frames, bytes) u e)
  values_stop (suc n) bytes u room e = elim (bind_err (inner bytes) (λ first. values_at inner n first.1 >>= λ others. Ok (frame first.0 others.0, others.1)) u e) [
    | inl h ↦ record { whole = no_frames; rest = bytes; is = refl; more = omega arith; plain = tt; deep = omega arith; wide = omega arith; stops = h }
    | inr h ↦
        let first = takes bytes h.0 room h.1 in
        let shorter : length h.0.1 ≤ length bytes = omega (arith, ap length first.parts, length-append (spelling h.0.0) h.0.1) in
        elim (bind_err (values_at inner n h.0.1) (λ others. Ok (frame h.0.0 others.0, others.1)) u h.2) [
          | inl g ↦
              let later = values_stop n h.0.1 u (omega arith) g in
              record {
                whole = frame h.0.0 later.whole;
                rest = later.rest;
                is = first.parts ∙ ap (λ (t : List ℕ). spelling h.0.0 ++ t) later.is ∙ sym (append_assoc (spelling h.0.0) (spellings later.whole) later.rest);
                more = omega (arith, later.more);
                plain = (first.plain, later.plain);
                deep = omega (arith, first.deep, later.deep);
                wide = omega (arith, first.wide, later.wide);
                stops = later.stops;
              }
          | inr g ↦ absurd (ok_err (frame h.0.0 g.0.0, g.0.1) u g.2)
        ]
  ]

  items_stop : Stops levels more inner → (before : ℕ) (bytes : List ℕ) (u : Unread) → before + length (42 ∷ bytes) + more ≡ 65536 → items_at 1024 inner bytes ≡ Err u →
      Within (Says u) (suc levels) before (42 ∷ bytes)
  unfolding items_at
  items_stop stops before bytes u room e =
      let some : 0 < suc levels = omega arith in
      elim (bind_err (line_at bytes) (λ line. size_of line.0 >>= λ size. if_some size
      (λ n. cond (ltb 1024 n) (Err (Faulty TooMany)) (values_at inner n line.1 >>= λ list. Ok (items list.0, list.1))) (Ok (null_items, line.1))) u e) [
        | inl h ↦ inl (line_says (suc levels) before some 42 bytes u (inr (inr (inr (inr refl)))) (line_stops bytes u h))
        | inr h ↦
            let t = line_takes bytes h.0.0 h.0.1 h.1 in
            elim (bind_err (size_of h.0.0) (λ size. if_some size (λ n. cond (ltb 1024 n) (Err (Faulty TooMany)) (values_at inner n h.0.1 >>= λ list. Ok (items list.0, list.1)))
            (Ok (null_items, h.0.1))) u h.2) [
              | inl g ↦
                  let bad = size_stops h.0.0 u g in
                  inl (subst (λ (v : Unread). Says v (suc levels) before (42 ∷ bytes)) bad.is
                  (42, h.0.0, h.0.1, some, ap (λ (t : List ℕ). 42 ∷ t) t.0, inr refl, t.1, bad.form, bad.other))
              | inr g ↦ elim (size_takes h.0.0 g.0 g.1) [
                | inl w ↦
                    let n = w.0 in
                    let number = number_is h.0.0 n w.2 in
                    let read : cond (ltb 1024 n) (Err (Faulty TooMany)) (values_at inner n h.0.1 >>= λ list. Ok (items list.0, list.1)) ≡ Err u = rw w.1 at g.2 in
                    elim (chosen (ltb 1024 n) (Err (Faulty TooMany)) (values_at inner n h.0.1 >>= λ list. Ok (items list.0, list.1)) (Err u) read) [
                      | inl v ↦
                          let over = ltb-true 1024 n v.0 in
                          let value = number.1 in
                          let many : 1024 < number_on 0 h.0.0 = omega arith in
                          inl (subst (λ (v : Unread). Says v (suc levels) before (42 ∷ bytes)) (err_is {A = Frame × List ℕ} (Faulty TooMany) u v.1)
                          (h.0.0, h.0.1, some, ap (λ (t : List ℕ). 42 ∷ t) t.0, number.0, many))
                      | inr v ↦
                          let within : n ≤ 1024 = ltb-false 1024 n v.0 in
                          elim (bind_err (values_at inner n h.0.1) (λ list. Ok (items list.0, list.1)) u v.1) [
                            | inl k ↦
                                let lens : length h.0.1 ≤ length bytes = omega (arith, ap length t.0, length-append h.0.0 (line_end ++ h.0.1)) in
                                let at = values_stop n h.0.1 u (omega arith) k in
                                let header : h.0.0 ≡ decimal n = number_takes h.0.0 n (omega arith) w.2 in
                                let array : OpenArray = record { size = n; whole = at.whole } in
                                let text : bytes ≡ ((decimal n ++ line_end) ++ spellings at.whole) ++ at.rest =
                                t.0 ∙ ap (λ (s : List ℕ). s ++ (line_end ++ h.0.1)) header ∙ ap (λ (s : List ℕ). decimal n ++ (line_end ++ s)) at.is
                                ∙ sym (append_assoc (decimal n) line_end (spellings at.whole ++ at.rest)) ∙
                                sym (append_assoc (decimal n ++ line_end) (spellings at.whole) at.rest) in
                                let whole : 42 ∷ bytes ≡ opening array ++ at.rest = ap (λ (s : List ℕ). 42 ∷ s) text in
                                let space : (before + length (opening array)) + length at.rest + more ≡ 65536 =
                                omega (arith, ap length whole, length-append (opening array) at.rest) in
                                inr (
                                  array,
                                  at.rest,
                                  whole,
                                  record { few = within; more = at.more; plain = at.plain; deep = at.deep; wide = at.wide },
                                  stops
                                      (before + length (opening array)) at.rest u space at.stops,
                                )
                            | inr k ↦ absurd (ok_err (items k.0.0, k.0.1) u k.2)
                          ]
                    ]
                | inr w ↦ let read : Ok (null_items, h.0.1) ≡ Err u = rw w.0 at g.2 in absurd (ok_err (null_items, h.0.1) u read)
              ]
            ]
      ]

  -- ---- values

  kind_stops : Stops levels more inner → (before kind : ℕ) (bytes : List ℕ) (u : Unread) → before + length (kind ∷ bytes) + more ≡ 65536 →
      kind_at 1024 more inner kind bytes ≡ Err u → Within (Says u) (suc levels) before (kind ∷ bytes)
  unfolding kind_at
  kind_stops stops before kind bytes u room e =
      let some : 0 < suc levels = omega arith in
      let at : ℕ → Type 0 = λ k. Within (Says u) (suc levels) before (k ∷ bytes) in
      let other5 : Result (Frame × List ℕ) Unread = Err (Faulty BadKind) in
      let other4 : Result (Frame × List ℕ) Unread = cond (eqb kind 42) (items_at 1024 inner bytes) other5 in
      let other3 : Result (Frame × List ℕ) Unread = cond (eqb kind 36) (bulk_at more bytes) other4 in
      let other2 : Result (Frame × List ℕ) Unread = cond (eqb kind 58) (integer_at bytes) other3 in
      let other1 : Result (Frame × List ℕ) Unread = cond (eqb kind 45) (text_at fault bytes) other2 in
      elim (chosen (eqb kind 43) (text_at simple bytes) other1 (Err u) e) [
        | inl w ↦ subst at (sym (eqb-true kind 43 w.0)) (inl (text_stops (suc levels) before some 43 simple bytes u (inl refl) w.1))
        | inr v1 ↦ elim (chosen (eqb kind 45) (text_at fault bytes) other2 (Err u) v1.1) [
          | inl w ↦ subst at (sym (eqb-true kind 45 w.0)) (inl (text_stops (suc levels) before some 45 fault bytes u (inr (inl refl)) w.1))
          | inr v2 ↦ elim (chosen (eqb kind 58) (integer_at bytes) other3 (Err u) v2.1) [
            | inl w ↦ subst at (sym (eqb-true kind 58 w.0)) (inl (integer_stops (suc levels) before some bytes u w.1))
            | inr v3 ↦ elim (chosen (eqb kind 36) (bulk_at more bytes) other4 (Err u) v3.1) [
              | inl w ↦ subst at (sym (eqb-true kind 36 w.0)) (inl (bulk_stops (suc levels) before some more bytes u room w.1))
              | inr v4 ↦ elim (chosen (eqb kind 42) (items_at 1024 inner bytes) other5 (Err u) v4.1) [
                | inl w ↦ subst at (sym (eqb-true kind 42 w.0)) (items_stop stops before bytes u room w.1)
                | inr v5 ↦
                    let none : IsKind kind → ⊥ = λ is. elim is [
                      | inl a ↦ eqb-false kind 43 v1.0 a
                      | inr b ↦ elim b [
                        | inl a ↦ eqb-false kind 45 v2.0 a
                        | inr c ↦ elim c [
                          | inl a ↦ eqb-false kind 58 v3.0 a
                          | inr d ↦ elim d [ inl a ↦ eqb-false kind 36 v4.0 a | inr a ↦ eqb-false kind 42 v5.0 a ]
                        ]
                      ]
                    ] in
                    inl (subst (λ (v : Unread). Says v (suc levels) before (kind ∷ bytes)) (err_is {A = Frame × List ℕ} (Faulty BadKind) u v5.1) (kind, bytes, some, refl, none))
              ]
            ]
          ]
        ]
      ]

pub value_stops : (more levels : ℕ) → Stops levels more (value_at 1024 more levels)
unfolding value_at
value_stops more zero before [] u room e = subst (λ (v : Unread). Within (Says v) zero before []) (err_is {A = Frame × List ℕ} NeedsMore u e) (inl refl)
value_stops more zero before (b ∷ bs) u room e = subst (λ (v : Unread). Within (Says v) zero before (b ∷ bs)) (err_is {A = Frame × List ℕ} (Faulty TooDeep) u e) (b, bs, refl, refl)
value_stops more (suc levels) before [] u room e = subst (λ (v : Unread). Within (Says v) (suc levels) before []) (err_is {A = Frame × List ℕ} NeedsMore u e) (inl (inl refl))
value_stops more (suc levels) before (b ∷ bs) u room e =
    kind_stops levels more (value_at 1024 more levels) (value_takes 1024 more levels (omega arith)) (value_stops more levels) before b bs u room e
