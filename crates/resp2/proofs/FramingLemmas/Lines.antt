-- Lines: what is read as a line is one, and a line is read whatever follows.
use Rattle.std.proofs.Common.{◌≡◌, ℕ, zero, suc, ◌+◌, ◌<◌, ◌≤◌, Bool, true, false, cond, eqb, ◌||◌, List, [], ◌∷◌, ◌++◌, length, take, drop, Ok, Err, refl, sym, ap, subst, ◌∙◌, arith, inl, inr, rules}
use Rattle.std.specs.Prelude.{codes}
use Rattle.std.proofs.lemmas.Bool.{eqb-true, eqb-false, ne_eqb, cases_lt}
use Rattle.std.proofs.lemmas.List.{take_at, take_all, drop_at, take-append-drop, drop_all, take-append-le, drop-append-le}
use Rattle.resp2.specs.declared.framing.fault.FrameFault.TheVariants.{MissingEnd}
use Rattle.resp2.specs.declared.framing.fault.Unread.TheVariants.{Faulty}
use Rattle.resp2.specs.Framing.Frame.{IsLine, line_end}
use Rattle.ballot_law.specs.Cuts.{IsEnd}
use Rattle.ballot_law.specs.Results.{◌>>=◌}
use Rattle.ballot_law.proofs.CutLemmas.{tail_end}
use Rattle.resp2.specs.Framing.Reading.{expect, end_at, line_length, line_at, Stays}
use Rattle.resp2.proofs.FramingLemmas.Steps.{bind_ok, passed_ok, ok_is}

expect_takes : (byte : ℕ) (bytes rest : List ℕ) → expect byte bytes ≡ Ok rest → bytes ≡ byte ∷ rest
expect_takes byte [] rest e = absurd cc
expect_takes byte (b ∷ bs) rest e =
    let p = passed_ok (eqb b byte) (Faulty MissingEnd) (Ok bs) rest e in
    let same : b ≡ byte = eqb-true b byte p.0 in
    let tail : bs ≡ rest = ok_is bs rest p.1 in
    cc

pub end_takes : (bytes rest : List ℕ) → end_at bytes ≡ Ok rest → bytes ≡ line_end ++ rest
end_takes bytes rest e =
    let a = bind_ok (expect 13 bytes) (expect 10) rest e in
    let first = expect_takes 13 bytes a.0 a.1 in
    let second = expect_takes 10 a.0 rest a.2 in
    cc

-- the end of a line or of a bulk stays where it is
pub end_stays : {A : Type 0} (p : List ℕ) (x : A) (bytes : List ℕ) → Stays p (end_at bytes >>= λ rest. Ok (x, rest)) (end_at (bytes ++ p) >>= λ rest. Ok (x, rest))
end_stays p x [] = tt
end_stays p x (b ∷ bs) = elim (eqb b 13) as (λ v. Stays p ((cond v (Ok bs) (Err (Faulty MissingEnd)) >>= expect 10) >>= λ rest. Ok (x, rest))
    ((cond v (Ok (bs ++ p)) (Err (Faulty MissingEnd)) >>= expect 10) >>= λ rest. Ok (x, rest))) [
      | true ↦ second bs
      | false ↦ refl
    ]
  where
    second : (cs : List ℕ) → Stays p (expect 10 cs >>= λ rest. Ok (x, rest)) (expect 10 (cs ++ p) >>= λ rest. Ok (x, rest))
    second [] = tt
    second (c ∷ cs) = elim (eqb c 10) as (λ v. Stays p (cond v (Ok cs) (Err (Faulty MissingEnd)) >>= λ rest. Ok (x, rest))
        (cond v (Ok (cs ++ p)) (Err (Faulty MissingEnd)) >>= λ rest. Ok (x, rest))) [ true ↦ refl | false ↦ refl ]

-- what answers PING is a line
pub pong_line : IsLine (codes "PONG")
pong_line = search rules

-- ---- the length of a line

pub line_front : (bytes : List ℕ) → IsLine (take (line_length bytes) bytes)
line_front [] = tt
line_front (b ∷ bs) = at_test (line_front bs) (eqb b 13) (eqb b 10) refl refl
  where
    at_test : IsLine (take (line_length bs) bs) → (v w : Bool) → eqb b 13 ≡ v → eqb b 10 ≡ w → IsLine (take (cond (v || w) 0 (suc (line_length bs))) (b ∷ bs))
    at_test h true w e d = tt
    at_test h false true e d = tt
    at_test h false false e d = ((eqb-false b 13 e, eqb-false b 10 d), h)

pub line_length_le : (bytes : List ℕ) → line_length bytes ≤ length bytes
line_length_le [] = omega arith
line_length_le (b ∷ bs) = elim (eqb b 13 || eqb b 10) as (λ v. cond v 0 (suc (line_length bs)) ≤ suc (length bs))
    [ true ↦ omega arith | false ↦ let h = line_length_le bs in omega arith ]

-- a line that is followed by its end
pub line_length_at : (line rest : List ℕ) → IsLine line → line_length (line ++ (13 ∷ rest)) ≡ length line
line_length_at [] rest h = refl
line_length_at (b ∷ bs) rest h = rw (ne_eqb b 13 h.0.0, ne_eqb b 10 h.0.1) (ap suc (line_length_at bs rest h.1))

pub line_length_more : (bytes p : List ℕ) → line_length bytes < length bytes → line_length (bytes ++ p) ≡ line_length bytes
line_length_more [] p h = absurd (omega arith)
line_length_more (b ∷ bs) p h = at_test (λ k. line_length_more bs p k) (eqb b 13 || eqb b 10) h
  where
    at_test : (line_length bs < length bs → line_length (bs ++ p) ≡ line_length bs) → (v : Bool) → cond v 0 (suc (line_length bs)) < suc (length bs)
        → cond v 0 (suc (line_length (bs ++ p))) ≡ cond v 0 (suc (line_length bs))
    at_test same true k = refl
    at_test same false k = ap suc (same (omega arith))

-- ---- lines

pub line_takes : (bytes line rest : List ℕ) → line_at bytes ≡ Ok (line, rest) → (bytes ≡ line ++ (line_end ++ rest)) × IsLine line
unfolding line_at
line_takes bytes line rest e =
    let n = line_length bytes in
    let a = bind_ok (end_at (drop n bytes)) (λ r. Ok (take n bytes, r)) (line, rest) e in
    let tail = end_takes (drop n bytes) a.0 a.1 in
    let same = ok_is (take n bytes, a.0) (line, rest) a.2 in
    let line_is : take n bytes ≡ line = ap (λ (x : List ℕ × List ℕ). x.0) same in
    let rest_is : a.0 ≡ rest = ap (λ (x : List ℕ × List ℕ). x.1) same in
    let whole : bytes ≡ take n bytes ++ (line_end ++ a.0) = sym (take-append-drop n bytes) ∙ ap (λ (t : List ℕ). take n bytes ++ t) tail in
    (whole ∙ ap (λ (x : List ℕ × List ℕ). x.0 ++ (line_end ++ x.1)) same, subst IsLine line_is (line_front bytes))

pub line_again : (line rest : List ℕ) → IsLine line → line_at (line ++ (line_end ++ rest)) ≡ Ok (line, rest)
unfolding line_at
line_again line rest h =
    let n : line_length (line ++ (line_end ++ rest)) ≡ length line = line_length_at line (10 ∷ rest) h in
    rw (n, drop_at line (line_end ++ rest) (length line) refl, take_at line (line_end ++ rest) (length line) refl) refl

pub line_stays : (p bytes : List ℕ) → Stays p (line_at bytes) (line_at (bytes ++ p))
unfolding line_at
line_stays p bytes =
    let n = line_length bytes in
    elim (cases_lt n (length bytes)) [
      | inl lt ↦
          let n_is : line_length (bytes ++ p) ≡ n = line_length_more bytes p lt in
          let le : n ≤ length bytes = omega arith in
          rw (n_is, drop-append-le n bytes p le, take-append-le n bytes p le) (end_stays p (take n bytes) (drop n bytes))
      | inr le ↦ rw (drop_all n bytes le) tt
    ]

-- the place of the first CR or LF is the length of the line
line_length_at_end : (bytes : List ℕ) (n : ℕ) → IsEnd (λ b. eqb b 13 || eqb b 10) bytes n → line_length bytes ≡ n
line_length_at_end [] zero e = refl
line_length_at_end [] (suc n) e = absurd (let h : suc n ≤ 0 = e.within in omega arith)
line_length_at_end (b ∷ bs) zero e = ap (λ (t : Bool). cond t 0 (suc (line_length bs))) (e.here (omega arith))
line_length_at_end (b ∷ bs) (suc n) e =
    ap (λ (t : Bool). cond t 0 (suc (line_length bs))) (e.before 0 (omega arith))
    ∙ ap suc (line_length_at_end bs n (tail_end (λ b. eqb b 13 || eqb b 10) b bs n e))

pub line_length_is : (bytes : List ℕ) (n : ℕ) → IsEnd (λ b. eqb b 13 || eqb b 10) bytes n → n ≡ line_length bytes
line_length_is bytes n e = sym (line_length_at_end bytes n e)

-- the search for a line's end may begin where none was found before
pub line_length_behind : (bytes : List ℕ) (n : ℕ) → n ≤ length bytes → IsLine (take n bytes) → line_length bytes ≡ n + line_length (drop n bytes)
line_length_behind bytes zero le h = omega arith
line_length_behind [] (suc n) le h = absurd (omega arith)
line_length_behind (b ∷ bs) (suc n) le h = let later = line_length_behind bs n (omega arith) h.1 in rw (ne_eqb b 13 h.0.0, ne_eqb b 10 h.0.1) (omega (arith, later))

pub line_length_whole : (bytes : List ℕ) → line_length bytes ≡ length bytes → IsLine bytes
line_length_whole bytes e = rw (ap (λ (n : ℕ). take n bytes) e ∙ take_all (length bytes) bytes (omega arith)) at (line_front bytes)
