-- What a text with room holds once something was added to it as to any sink.
use Rattle.std.proofs.Common.{◌≡◌, ◌↔◌, ℕ, ◌+◌, true, true≢false, refl, ◌-◌, ◌≤◌, ◌<◌, min, List, ◌++◌, length, take, ap, sym, ◌∙◌, arith, length-append, Result, Ok, Err}
use Rattle.std.specs.Prelude.{IsOk, OnOk}
use Rattle.std.proofs.lemmas.List.{take-append-le, take_all, take-take, length-take-le}
use Rattle.resp2.specs.Framing.Writing.{Begins, Adds}
use Rattle.bounded_list.specs.BoundedLists as lists
use Rattle.bounded_list.proofs.Bounded.{bounded_all, added_fits, two_adds}
use Rattle.ballot_law.specs.declared.messages.TheConstants.{ANSWER_MAX}
use Rattle.port_answers.specs.declared.info_lines.TheConstants.{SECTION_MAX}
use Rattle.port_answers.specs.Room.{bounded, within_section}

-- what has room was added, and what has none was cut
pub filled : {X E : Type 0} (answer : Result X E) (before after bytes : List ℕ) → Adds answer before after bytes (length after ≡ ANSWER_MAX) → bounded after ≡ after
    → after ≡ bounded (before ++ bytes)
unfolding lists.bounded
filled (Ok x) before after bytes h within = sym within ∙ ap bounded h
filled (Err e) before after bytes h within = sym h.1 ∙ ap (λ (n : ℕ). take n (before ++ bytes)) h.2

-- a piece that has room
pub pushed_whole : (before after piece : List ℕ) → length before + length piece ≤ ANSWER_MAX → after ≡ bounded (before ++ piece) → after ≡ before ++ piece
pushed_whole before after piece short e = e ∙ bounded_all ANSWER_MAX (before ++ piece) (omega (arith, length-append before piece))

-- a piece that has none
pub pushed_part : (before after piece : List ℕ) → length before ≤ ANSWER_MAX → ANSWER_MAX < length before + length piece → after ≡ bounded (before ++ piece)
    → Begins before after × Begins after (before ++ piece) × (length after ≡ ANSWER_MAX)
unfolding lists.bounded
pushed_part before after piece short long e =
    let size : length after ≡ ANSWER_MAX = ap length e ∙ length-take-le ANSWER_MAX (before ++ piece) (omega (arith, length-append before piece)) in
    let front : Begins before after =
    ap (take (length before)) e ∙ take-take (length before) ANSWER_MAX (before ++ piece) short ∙ take-append-le (length before) before piece (omega arith) ∙
    take_all (length before) before (omega arith) in
    (front, ap (λ (n : ℕ). take n (before ++ piece)) size ∙ sym e, size)

-- what has room of a piece
on_ok : {X E : Type 0} (answer : Result X E) (P : Type 0) → IsOk answer → OnOk answer P → P
on_ok (Ok x) P is h = h
on_ok (Err e) P is h = absurd (true≢false (sym is))

pub extended : {X E : Type 0} (limit : ℕ) (old piece part new : List ℕ) (k : ℕ) (answer : Result X E) → length old ≤ limit
    → k ≡ min (length piece) (limit - length old) → part ≡ take k piece → length part ≡ k
    → (IsOk answer ↔ (length old + length part ≤ limit)) → OnOk answer (new ≡ old ++ part) → new ≡ lists.bounded limit (old ++ piece)
extended limit old piece part new k answer short e f size may h =
    let room : length old + length part ≤ limit = omega (arith, e, size) in
    added_fits limit old piece part new k true short e f refl (on_ok answer (new ≡ old ++ part) (may.1 room) h)

-- two parts of a section, one behind the other
pub section_more : (old mid new first second : List ℕ) → mid ≡ within_section (old ++ first) → new ≡ within_section (mid ++ second)
    → new ≡ within_section (old ++ (first ++ second))
section_more old mid new first second e f = two_adds SECTION_MAX old mid new first second e f
