-- Texts that are added one behind the other, the last of them where it is.
use Rattle.std.proofs.Common.{◌≡◌, ◌∙◌, ◌++◌, ℕ, List, [], ap, append_assoc, Result, Ok, Err}
use Rattle.std.specs.Prelude.{OnOk}

behind : (old first mid rest new : List ℕ) → mid ≡ old ++ first → new ≡ mid ++ rest → new ≡ old ++ (first ++ rest)
behind old first mid rest new e f = f ∙ ap (λ (t : List ℕ). t ++ rest) e ∙ append_assoc old first rest

on_behind : {X E : Type 0} (answer : Result X E) (old first mid rest new : List ℕ) → mid ≡ old ++ first → OnOk answer (new ≡ mid ++ rest)
    → OnOk answer (new ≡ old ++ (first ++ rest))
on_behind (Ok x) old first mid rest new e f = behind old first mid rest new e f
on_behind (Err fault) old first mid rest new e f = f

pub three_parts : {X E : Type 0} (answer : Result X E) (a b c old m1 m2 new : List ℕ) → m1 ≡ old ++ a → m2 ≡ m1 ++ b → OnOk answer (new ≡ m2 ++ c)
    → OnOk answer (new ≡ old ++ (a ++ (b ++ c)))
three_parts answer a b c old m1 m2 new e f last = on_behind answer old a m1 (b ++ c) new e (on_behind answer m1 b m2 c new f last)

pub four_parts : {X E : Type 0} (answer : Result X E) (a b c d old m1 m2 m3 new : List ℕ) → m1 ≡ old ++ a → m2 ≡ m1 ++ b → m3 ≡ m2 ++ c
    → OnOk answer (new ≡ m3 ++ d) → OnOk answer (new ≡ old ++ (a ++ (b ++ (c ++ d))))
four_parts answer a b c d old m1 m2 m3 new e f g last =
    on_behind answer old a m1 (b ++ (c ++ d)) new e (three_parts answer b c d m1 m2 m3 new f g last)

pub five_parts : {X E : Type 0} (answer : Result X E) (a b c d e old m1 m2 m3 m4 new : List ℕ) → m1 ≡ old ++ a → m2 ≡ m1 ++ b → m3 ≡ m2 ++ c
    → m4 ≡ m3 ++ d → OnOk answer (new ≡ m4 ++ e) → OnOk answer (new ≡ old ++ (a ++ (b ++ (c ++ (d ++ e)))))
five_parts answer a b c d e old m1 m2 m3 m4 new at bt ct dt last =
    on_behind answer old a m1 (b ++ (c ++ (d ++ e))) new at (four_parts answer b c d e m1 m2 m3 m4 new bt ct dt last)

pub six_parts : {X E : Type 0} (answer : Result X E) (a b c d e f old m1 m2 m3 m4 m5 new : List ℕ) → m1 ≡ old ++ a → m2 ≡ m1 ++ b → m3 ≡ m2 ++ c
    → m4 ≡ m3 ++ d → m5 ≡ m4 ++ e → OnOk answer (new ≡ m5 ++ f) → OnOk answer (new ≡ old ++ (a ++ (b ++ (c ++ (d ++ (e ++ f))))))
six_parts answer a b c d e f old m1 m2 m3 m4 m5 new at bt ct dt et last =
    on_behind answer old a m1 (b ++ (c ++ (d ++ (e ++ f)))) new at (five_parts answer b c d e f m1 m2 m3 m4 m5 new bt ct dt et last)

-- lists to which others are added, from none
pub six_more : {X : Type 0} (a b c d e f m0 m1 m2 m3 m4 m5 m6 : List X) → m0 ≡ [] → m1 ≡ m0 ++ a → m2 ≡ m1 ++ b → m3 ≡ m2 ++ c → m4 ≡ m3 ++ d
    → m5 ≡ m4 ++ e → m6 ≡ m5 ++ f → m6 ≡ a ++ (b ++ (c ++ (d ++ (e ++ f))))
six_more {X} a b c d e f m0 m1 m2 m3 m4 m5 m6 none at bt ct dt et ft =
    let one : m1 ≡ a = at ∙ ap (λ (t : List X). t ++ a) none in
    let two : m2 ≡ a ++ b = bt ∙ ap (λ (t : List X). t ++ b) one in
    let three : m3 ≡ a ++ (b ++ c) = ct ∙ ap (λ (t : List X). t ++ c) two ∙ append_assoc a b c in
    let four : m4 ≡ a ++ (b ++ (c ++ d)) =
    dt ∙ ap (λ (t : List X). t ++ d) three ∙ append_assoc a (b ++ c) d ∙ ap (λ (t : List X). a ++ t) (append_assoc b c d) in
    let five : m5 ≡ a ++ (b ++ (c ++ (d ++ e))) =
    et ∙ ap (λ (t : List X). t ++ e) four ∙ append_assoc a (b ++ (c ++ d)) e
    ∙ ap (λ (t : List X). a ++ t) (append_assoc b (c ++ d) e ∙ ap (λ (t : List X). b ++ t) (append_assoc c d e)) in
    ft ∙ ap (λ (t : List X). t ++ f) five ∙ append_assoc a (b ++ (c ++ (d ++ e))) f
    ∙ ap (λ (t : List X). a ++ t)
    (append_assoc b (c ++ (d ++ e)) f ∙ ap (λ (t : List X). b ++ t) (append_assoc c (d ++ e) f ∙ ap (λ (t : List X). c ++ t) (append_assoc d e f)))
