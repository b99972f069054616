-- The parts of an answer to ROLE, one behind the other, are its spelling.
use Rattle.std.proofs.Common.{◌≡◌, ℕ, ℤ, pos, List, [], ◌∷◌, ◌++◌, sym, refl, ap, ◌∙◌, append-nil, decimal, Result, Ok, Err}
use Rattle.std.specs.Prelude.{codes, OnOk}
use Rattle.ballot_law.specs.declared.addresses.Addr.{Addr}
use Rattle.ballot_law.specs.declared.replies.Role.TheVariants.{Master, Replica}
use Rattle.ballot_law.specs.Words.{ip_text}
use Rattle.resp2.specs.Framing.Frame.{bulk, int, spelling, line_end}
use Rattle.resp2.specs.Framing.Writing.{Adds}
use Rattle.resp2.proofs.FramingLemmas.Adding.{adds_both}
use Rattle.node_texts.specs.Roles.{role_frame}

added : {X E : Type 0} (answer : Result X E) (full : Type 0) (before after bytes : List ℕ) → Adds answer before after bytes full → OnOk answer (after ≡ before ++ bytes)
added (Ok x) full before after bytes h = h
added (Err x) full before after bytes h = tt

abbrev header : ℕ → List ℕ
header count = 42 ∷ (decimal count ++ line_end)

pub master_added : {X E : Type 0} (answer : Result X E) (full : Type 0) (old one two three new : List ℕ) (offset count : ℕ) (number : ℤ) → count ≡ 3 → number ≡ pos offset
    → one ≡ old ++ header count → two ≡ one ++ spelling (bulk (codes "master")) → three ≡ two ++ spelling (int number) → Adds answer three new (header 0) full
    → OnOk answer (new ≡ old ++ spelling (role_frame (Master offset)))
master_added answer full old one two three new offset count number c n e f g last =
    let kind : List ℕ = spelling (bulk (codes "master")) in
    let so_far : List ℕ = spelling (int (pos offset)) in
    let none : header 0 ≡ (header 0 ++ []) ++ [] = sym (append-nil (header 0 ++ []) ∙ append-nil (header 0)) in
    let e3 : one ≡ old ++ header 3 = e ∙ ap (λ k. old ++ header k) c in
    let g3 : three ≡ two ++ so_far = g ∙ ap (λ z. two ++ spelling (int z)) n in
    added answer full old new _
    (adds_both answer old one new (header 3) (kind ++ (so_far ++ header 0)) (spelling (role_frame (Master offset))) full e3
    (adds_both answer one two new kind (so_far ++ header 0) (kind ++ (so_far ++ header 0)) full f
    (adds_both answer two three new so_far (header 0) (so_far ++ header 0) full g3 last refl) refl)
    (ap (λ t. header 3 ++ (kind ++ (so_far ++ t))) none))

pub replica_added : {X E : Type 0} (answer : Result X E) (full : Type 0) (old one two three four five new host : List ℕ) (addr : Addr) (offset count : ℕ) (port number : ℤ)
    → count ≡ 5 → host ≡ ip_text addr.ip → port ≡ pos addr.port → number ≡ pos offset
    → one ≡ old ++ header count → two ≡ one ++ spelling (bulk (codes "slave")) → three ≡ two ++ spelling (bulk host) → four ≡ three ++ spelling (int port)
    → five ≡ four ++ spelling (bulk (codes "connected")) → Adds answer five new (spelling (int number)) full
    → OnOk answer (new ≡ old ++ spelling (role_frame (Replica addr offset)))
replica_added answer full old one two three four five new host addr offset count port number c h p n e f g i j last =
    let kind : List ℕ = spelling (bulk (codes "slave")) in
    let master : List ℕ = spelling (bulk (ip_text addr.ip)) in
    let place : List ℕ = spelling (int (pos addr.port)) in
    let state : List ℕ = spelling (bulk (codes "connected")) in
    let so_far : List ℕ = spelling (int (pos offset)) in
    let e5 : one ≡ old ++ header 5 = e ∙ ap (λ k. old ++ header k) c in
    let g5 : three ≡ two ++ master = g ∙ ap (λ t. two ++ spelling (bulk t)) h in
    let i5 : four ≡ three ++ place = i ∙ ap (λ z. three ++ spelling (int z)) p in
    let last5 : Adds answer five new so_far full = rw n at last in
    added answer full old new _
    (adds_both answer old one new (header 5) (kind ++ (master ++ (place ++ (state ++ so_far)))) (spelling (role_frame (Replica addr offset))) full e5
    (adds_both answer one two new kind (master ++ (place ++ (state ++ so_far))) (kind ++ (master ++ (place ++ (state ++ so_far)))) full f
    (adds_both answer two three new master (place ++ (state ++ so_far)) (master ++ (place ++ (state ++ so_far))) full g5
    (adds_both answer three four new place (state ++ so_far) (place ++ (state ++ so_far)) full i5
    (adds_both answer four five new state so_far (state ++ so_far) full j last5 refl) refl) refl) refl)
    (ap (λ t. header 5 ++ (kind ++ (master ++ (place ++ (state ++ t))))) (sym (append-nil so_far))))
