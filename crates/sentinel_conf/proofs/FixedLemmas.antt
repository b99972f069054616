-- Lines that were spelled beforehand, as far as the room goes.
use Rattle.std.proofs.Common.{◌≡◌, ℕ, zero, suc, ◌-◌, ◌≤◌, List, [], ◌∷◌, ◌++◌, length, map, take, drop, get_or, refl, ap, sym, ◌∙◌, arith, append_assoc}
use Rattle.std.proofs.lemmas.List.{take_all}
use Rattle.std.specs.List.{flat_map, zip}
use Rattle.ballot_law.specs.declared.addresses.RunId.{RunId}
use Rattle.ballot_law.specs.declared.rosters.Member.{Member}
use Rattle.ballot_law.specs.declared.cards.KeptMaster.{KeptMaster}
use Rattle.ballot_law.specs.Rosters.{MasterPlan, Roster}
use Rattle.conf_lines.specs.declared.lines.StateLine.{StateLine}
use Rattle.conf_lines.specs.declared.lines.StateLine.TheVariants.{MyId, CurrentEpoch, Monitor, ConfigEpoch, LeaderEpoch}
use Rattle.conf_lines.specs.Lines.{spelled}
use Rattle.conf_lines.specs.Words.{ended}
use Rattle.sentinel_conf.specs.Fixed.{FixedTexts, IsFixedText, fixed_of, changing_lines, with_fixed, all_with_fixed}
use Rattle.sentinel_conf.specs.Rewritten.{text_of, candidate_states, replica_states, master_lines, sentinel_states}
use Rattle.bounded_list.specs.BoundedLists.{bounded as bounded_to}
use Rattle.sentinel_conf.specs.declared.conf_text.TheConstants.{ROOM}
use Rattle.sentinel_conf.specs.Room.{bounded}
use Rattle.sentinel_conf.proofs.RoomLemmas.{bounded-bounded, room_join, room_of, text_of-append}

-- what is added may be cut first
cut_first : (n m : ℕ) (xs ys : List ℕ) → n ≤ m → take n (xs ++ take m ys) ≡ take n (xs ++ ys)
cut_first zero m xs ys h = refl
cut_first (suc n) zero xs ys h = absurd (omega arith)
cut_first (suc n) (suc m) [] [] h = refl
cut_first (suc n) (suc m) [] (y ∷ ys) h = ap (λ t. y ∷ t) (cut_first n m [] ys (omega arith))
cut_first (suc n) (suc m) (x ∷ xs) ys h = ap (λ t. x ∷ t) (cut_first n (suc m) xs ys (omega arith))

added_cut : (xs ys : List ℕ) → bounded (xs ++ bounded ys) ≡ bounded (xs ++ ys)
unfolding bounded_to
added_cut xs ys = cut_first ROOM ROOM xs ys (omega arith)

-- texts of which the room holds as much may stand for each other
pub same_added : (out first second rest : List ℕ) → bounded first ≡ bounded second → bounded ((out ++ first) ++ rest) ≡ bounded ((out ++ second) ++ rest)
same_added out first second rest e =
    sym (bounded-bounded (out ++ first) rest)
    ∙ ap (λ t. bounded (t ++ rest)) (sym (added_cut out first) ∙ ap (λ t. bounded (out ++ t)) e ∙ added_cut out second)
    ∙ bounded-bounded (out ++ second) rest

-- three lines, two lists of lines, and what is spelled already
pub three_and_text : (a b c : StateLine) (ds es : List StateLine) (text : List ℕ) (out one two three four five six : List ℕ)
    → one ≡ bounded (out ++ ended (spelled a)) → two ≡ bounded (one ++ ended (spelled b)) → three ≡ bounded (two ++ ended (spelled c))
    → bounded four ≡ bounded (three ++ text_of ds) → bounded five ≡ bounded (four ++ text_of es) → bounded six ≡ bounded (five ++ text)
    → bounded six ≡ bounded (out ++ (text_of (a ∷ b ∷ c ∷ (ds ++ es)) ++ text))
three_and_text a b c ds es text out one two three four five six e f g h i j =
    let lists : bounded five ≡ bounded (three ++ text_of (ds ++ es)) =
    room_join three four five (text_of ds) (text_of es) h i ∙ ap (λ t. bounded (three ++ t)) (sym (text_of-append ds es)) in
    let third = room_join two three five (ended (spelled c)) (text_of (ds ++ es)) (room_of two three (ended (spelled c)) g) lists in
    let second = room_join one two five (ended (spelled b)) (text_of (c ∷ (ds ++ es))) (room_of one two (ended (spelled b)) f) third in
    let first = room_join out one five (ended (spelled a)) (text_of (b ∷ c ∷ (ds ++ es))) (room_of out one (ended (spelled a)) e) second in
    room_join out five six (text_of (a ∷ b ∷ c ∷ (ds ++ es))) text first j

-- the lines of one master more have been added
pub masters_with : (whole out new : List ℕ) (ms : List MasterPlan) (ks : List KeptMaster) (bs : List (List ℕ)) (m : MasterPlan) (d : KeptMaster) (b : List ℕ)
    → 1 ≤ length ms → m ≡ get_or ms 0 m → 1 ≤ length ks → 1 ≤ length bs → b ≡ get_or bs 0 b
    → bounded new ≡ bounded (out ++ with_fixed (m, (get_or ks 0 d, b)))
    → bounded whole ≡ bounded (out ++ all_with_fixed ms ks bs)
    → bounded whole ≡ bounded (new ++ all_with_fixed (take (length ms - 1) (drop 1 ms)) (take (length ks - 1) (drop 1 ks)) (take (length bs - 1) (drop 1 bs)))
masters_with whole out new [] ks bs m d b h e i j f n w = absurd (omega arith)
masters_with whole out new (x ∷ xs) [] bs m d b h e i j f n w = absurd (omega arith)
masters_with whole out new (x ∷ xs) (k ∷ ks) [] m d b h e i j f n w = absurd (omega arith)
masters_with whole out new (x ∷ xs) (k ∷ ks) (y ∷ ys) m d b h e i j f n w =
    let more = take (length (x ∷ xs) - 1) xs in
    let others = take (length (k ∷ ks) - 1) ks in
    let behind = take (length (y ∷ ys) - 1) ys in
    let first : more ≡ xs = take_all (length (x ∷ xs) - 1) xs (let l : length (x ∷ xs) ≡ suc (length xs) = refl in omega arith) in
    let second : others ≡ ks = take_all (length (k ∷ ks) - 1) ks (let l : length (k ∷ ks) ≡ suc (length ks) = refl in omega arith) in
    let third : behind ≡ ys = take_all (length (y ∷ ys) - 1) ys (let l : length (y ∷ ys) ≡ suc (length ys) = refl in omega arith) in
    let rest = all_with_fixed xs ks ys in
    w
    ∙ ap (λ t. bounded (out ++ (with_fixed (t, (k, y)) ++ rest))) (sym e)
    ∙ ap (λ t. bounded (out ++ (with_fixed (m, (k, t)) ++ rest))) (sym f)
    ∙ ap bounded (sym (append_assoc out (with_fixed (m, (k, b))) rest))
    ∙ sym (bounded-bounded (out ++ with_fixed (m, (k, b))) rest)
    ∙ ap (λ t. bounded (t ++ rest)) (sym n)
    ∙ bounded-bounded new rest
    ∙ ap (λ t. bounded (new ++ all_with_fixed t ks ys)) (sym first)
    ∙ ap (λ t. bounded (new ++ all_with_fixed more t ys)) (sym second)
    ∙ ap (λ t. bounded (new ++ all_with_fixed more others t)) (sym third)

-- the kept lines, two lines, and the rest
pub file_with : (out kept own line rest one two three four : List ℕ)
    → one ≡ bounded (out ++ kept) → two ≡ bounded (one ++ own) → three ≡ bounded (two ++ line) → bounded four ≡ bounded (three ++ rest)
    → bounded four ≡ bounded (out ++ (kept ++ (own ++ (line ++ rest))))
file_with out kept own line rest one two three four e f g h =
    let third = room_join two three four line rest (room_of two three line g) h in
    let second = room_join one two four own (line ++ rest) (room_of one two own f) third in
    room_join out one four kept (own ++ (line ++ rest)) (room_of out one kept e) second

-- the text of all masters, of which part is spelled already
masters_same : (id : RunId) (members : List Member) (ms : List MasterPlan) (ks : List KeptMaster) (bs : List (List ℕ)) (out : List ℕ) →
    map bounded bs ≡ map (fixed_of id members) ms
    → bounded (out ++ all_with_fixed ms ks bs) ≡ bounded (out ++ text_of (flat_map (master_lines id members) (zip ms ks)))
masters_same id members [] ks bs out h = refl
masters_same id members (m ∷ ms) [] bs out h = refl
masters_same id members (m ∷ ms) (k ∷ ks) [] out h = cc
masters_same id members (m ∷ ms) (k ∷ ks) (b ∷ bs) out h =
    let mine = text_of (changing_lines (m, k)) in
    let others = text_of (sentinel_states m.name id members) in
    let cand = candidate_states m.name k.candidate in
    let reps = replica_states m.name k.card.addr m.nodes in
    let sens = sentinel_states m.name id members in
    let same : bounded b ≡ bounded others = cc in
    let left : map bounded bs ≡ map (fixed_of id members) ms = cc in
    let rest = text_of (flat_map (master_lines id members) (zip ms ks)) in
    ap bounded (sym (append_assoc out (mine ++ b) (all_with_fixed ms ks bs)))
    ∙ masters_same id members ms ks bs (out ++ (mine ++ b)) left
    ∙ ap (λ t. bounded (t ++ rest)) (sym (append_assoc out mine b))
    ∙ same_added (out ++ mine) b others rest same
    ∙ ap (λ t. bounded (t ++ rest)) (append_assoc out mine others)
    ∙ ap (λ t. bounded ((out ++ t) ++ rest)) (sym (text_of-append (changing_lines (m, k)) (sentinel_states m.name id members)))
    ∙ ap (λ t. bounded ((out ++ text_of (Monitor m.name k.card.addr m.quorum ∷ ConfigEpoch m.name k.card.epoch ∷ LeaderEpoch m.name k.voted ∷ t)) ++ rest))
    (append_assoc cand reps sens)
    ∙ ap bounded (append_assoc out (text_of (master_lines id members (m, k))) rest)
    ∙ ap (λ t. bounded (out ++ t)) (sym (text_of-append (master_lines id members (m, k)) (flat_map (master_lines id members) (zip ms ks))))

-- a rewritten file, of which part is spelled already
pub fixed_file : (id : RunId) (roster : Roster) (fixed : FixedTexts) (out kept : List ℕ) (current : ℕ) (masters : List KeptMaster) → IsFixedText id roster fixed
    → bounded (out ++ (kept ++ (fixed.own ++ (ended (spelled (CurrentEpoch current)) ++ all_with_fixed roster.masters masters fixed.sentinels))))
    ≡ bounded (out ++ (kept ++ text_of (MyId id ∷ CurrentEpoch current ∷ flat_map (master_lines id roster.sentinels) (zip roster.masters masters))))
fixed_file id roster fixed out kept current masters is =
    let own = ended (spelled (MyId id)) in
    let line = ended (spelled (CurrentEpoch current)) in
    let spelled_now = all_with_fixed roster.masters masters fixed.sentinels in
    let rest = text_of (flat_map (master_lines id roster.sentinels) (zip roster.masters masters)) in
    ap bounded (sym (append_assoc out kept (fixed.own ++ (line ++ spelled_now))) ∙ sym (append_assoc (out ++ kept) fixed.own (line ++ spelled_now)))
    ∙ same_added (out ++ kept) fixed.own own (line ++ spelled_now) is.own
    ∙ ap bounded (sym (append_assoc ((out ++ kept) ++ own) line spelled_now))
    ∙ masters_same id roster.sentinels roster.masters masters fixed.sentinels (((out ++ kept) ++ own) ++ line) is.sentinels
    ∙ ap bounded (append_assoc ((out ++ kept) ++ own) line rest ∙ append_assoc (out ++ kept) own (line ++ rest) ∙ append_assoc out kept (own ++ (line ++ rest)))
