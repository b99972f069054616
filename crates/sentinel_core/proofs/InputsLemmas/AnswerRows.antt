-- The rows of an answer, written one behind the other.
use Rattle.std.proofs.Common.{◌≡◌, ◌≢◌, ℕ, zero, suc, ◌+◌, ◌-◌, ◌<◌, ◌≤◌, ◌^◌, Bool, true, false, ◌==◌, if◌then◌else◌, List, [], ◌∷◌, ◌++◌, length, map, refl, ap, sym, ◌∙◌, append-nil, append_assoc, add-one, add-zero, arith}
use Rattle.std.proofs.lemmas.Bool.Decides.{nat_tests}
use Rattle.std.specs.List.{flat_map, AllByRecursion}
use Rattle.ballot_law.specs.declared.rosters.TheConstants.{MASTERS_MAX, NODES_MAX, SENTINELS_MAX}
use Rattle.ballot_law.specs.declared.addresses.RunId.{RunId}
use Rattle.resp2.specs.Framing.Frame.{Frame, items, frames_of, spelling}
use Rattle.port_answers.specs.declared.rows.MasterRow.{MasterRow}
use Rattle.port_answers.specs.declared.rows.ReplicaRow.{ReplicaRow}
use Rattle.port_answers.specs.declared.rows.SentinelRow.{SentinelRow}
use Rattle.ballot_law.specs.declared.messages.TheConstants.{ANSWER_MAX}
use Rattle.port_answers.specs.Room.{bounded}
use Rattle.port_answers.specs.Answers.{header, no_such_master, ok_line, quorum_reached, no_quorum, id_frame, subscribed, in_progress, in_tilt, no_good_replica, command_fault}
use Rattle.port_answers.specs.Limits.{IsPlace, IsMasterRow, IsReplicaRow, Fits, IsSentinelRow}
use Rattle.port_answers.specs.RedisRows.{redis_quorum_reached, redis_no_quorum}
use Rattle.port_answers.proofs.Fitting.{master_fits, masters_fit, replicas_fit, sentinels_fit, lines_fit, redis_master_fits, redis_masters_fit, redis_replicas_fit, redis_sentinels_fit}
use Rattle.bounded_list.proofs.Bounded.{added_both}
use Rattle.port_answers.proofs.RowLemmas.{rows_text}
use Rattle.sentinel_rules.specs.Plans.{Plan, group_size, master_count, nodes_of}
use Rattle.sentinel_rules.specs.declared.profiles.Profile.{Profile}
use Rattle.sentinel_rules.specs.declared.profiles.Profile.TheVariants.{Strict, Redis}
use Rattle.sentinel_rules.specs.States.{Core}
use Rattle.sentinel_rules.specs.Rows.{is_left_out, places_told, master_frame_by, masters_frame_by, replica_frame_by, replicas_frame_by, sentinel_frame_by, sentinels_frame_by}
use Rattle.sentinel_rules.specs.Answers.{places_but, numbers_from, all_masters, master_row, replica_row, sentinel_row, replica_rows, sentinel_rows}
use Rattle.sentinel_rules.proofs.Choices.{length-numbers_from}
use Rattle.resp2.specs.declared.command.CommandFault.TheVariants.{UnknownCommand}

-- Texts of places

-- the texts of the places below a number, one behind the other
abbrev pub text_below : (text : ℕ → List ℕ) → (count : ℕ) → List ℕ
text_below text zero = []
text_below text (suc n) = text_below text n ++ text n

-- the text of each place but for those that are left out
abbrev pub text_told : (out : ℕ → Bool) → (text : ℕ → List ℕ) → (place : ℕ) → List ℕ
text_told out text place = if out place then [] else text place

-- the text of each place but for one
abbrev pub text_but : (one : ℕ) → (text : ℕ → List ℕ) → (place : ℕ) → List ℕ
text_but one text place = text_told (λ k. k == one) text place

next_text : (text : ℕ → List ℕ) (n : ℕ) → text_below text (n + 1) ≡ text_below text n ++ text n
next_text text n = ap (text_below text) (add-one n)

-- one text more
pub one_written : (start : List ℕ) (text : ℕ → List ℕ) (n : ℕ) (mid new : List ℕ) → mid ≡ bounded (start ++ text_below text n) → new ≡ bounded (mid ++ text n)
    → new ≡ bounded (start ++ text_below text (n + 1))
one_written start text n mid new e f =
    f ∙ ap (λ t. bounded (t ++ text n)) e ∙ added_both ANSWER_MAX start (text_below text n) (text n) ∙ ap (λ t. bounded (start ++ t)) (sym (next_text text n))

-- one row more
pub row_written : {X : Type 0} (frame_of : X → Frame) (row_of : ℕ → X) (start : List ℕ) (n : ℕ) (row : X) (mid new : List ℕ) → row ≡ row_of n
    → mid ≡ bounded (start ++ text_below (λ k. spelling (frame_of (row_of k))) n) → new ≡ bounded (mid ++ spelling (frame_of row))
    → new ≡ bounded (start ++ text_below (λ k. spelling (frame_of (row_of k))) (n + 1))
row_written frame_of row_of start n row mid new is e f =
    one_written start (λ k. spelling (frame_of (row_of k))) n mid new e (f ∙ ap (λ r. bounded (mid ++ spelling (frame_of r))) is)

-- Lists of places

-- one place more, which is left out or isn't
told_test : {X : Type 0} (g : X → List ℕ) (row_of : ℕ → X) (out : ℕ → Bool) (place count : ℕ) (b : Bool) → out place ≡ b
    → text_below (text_told out (λ k. g (row_of k))) (place + 1) ++
    flat_map g (map row_of (places_told out (place + 1) count)) ≡ text_below (text_told out (λ k. g (row_of k))) (place + suc count)
    → text_below (text_told out (λ k. g (row_of k))) place ++
    flat_map g (map row_of (if b then places_told out (place + 1) count else place ∷ places_told out (place + 1) count))
    ≡ text_below (text_told out (λ k. g (row_of k))) (place + suc count)
told_test g row_of out place count true e later =
    let text = text_told out (λ k. g (row_of k)) in
    let rest = flat_map g (map row_of (places_told out (place + 1) count)) in
    let same : text_below text (place + 1) ≡ text_below text place =
    next_text text place ∙ ap (λ b. text_below text place ++ (if b then [] else g (row_of place))) e ∙ append-nil (text_below text place) in
    ap (λ t. t ++ rest) (sym same) ∙ later
told_test g row_of out place count false e later =
    let text = text_told out (λ k. g (row_of k)) in
    let rest = flat_map g (map row_of (places_told out (place + 1) count)) in
    let more : text_below text (place + 1) ≡ text_below text place ++ g (row_of place) =
    next_text text place ∙ ap (λ b. text_below text place ++ (if b then [] else g (row_of place))) e in
    sym (append_assoc (text_below text place) (g (row_of place)) rest) ∙ ap (λ t. t ++ rest) (sym more) ∙ later

told_text : {X : Type 0} (g : X → List ℕ) (row_of : ℕ → X) (out : ℕ → Bool) (place count : ℕ)
    → text_below (text_told out (λ k. g (row_of k))) place ++ flat_map g (map row_of (places_told out place count))
    ≡ text_below (text_told out (λ k. g (row_of k))) (place + count)
told_text g row_of out place zero =
    append-nil (text_below (text_told out (λ k. g (row_of k))) place) ∙ ap (text_below (text_told out (λ k. g (row_of k)))) (sym (add-zero place))
told_text g row_of out place (suc count) =
    told_test g row_of out place count (out place) refl
    (told_text g row_of out (place + 1) count ∙ ap (text_below (text_told out (λ k. g (row_of k)))) (let e : place + 1 + count ≡ place + suc count = omega arith in e))

from_text : {X : Type 0} (g : X → List ℕ) (row_of : ℕ → X) (place count : ℕ)
    → text_below (λ k. g (row_of k)) place ++ flat_map g (map row_of (numbers_from place count)) ≡ text_below (λ k. g (row_of k)) (place + count)
from_text g row_of place zero = append-nil (text_below (λ k. g (row_of k)) place) ∙ ap (text_below (λ k. g (row_of k))) (sym (add-zero place))
from_text {X} g row_of place (suc count) =
    let text : ℕ → List ℕ = λ k. g (row_of k) in
    let rest = flat_map g (map row_of (numbers_from (place + 1) count)) in
    sym (append_assoc (text_below text place) (g (row_of place)) rest)
    ∙ ap (λ t. t ++ rest) (sym (next_text text place))
    ∙ from_text g row_of (place + 1) count
    ∙ ap (text_below text) (let e : place + 1 + count ≡ place + suc count = omega arith in e)

mapped : {X : Type 0} (row_of : ℕ → X) (places : List ℕ) → length (map row_of places) ≡ length places
mapped row_of [] = refl
mapped row_of (place ∷ places) = ap suc (mapped row_of places)

-- How many places

-- the places behind one, of which the next isn't the one
other_place : (one place count : ℕ) (b : Bool) → (place == one) ≡ b → place ≢ one → length (places_but one (place + 1) count) ≡ count
    → length (if b then places_but one (place + 1) count else place ∷ places_but one (place + 1) count) ≡ suc count
other_place one place count true e h l = absurd (h (grind (arith, nat_tests, e)))
other_place one place count false e h l = ap suc l

behind_one : (one place count : ℕ) → one < place → length (places_but one place count) ≡ count
behind_one one place zero h = refl
behind_one one place (suc count) h = other_place one place count (place == one) refl (omega arith) (behind_one one (place + 1) count (omega arith))

before_one : (one place count : ℕ) → place + count ≤ one → length (places_but one place count) ≡ count
before_one one place zero h = refl
before_one one place (suc count) h = other_place one place count (place == one) refl (omega arith) (before_one one (place + 1) count (omega arith))

around_test : (one place count : ℕ) (b : Bool) → (place == one) ≡ b → place ≤ one → (place < one → length (places_but one (place + 1) count) + 1 ≡ count)
    → length (if b then places_but one (place + 1) count else place ∷ places_but one (place + 1) count) + 1 ≡ suc count
around_test one place count true e h more =
    let same : place ≡ one = grind (arith, nat_tests, e) in
    let rest : length (places_but one (place + 1) count) ≡ count = behind_one one (place + 1) count (omega (arith, same)) in
    omega arith
around_test one place count false e h more =
    let less : place < one = grind (arith, nat_tests, e, h) in
    let rest : length (places_but one (place + 1) count) + 1 ≡ count = more less in
    omega arith

around_one : (one place count : ℕ) → place ≤ one → one < place + count → length (places_but one place count) + 1 ≡ count
around_one one place zero h l = absurd (omega arith)
around_one one place (suc count) h l = around_test one place count (place == one) refl h (λ less. around_one one (place + 1) count (omega arith) (omega arith))

-- one of the places is left out
pub but_within : (one count : ℕ) → one < count → length (places_but one 0 count) ≡ count - 1
but_within one count h =
    let e : length (places_but one 0 count) + 1 ≡ count = around_one one 0 count (omega arith) (omega arith) in
    omega arith

-- none of the places is left out
pub but_without : (one count : ℕ) → count ≤ one → length (places_but one 0 count) ≡ count
but_without one count h = before_one one 0 count (omega arith)

most_test : (out : ℕ → Bool) (place count : ℕ) (b : Bool) → length (places_told out (place + 1) count) ≤ count
    → length (if b then places_told out (place + 1) count else place ∷ places_told out (place + 1) count) ≤ suc count
most_test out place count true h = omega arith
most_test out place count false h = omega arith

most_told : (out : ℕ → Bool) (place count : ℕ) → length (places_told out place count) ≤ count
most_told out place zero = omega arith
most_told out place (suc count) = most_test out place count (out place) (most_told out (place + 1) count)

-- how many are told below the next place, which is or isn't
told_last_test : (out : ℕ → Bool) (place count : ℕ) (b : Bool) → length (places_told out (place + 1) (suc count)) ≡
    length (places_told out (place + 1) count) + (if out (place + 1 + count) then 0 else 1)
    → length (if b then places_told out (place + 1) (suc count) else place ∷ places_told out (place + 1) (suc count))
    ≡ length (if b then places_told out (place + 1) count else place ∷ places_told out (place + 1) count) + (if out (place + 1 + count) then 0 else 1)
told_last_test out place count true h = h
told_last_test out place count false h = omega (arith, h)

told_end : (out : ℕ → Bool) (place : ℕ) (b : Bool) → length (if b then [] else place ∷ []) ≡ 0 + (if b then 0 else 1)
told_end out place true = refl
told_end out place false = refl

told_last : (out : ℕ → Bool) (place count : ℕ)
    → length (places_told out place (suc count)) ≡ length (places_told out place count) + (if out (place + count) then 0 else 1)
told_last out place zero = told_end out place (out place) ∙ ap (λ k. 0 + (if out k then 0 else 1)) (sym (add-zero place))
told_last out place (suc count) =
    told_last_test out place count (out place) (told_last out (place + 1) count)
    ∙ ap (λ k. length (places_told out place (suc count)) + (if out k then 0 else 1)) (let e : place + 1 + count ≡ place + suc count = omega arith in e)

told_next : (out : ℕ → Bool) (k : ℕ) → length (places_told out 0 (k + 1)) ≡ length (places_told out 0 k) + (if out k then 0 else 1)
told_next out k =
    ap (λ n. length (places_told out 0 n)) (add-one k)
    ∙ told_last out 0 k
    ∙ ap (λ j. length (places_told out 0 k) + (if out j then 0 else 1)) (let e : 0 + k ≡ k = omega arith in e)

pub told_one : (out : ℕ → Bool) (k : ℕ) → out k ≡ false → length (places_told out 0 (k + 1)) ≡ length (places_told out 0 k) + 1
told_one out k h = told_next out k ∙ ap (λ b. length (places_told out 0 k) + (if b then 0 else 1)) h

pub told_none : (out : ℕ → Bool) (k : ℕ) → out k ≡ true → length (places_told out 0 (k + 1)) ≡ length (places_told out 0 k)
told_none out k h =
    told_next out k ∙ ap (λ b. length (places_told out 0 k) + (if b then 0 else 1)) h ∙ add-zero (length (places_told out 0 k))

-- What holds of each row

each_test : {X : Type 0} (P : X → Type 0) (row_of : ℕ → X) (out : ℕ → Bool) (place count : ℕ) (b : Bool) → out place ≡ b → (out place ≡ false → P (row_of place))
    → AllByRecursion P (map row_of (places_told out (place + 1) count))
    → AllByRecursion P (map row_of (if b then places_told out (place + 1) count else place ∷ places_told out (place + 1) count))
each_test P row_of out place count true e here rest = rest
each_test P row_of out place count false e here rest = (here e, rest)

each_told : {X : Type 0} (P : X → Type 0) (row_of : ℕ → X) (out : ℕ → Bool) (place count : ℕ) → ((k : ℕ) → k < place + count → out k ≡ false → P (row_of k)) →
    AllByRecursion P (map row_of (places_told out place count))
each_told P row_of out place zero h = tt
each_told P row_of out place (suc count) h =
    each_test P row_of out place count (out place) refl (h place (omega arith)) (each_told P row_of out (place + 1) count (λ k l. h k (omega arith)))

pub each_from : {X : Type 0} (P : X → Type 0) (row_of : ℕ → X) (place count : ℕ) → ((k : ℕ) → k < place + count → P (row_of k)) →
    AllByRecursion P (map row_of (numbers_from place count))
each_from P row_of place zero h = tt
each_from P row_of place (suc count) h = (h place (omega arith), each_from P row_of (place + 1) count (λ k l. h k (omega arith)))

-- Whole answers

array_whole : {X : Type 0} (frame_of : X → Frame) (rows : List X) (text below : List ℕ) (n : ℕ) → Fits (items (frames_of (map frame_of rows)))
    → flat_map (λ row. spelling (frame_of row)) rows ≡ below → length rows ≡ n → text ≡ bounded (header n ++ below) → text ≡ spelling (items (frames_of (map frame_of rows)))
array_whole frame_of rows text below n fit each count e =
    e
    ∙ ap (λ t. bounded (header n ++ t)) (sym each)
    ∙ ap (λ k. bounded (header k ++ flat_map (λ row. spelling (frame_of row)) rows)) (sym count)
    ∙ ap bounded (sym (rows_text frame_of rows))
    ∙ fit.whole

-- rows have room in the words of each profile
master_fits_by : (profile : Profile) (row : MasterRow) → IsMasterRow row → Fits (master_frame_by profile row)
master_fits_by Strict row h = master_fits row h
master_fits_by Redis row h = redis_master_fits row h

masters_fit_by : (profile : Profile) (rows : List MasterRow) → length rows ≤ MASTERS_MAX → AllByRecursion IsMasterRow rows → Fits (masters_frame_by profile rows)
masters_fit_by Strict rows few all = masters_fit rows few all
masters_fit_by Redis rows few all = redis_masters_fit rows few all

replicas_fit_by : (profile : Profile) (rows : List ReplicaRow) → length rows ≤ NODES_MAX → AllByRecursion IsReplicaRow rows → Fits (replicas_frame_by profile rows)
replicas_fit_by Strict rows few all = replicas_fit rows few all
replicas_fit_by Redis rows few all = redis_replicas_fit rows few all

places_of : (rows : List SentinelRow) → AllByRecursion IsSentinelRow rows → AllByRecursion (λ (row : SentinelRow). IsPlace row.addr) rows
places_of [] all = tt
places_of (row ∷ rows) all = (all.0.addr, places_of rows all.1)

sentinels_fit_by : (profile : Profile) (rows : List SentinelRow) → length rows ≤ SENTINELS_MAX → AllByRecursion IsSentinelRow rows → Fits (sentinels_frame_by profile rows)
sentinels_fit_by Strict rows few all = sentinels_fit rows few (places_of rows all)
sentinels_fit_by Redis rows few all = redis_sentinels_fit rows few all

pub masters_whole : (plan : Plan) (core : Core) (now n : ℕ) (text : List ℕ) → n ≡ master_count plan → n ≤ MASTERS_MAX → ((m : ℕ) → m < n → IsMasterRow (master_row plan core now m))
    → text ≡ bounded (header n ++ text_below (λ m. spelling (master_frame_by plan.profile (master_row plan core now m))) n)
    → text ≡ spelling (masters_frame_by plan.profile (map (master_row plan core now) (all_masters plan)))
masters_whole plan core now n text is few each e =
    let row_of = master_row plan core now in
    let frame_of = master_frame_by plan.profile in
    let count : length (map row_of (numbers_from 0 n)) ≡ n = mapped row_of (numbers_from 0 n) ∙ length-numbers_from 0 n in
    array_whole frame_of (map row_of (numbers_from 0 n)) text (text_below (λ m. spelling (frame_of (row_of m))) n) n
    (masters_fit_by plan.profile (map row_of (numbers_from 0 n)) (omega (arith, count)) (each_from IsMasterRow row_of 0 n (λ k l. each k (omega arith))))
    (from_text (λ row. spelling (frame_of row)) row_of 0 n ∙ ap (text_below (λ m. spelling (frame_of (row_of m)))) (let s : 0 + n ≡ n = omega arith in s))
    count e
    ∙ ap (λ k. spelling (masters_frame_by plan.profile (map row_of (numbers_from 0 k)))) is

rows_whole : {X : Type 0} (frame_of : X → Frame) (row_of : ℕ → X) (P : X → Type 0) (most : ℕ) (out : ℕ → Bool) (n : ℕ) (text : List ℕ)
    → ((rows : List X) → length rows ≤ most → AllByRecursion P rows → Fits (items (frames_of (map frame_of rows))))
    → n ≤ most → ((k : ℕ) → k < n → out k ≡ false → P (row_of k))
    → text ≡ bounded (header (length (places_told out 0 n)) ++ text_below (text_told out (λ k. spelling (frame_of (row_of k)))) n)
    → text ≡ spelling (items (frames_of (map frame_of (map row_of (places_told out 0 n)))))
rows_whole frame_of row_of P most out n text fit few each e =
    let count : length (map row_of (places_told out 0 n)) ≡ length (places_told out 0 n) = mapped row_of (places_told out 0 n) in
    let less : length (places_told out 0 n) ≤ n = most_told out 0 n in
    array_whole frame_of (map row_of (places_told out 0 n)) text (text_below (text_told out (λ k. spelling (frame_of (row_of k)))) n) (length (places_told out 0 n))
    (fit (map row_of (places_told out 0 n)) (omega arith) (each_told P row_of out 0 n (λ k l. each k (omega arith))))
    (told_text (λ row. spelling (frame_of row)) row_of out 0 n ∙ ap (text_below (text_told out (λ k. spelling (frame_of (row_of k))))) (let s : 0 + n ≡ n = omega arith in s))
    count e

pub replicas_whole : (plan : Plan) (core : Core) (now m n : ℕ) (text : List ℕ) → n ≡ length (nodes_of plan m) → n ≤ NODES_MAX
    → ((k : ℕ) → k < n → is_left_out plan core m k ≡ false → IsReplicaRow (replica_row plan core now m k))
    → text ≡ bounded (header (length (places_told (is_left_out plan core m) 0 n)) ++
    text_below (text_told (is_left_out plan core m) (λ k. spelling (replica_frame_by plan.profile (replica_row plan core now m k)))) n)
    → text ≡ spelling (replicas_frame_by plan.profile (replica_rows plan core now m))
replicas_whole plan core now m n text is few each e =
    let row_of = replica_row plan core now m in
    rows_whole (replica_frame_by plan.profile) row_of IsReplicaRow NODES_MAX (is_left_out plan core m) n text (replicas_fit_by plan.profile) few each e
    ∙ ap (λ k. spelling (replicas_frame_by plan.profile (map row_of (places_told (is_left_out plan core m) 0 k)))) is

pub sentinels_whole : (plan : Plan) (core : Core) (now m one n : ℕ) (text : List ℕ) → one ≡ plan.place → n ≡ group_size plan → n ≤ SENTINELS_MAX
    → ((k : ℕ) → k < n → (k == one) ≡ false → IsSentinelRow (sentinel_row plan core now m k))
    → text ≡ bounded (header (length (places_but one 0 n)) ++
    text_below (text_but one (λ k. spelling (sentinel_frame_by plan.profile (sentinel_row plan core now m k)))) n)
    → text ≡ spelling (sentinels_frame_by plan.profile (sentinel_rows plan core now m))
sentinels_whole plan core now m one n text own is few each e =
    let row_of = sentinel_row plan core now m in
    rows_whole (sentinel_frame_by plan.profile) row_of IsSentinelRow SENTINELS_MAX (λ k. k == one) n text (sentinels_fit_by plan.profile) few each e
    ∙ ap (λ k. spelling (sentinels_frame_by plan.profile (map row_of (places_but k 0 n)))) own
    ∙ ap (λ k. spelling (sentinels_frame_by plan.profile (map row_of (places_but plan.place 0 k)))) is

pub master_whole : (profile : Profile) (row : MasterRow) → IsMasterRow row → bounded (spelling (master_frame_by profile row)) ≡ spelling (master_frame_by profile row)
master_whole profile row h = (master_fits_by profile row h).whole

pub unknown_whole : bounded (spelling no_such_master) ≡ spelling no_such_master
unknown_whole = lines_fit.no_such_master.whole

pub unknown_command_whole : bounded (spelling (command_fault UnknownCommand)) ≡ spelling (command_fault UnknownCommand)
unknown_command_whole = (lines_fit.command_fault UnknownCommand).whole

pub in_progress_whole : bounded (spelling in_progress) ≡ spelling in_progress
in_progress_whole = lines_fit.in_progress.whole

pub in_tilt_whole : bounded (spelling in_tilt) ≡ spelling in_tilt
in_tilt_whole = lines_fit.in_tilt.whole

pub no_good_replica_whole : bounded (spelling no_good_replica) ≡ spelling no_good_replica
no_good_replica_whole = lines_fit.no_good_replica.whole

pub ok_whole : bounded (spelling ok_line) ≡ spelling ok_line
ok_whole = lines_fit.ok_line.whole

pub subscribed_whole : bounded (spelling subscribed) ≡ spelling subscribed
subscribed_whole = lines_fit.subscribed.whole

pub id_whole : (id : RunId) → bounded (spelling (id_frame id)) ≡ spelling (id_frame id)
id_whole id = (lines_fit.id_frame id).whole

pub redis_reached_whole : (usable : ℕ) → usable < 2 ^ 64 → bounded (spelling (redis_quorum_reached usable)) ≡ spelling (redis_quorum_reached usable)
redis_reached_whole usable h = (lines_fit.redis_quorum_reached usable h).whole

pub redis_lost_whole : (usable quorum sentinels : ℕ) → usable < 2 ^ 64 →
    bounded (spelling (redis_no_quorum usable quorum sentinels)) ≡ spelling (redis_no_quorum usable quorum sentinels)
redis_lost_whole usable quorum sentinels h = (lines_fit.redis_no_quorum usable quorum sentinels h).whole

pub reached_whole : (usable : ℕ) → usable < 2 ^ 64 → bounded (spelling (quorum_reached usable)) ≡ spelling (quorum_reached usable)
reached_whole usable h = (lines_fit.quorum_reached usable h).whole

pub lost_whole : (usable : ℕ) → usable < 2 ^ 64 → bounded (spelling (no_quorum usable)) ≡ spelling (no_quorum usable)
lost_whole usable h = (lines_fit.no_quorum usable h).whole

-- The configurations that an answer shows

-- one number more
pub numbers_more : {X : Type 0} (f : ℕ → X) (first count : ℕ) → map f (numbers_from first (suc count)) ≡ map f (numbers_from first count) ++ f (first + count) ∷ []
numbers_more f first zero = ap (λ n. f n ∷ []) (sym (add-zero first))
numbers_more f first (suc count) =
    ap (λ t. f first ∷ t) (numbers_more f (first + 1) count)
    ∙ ap (λ n. f first ∷ (map f (numbers_from (first + 1) count) ++ f n ∷ [])) (let e : first + 1 + count ≡ first + suc count = omega arith in e)

pub shown_more : {X : Type 0} (f : ℕ → X) (n : ℕ) → map f (numbers_from 0 (n + 1)) ≡ map f (numbers_from 0 n) ++ f n ∷ []
shown_more f n = ap (λ k. map f (numbers_from 0 k)) (add-one n) ∙ numbers_more f 0 n ∙ ap (λ k. map f (numbers_from 0 n) ++ f k ∷ []) (let e : 0 + n ≡ n = omega arith in e)

-- nothing is added to a text that has room
pub same_text : (text : List ℕ) → bounded text ≡ text → bounded (text ++ []) ≡ text
same_text text e = ap bounded (append-nil text) ∙ e
