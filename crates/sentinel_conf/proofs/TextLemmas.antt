-- Spelled state lines are text, and the lines of a text are texts.
use Rattle.std.proofs.Common.{◌≡◌, ℕ, zero, suc, ◌+◌, ◌/◌, ◌%◌, ◌≤◌, ◌<◌, ◌≢◌, Bool, true, false, eqb, ltb, leb, ◌&&◌, List, [], ◌∷◌, ◌++◌, length, get_or, refl, ap, sym, subst, arith, Some, append_assoc, length-append}
use Rattle.std.specs.Prelude.{decimal, codes}
use Rattle.std.specs.List.{list_all, flat_map, AllByRecursion}
use Rattle.std.specs.Str.{IsUtf8}
use Rattle.std.proofs.lemmas.Bool.{and_parts}
use Rattle.std.proofs.lemmas.Bool.Decides.{nat_tests}
use Rattle.std.proofs.lemmas.Str.{IsUtf8-append, IsUtf8-nil, IsUtf8-from_ascii, IsUtf8-take, IsUtf8-drop, IsCharBoundary-before_ascii, IsCharBoundary-after_ascii}
use Rattle.std.proofs.Math.Seq.{take-append_seam, drop-append-add}
use Rattle.ballot_law.specs.declared.names.TheConstants.{NAME_MAX}
use Rattle.ballot_law.specs.declared.addresses.Addr.{Addr}
use Rattle.ballot_law.specs.declared.addresses.RunId.{RunId}
use Rattle.conf_lines.specs.declared.lines.StateLine.{StateLine}
use Rattle.conf_lines.specs.declared.lines.StateLine.TheVariants.{MyId, CurrentEpoch, Monitor, ConfigEpoch, LeaderEpoch, LeaderId, KnownReplica, KnownSentinel}
use Rattle.ballot_law.specs.Cuts.{lines, with_first}
use Rattle.conf_lines.specs.Words.{spaced}
use Rattle.ballot_law.specs.Words.{is_digit, is_hex, is_name_byte, name, ip_text, id_text, hex}
use Rattle.conf_lines.specs.Lines.{spelled, state_words}
use Rattle.ballot_law.specs.declared.cards.TheConstants.{MAX_EPOCH}
use Rattle.conf_lines.specs.Words.{ended}
use Rattle.conf_lines.proofs.SpacedWords.{HasNoLf}
use Rattle.ballot_law.proofs.WordLemmas.{spells_decimal, spells_hex, some_if-some}
use Rattle.ballot_law.proofs.CutLemmas.{line_ends, line_goes_on}
use Rattle.conf_lines.proofs.StateLemmas.{IsState, IsAddr, IsId}

abbrev AreLow : List ℕ → Type 0
AreLow = AllByRecursion (λ b. b < 128)

low_by : (p : ℕ → Bool) → ((b : ℕ) → p b ≡ true → b < 128) → (bs : List ℕ) → list_all p bs ≡ true → AreLow bs
low_by p f [] h = tt
low_by p f (b ∷ bs) h = let both = and_parts (p b) (list_all p bs) h in (f b both.0, low_by p f bs both.1)

low_append : (xs ys : List ℕ) → AreLow xs → AreLow ys → AreLow (xs ++ ys)
low_append [] ys h g = g
low_append (x ∷ xs) ys h g = (h.0, low_append xs ys h.1 g)

low_spaced : (ws : List (List ℕ)) → AllByRecursion AreLow ws → AreLow (spaced ws)
low_spaced [] h = tt
low_spaced (w ∷ []) h = h.0
low_spaced (w ∷ next ∷ more) h = low_append w (32 ∷ spaced (next ∷ more)) h.0 (omega arith, low_spaced (next ∷ more) h.1)

low_at : (bs : List ℕ) → AreLow bs → (i : ℕ) → get_or bs i 0 < 128
low_at [] h i = omega arith
low_at (b ∷ bs) h zero = h.0
low_at (b ∷ bs) h (suc i) = low_at bs h.1 i

low_text : (w : List ℕ) → list_all (λ b. ltb b 128) w ≡ true → AreLow w
low_text w h = low_by (λ b. ltb b 128) (λ b e. let l : b < 128 = grind (arith, nat_tests) in l) w h

low_decimal : (n : ℕ) → n < 18446744073709551616 → AreLow (decimal n)
low_decimal n h = low_by is_digit (λ b e. let l : b < 128 = grind (arith, nat_tests) in l) (decimal n) (spells_decimal n h).digits

low_name : (n : List ℕ) → name n ≡ Some n → AreLow n
low_name n h =
    let all = some_if-some (ltb 0 (length n) && (leb (length n) NAME_MAX && list_all is_name_byte n)) n n h in
    let first = and_parts (ltb 0 (length n)) (leb (length n) NAME_MAX && list_all is_name_byte n) all in
    low_by is_name_byte (λ b e. let l : b < 128 = grind (arith, nat_tests) in l) n (and_parts (leb (length n) NAME_MAX) (list_all is_name_byte n) first.1).1

low_ip : (n : ℕ) → n < 4294967296 → AreLow (ip_text n)
low_ip n h =
    low_append (decimal (n / 256 / 256 / 256)) (46 ∷ (decimal (n / 256 / 256 % 256) ++ 46 ∷ (decimal (n / 256 % 256) ++ 46 ∷ decimal (n % 256))))
    (low_decimal (n / 256 / 256 / 256) (omega arith)) (
      omega arith,
      low_append (decimal (n / 256 / 256 % 256)) (46 ∷ (decimal (n / 256 % 256) ++ 46 ∷ decimal (n % 256))) (low_decimal (n / 256 / 256 % 256) (omega arith)) (
        omega arith,
        low_append (decimal (n / 256 % 256)) (46 ∷ decimal (n % 256)) (low_decimal (n / 256 % 256) (omega arith))
            (omega arith, low_decimal (n % 256) (omega arith)),
      ),
    )

low_id : (id : RunId) → IsId id → AreLow (id_text id)
low_id id h =
    low_append (hex 32 id.hi) (hex 8 id.lo)
    (low_by is_hex (λ b e. let l : b < 128 = grind (arith, nat_tests) in l) (hex 32 id.hi) (spells_hex 32 id.hi h.hi).digits)
    (low_by is_hex (λ b e. let l : b < 128 = grind (arith, nat_tests) in l) (hex 8 id.lo) (spells_hex 8 id.lo h.lo).digits)

low_epoch : (e : ℕ) → e ≤ MAX_EPOCH → AreLow (decimal e)
low_epoch e h = low_decimal e (omega arith)

low_port : (a : Addr) → IsAddr a → AreLow (decimal a.port)
low_port a h = low_decimal a.port (let l = h.high in omega arith)

low_words : (s : StateLine) → IsState s → AllByRecursion AreLow (codes "sentinel" ∷ state_words s)
low_words (MyId i) v = (low_text (codes "sentinel") refl, (low_text (codes "myid") refl, (low_id i v, tt)))
low_words (CurrentEpoch e) v = (low_text (codes "sentinel") refl, (low_text (codes "current-epoch") refl, (low_epoch e v, tt)))
low_words (Monitor n a q) v = (
  low_text (codes "sentinel") refl,
  (
    low_text (codes "monitor") refl,
    (low_name n v.0, (low_ip a.ip v.1.ip, (low_port a v.1, (low_decimal q (let l : q ≤ 4294967295 = v.2 in omega arith), tt)))),
  ),
)
low_words (ConfigEpoch n e) v = (low_text (codes "sentinel") refl, (low_text (codes "config-epoch") refl, (low_name n v.0, (low_epoch e v.1, tt))))
low_words (LeaderEpoch n e) v = (low_text (codes "sentinel") refl, (low_text (codes "leader-epoch") refl, (low_name n v.0, (low_epoch e v.1, tt))))
low_words (LeaderId n i) v = (low_text (codes "sentinel") refl, (low_text (codes "leader-id") refl, (low_name n v.0, (low_id i v.1, tt))))
low_words (KnownReplica n a) v =
    (low_text (codes "sentinel") refl, (low_text (codes "known-replica") refl, (low_name n v.0, (low_ip a.ip v.1.ip, (low_port a v.1, tt)))))
low_words (KnownSentinel n a i) v =
    (low_text (codes "sentinel") refl, (low_text (codes "known-sentinel") refl, (low_name n v.0, (low_ip a.ip v.1.ip, (low_port a v.1, (low_id i v.2, tt))))))

pub utf8_spelled : (s : StateLine) → IsState s → IsUtf8 (spelled s)
utf8_spelled s v = IsUtf8-from_ascii (spelled s) (low_at (spelled s) (low_spaced (codes "sentinel" ∷ state_words s) (low_words s v)))

pub utf8_ended : (texts : List (List ℕ)) → AllByRecursion IsUtf8 texts → IsUtf8 (flat_map ended texts)
utf8_ended [] h = IsUtf8-nil
utf8_ended (t ∷ ts) h =
    IsUtf8-append (t ++ 10 ∷ []) (flat_map ended ts) (IsUtf8-append t (10 ∷ []) h.0 (IsUtf8-from_ascii (10 ∷ []) (low_at (10 ∷ []) (omega arith, tt)))) (utf8_ended ts h.1)

-- the lines of a text, where these bytes of the first line were read before
abbrev attached : List ℕ → List (List ℕ) → List (List ℕ)
attached pre [] = pre ∷ []
attached pre (t ∷ ts) = (pre ++ t) ∷ ts

abbrev IsTextLine : List ℕ → Type 0
IsTextLine t = HasNoLf t × IsUtf8 t

no_lf_push : (pre : List ℕ) (b : ℕ) → HasNoLf pre → b ≢ 10 → HasNoLf (pre ++ b ∷ [])
no_lf_push [] b h n = (n, tt)
no_lf_push (x ∷ pre) b h n = (h.0, no_lf_push pre b h.1 n)

attached_front : (pre : List ℕ) (b : ℕ) (ts : List (List ℕ)) → attached (pre ++ b ∷ []) ts ≡ attached pre (with_first b ts)
attached_front pre b [] = refl
attached_front pre b (t ∷ ts) = ap (λ x. x ∷ ts) (append_assoc pre (b ∷ []) t)

get_or-seam : (pre : List ℕ) (b : ℕ) (bs : List ℕ) → get_or (pre ++ b ∷ bs) (length pre) 0 ≡ b
get_or-seam [] b bs = refl
get_or-seam (x ∷ pre) b bs = get_or-seam pre b bs

front_text : (pre bs : List ℕ) → IsUtf8 (pre ++ 10 ∷ bs) → IsUtf8 pre
front_text pre bs u =
    let at : get_or (pre ++ 10 ∷ bs) (length pre) 0 ≡ 10 = get_or-seam pre 10 bs in
    let t = IsUtf8-take (pre ++ 10 ∷ bs) (length pre) u (IsCharBoundary-before_ascii (pre ++ 10 ∷ bs) (length pre) (omega (arith, length-append pre (10 ∷ bs))) (omega arith)) in
    subst IsUtf8 (take-append_seam pre (10 ∷ bs)) t

back_text : (pre bs : List ℕ) → IsUtf8 (pre ++ 10 ∷ bs) → IsUtf8 bs
back_text pre bs u =
    let at : get_or (pre ++ 10 ∷ bs) (length pre) 0 ≡ 10 = get_or-seam pre 10 bs in
    let t = IsUtf8-drop (pre ++ 10 ∷ bs) (length pre + 1) u (IsCharBoundary-after_ascii (pre ++ 10 ∷ bs) (length pre) u (omega (arith, length-append pre (10 ∷ bs)))
    (omega arith)) in
    subst IsUtf8 (drop-append-add pre (10 ∷ bs) 1) t

nil_front : (ts : List (List ℕ)) → AllByRecursion IsTextLine (attached [] ts) → AllByRecursion IsTextLine ts
nil_front [] h = tt
nil_front (t ∷ ts) h = h

append_nil : (pre : List ℕ) → pre ++ [] ≡ pre
append_nil [] = refl
append_nil (x ∷ pre) = ap (λ t. x ∷ t) (append_nil pre)

text_lines_by : (t : Bool) (pre : List ℕ) (b : ℕ) (bs : List ℕ) → eqb b 10 ≡ t → HasNoLf pre → IsUtf8 (pre ++ b ∷ bs) →
    ((pre : List ℕ) → HasNoLf pre → IsUtf8 (pre ++ bs) → AllByRecursion IsTextLine (attached pre (lines bs)))
    → AllByRecursion IsTextLine (attached pre (lines (b ∷ bs)))
text_lines_by true pre b bs e h u rest =
    let f : b ≡ 10 = grind (arith, nat_tests, e) in
    let v : IsUtf8 (pre ++ 10 ∷ bs) = subst (λ c. IsUtf8 (pre ++ c ∷ bs)) f u in
    subst (λ ts. AllByRecursion IsTextLine (attached pre ts)) (sym (line_ends b bs e))
    ((subst IsTextLine (sym (append_nil pre)) (h, front_text pre bs v)), nil_front (lines bs) (rest [] tt (back_text pre bs v)))
text_lines_by false pre b bs e h u rest =
    let n : b ≢ 10 = λ f. grind (arith, nat_tests, e) in
    subst (λ ts. AllByRecursion IsTextLine (attached pre ts)) (sym (line_goes_on b bs e))
    (subst (AllByRecursion IsTextLine) (attached_front pre b (lines bs)) (rest (pre ++ b ∷ []) (no_lf_push pre b h n) (subst IsUtf8 (sym (append_assoc pre (b ∷ []) bs)) u)))

text_lines_from : (bs : List ℕ) (pre : List ℕ) → HasNoLf pre → IsUtf8 (pre ++ bs) → AllByRecursion IsTextLine (attached pre (lines bs))
text_lines_from [] pre h u = ((h, subst IsUtf8 (append_nil pre) u), tt)
text_lines_from (b ∷ bs) pre h u = text_lines_by (eqb b 10) pre b bs refl h u (text_lines_from bs)

pub text_lines : (bs : List ℕ) → IsUtf8 bs → AllByRecursion IsTextLine (lines bs)
text_lines bs u = nil_front (lines bs) (text_lines_from bs [] tt u)
