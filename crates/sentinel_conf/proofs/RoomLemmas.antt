-- Texts that are added to a text with bounded room.
use Rattle.std.proofs.Common.{◌≡◌, ℕ, suc, Bool, true, ◌-◌, ◌≤◌, List, [], ◌∷◌, ◌++◌, length, take, drop, get_or, refl, ap, sym, ◌∙◌, arith, append_assoc}
use Rattle.std.proofs.lemmas.List.{take_all}
use Rattle.std.specs.Prelude.{map, filter}
use Rattle.std.specs.List.{flat_map}
use Rattle.bounded_list.proofs.Bounded.{bounded_more, bounded_again}
use Rattle.bounded_list.proofs.Bounded as lists
use Rattle.conf_lines.specs.declared.lines.StateLine.{StateLine}
use Rattle.conf_lines.specs.Lines.{spelled}
use Rattle.sentinel_conf.specs.Rewritten.{text_of}
use Rattle.conf_lines.specs.Words.{ended}
use Rattle.sentinel_conf.specs.declared.conf_text.TheConstants.{ROOM}
use Rattle.sentinel_conf.specs.Room.{bounded}
use Rattle.sentinel_conf.proofs.FileLemmas.{filter_yes}

pub bounded-bounded : (xs ys : List ℕ) → bounded (bounded xs ++ ys) ≡ bounded (xs ++ ys)
bounded-bounded xs ys = bounded_more ROOM xs ys

-- two texts, one after the other
pub added_both : (old first second : List ℕ) → bounded (bounded (old ++ first) ++ second) ≡ bounded (old ++ (first ++ second))
added_both = lists.added_both ROOM

module _ (old first second : List ℕ) where
  pub two_adds : (mid new : List ℕ) → mid ≡ bounded (old ++ first) → new ≡ bounded (mid ++ second) → new ≡ bounded (old ++ (first ++ second))
  two_adds mid new e f = lists.two_adds ROOM old mid new first second e f

  pub three_adds : (third mid other new : List ℕ) → mid ≡ bounded (old ++ first) → other ≡ bounded (mid ++ second) → new ≡ bounded (other ++ third)
      → new ≡ bounded (old ++ (first ++ (second ++ third)))
  three_adds third mid other new e f g =
      g
      ∙ ap (λ t. bounded (t ++ third)) (two_adds mid other e f)
      ∙ added_both old (first ++ second) third
      ∙ ap (λ t. bounded (old ++ t)) (append_assoc first second third)

-- one more word behind a node
pub node_more : (name ip port rest : List ℕ) → (32 ∷ (name ++ 32 ∷ (ip ++ 32 ∷ port))) ++ rest ≡ 32 ∷ (name ++ 32 ∷ (ip ++ 32 ∷ (port ++ rest)))
node_more name ip port rest =
    ap (λ t. 32 ∷ t) (append_assoc name (32 ∷ (ip ++ 32 ∷ port)) rest)
    ∙ ap (λ t. 32 ∷ (name ++ 32 ∷ t)) (append_assoc ip (32 ∷ port) rest)

-- what is added, up to what there is room for
pub bounded-again : (xs : List ℕ) → bounded (bounded xs) ≡ bounded xs
bounded-again xs = bounded_again ROOM xs

pub room_step : (out new piece rest : List ℕ) → new ≡ bounded (out ++ piece) → bounded (new ++ rest) ≡ bounded (out ++ (piece ++ rest))
room_step out new piece rest e = ap (λ t. bounded (t ++ rest)) e ∙ added_both out piece rest

pub room_join : (out mid new first second : List ℕ) → bounded mid ≡ bounded (out ++ first) → bounded new ≡ bounded (mid ++ second) →
    bounded new ≡ bounded (out ++ (first ++ second))
room_join out mid new first second e f =
    f ∙ sym (bounded-bounded mid second) ∙ ap (λ t. bounded (t ++ second)) e ∙ added_both out first second

pub room_of : (out new piece : List ℕ) → new ≡ bounded (out ++ piece) → bounded new ≡ bounded (out ++ piece)
room_of out new piece e = ap bounded e ∙ bounded-again (out ++ piece)

head_and_rest : {X : Type 0} (d : X) (rest : List X) → 1 ≤ length rest → rest ≡ get_or rest 0 d ∷ take (length rest - 1) (drop 1 rest)
head_and_rest d [] h = absurd (omega arith)
head_and_rest d (x ∷ xs) h = ap (λ t. x ∷ t) (sym (take_all (length (x ∷ xs) - 1) xs (let k : length (x ∷ xs) ≡ suc (length xs) = refl in omega arith)))

-- the line of one element more
pub lines_more : {X : Type 0} (keep : X → Bool) (line : X → StateLine) (start out new : List ℕ) (all rest : List X) (d : X) → 1 ≤ length rest → keep (get_or rest 0 d) ≡ true
    → new ≡ bounded (out ++ ended (spelled (line (get_or rest 0 d))))
    → bounded (start ++ text_of (map line (filter keep all))) ≡ bounded (out ++ text_of (map line (filter keep rest)))
    → bounded (start ++ text_of (map line (filter keep all))) ≡ bounded (new ++ text_of (map line (filter keep (take (length rest - 1) (drop 1 rest)))))
lines_more keep line start out new all rest d h k e i =
    let x = get_or rest 0 d in
    let more = take (length rest - 1) (drop 1 rest) in
    i
    ∙ ap (λ t. bounded (out ++ text_of (map line (filter keep t)))) (head_and_rest d rest h)
    ∙ ap (λ t. bounded (out ++ text_of (map line t))) (filter_yes keep x more k)
    ∙ sym (room_step out new (ended (spelled (line x))) (text_of (map line (filter keep more))) e)

pub text_of-append : (xs ys : List StateLine) → text_of (xs ++ ys) ≡ text_of xs ++ text_of ys
text_of-append [] ys = refl
text_of-append (x ∷ xs) ys = ap (λ t. ended (spelled x) ++ t) (text_of-append xs ys) ∙ sym (append_assoc (ended (spelled x)) (text_of xs) (text_of ys))

pub kept_and_states : (texts : List (List ℕ)) (states : List StateLine) → flat_map ended (texts ++ map spelled states) ≡ flat_map ended texts ++ text_of states
kept_and_states [] states = refl
kept_and_states (text ∷ texts) states =
    ap (λ t. ended text ++ t) (kept_and_states texts states) ∙ sym (append_assoc (ended text) (flat_map ended texts) (text_of states))

pub text_from_empty : (text whole start : List ℕ) → start ≡ [] → bounded text ≡ text → bounded text ≡ bounded (start ++ whole) → text ≡ bounded whole
text_from_empty text whole start s w h = sym w ∙ h ∙ ap (λ t. bounded (t ++ whole)) s
