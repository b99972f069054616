-- Two pieces in a row.
use Rattle.std.proofs.Common.{◌≡◌, ℕ, List, [], ◌∷◌, ◌++◌, sym, ap, ◌∙◌, subst, append_assoc}
use Rattle.std.specs.List.{flat_map, AllByRecursion}
use Rattle.std.proofs.lemmas.List.Concat.{flat_map-append}
use Rattle.resp2.specs.Framing.Frame.{Frame, spelling, IsFrame}
use Rattle.resp2.specs.Framing.Stream.{Parts}
use Rattle.sentinel_cell.specs.Histories.{World}
use Rattle.port_sessions.specs.Talks.{Party, AnswersTo}
use Rattle.port_sessions.specs.Laws.{PiecesJoin}

answers-append : (start : World) (now : ℕ) (p : Party) (values more : List Frame) (bytes later : List ℕ) (m q : Party) → AnswersTo start now p values bytes m
    → AnswersTo start now m more later q → AnswersTo start now p (values ++ more) (bytes ++ later) q
answers-append start now p [] more bytes later m q a b =
    subst (λ (t : List ℕ). AnswersTo start now p more (t ++ later) q) (sym a.0) (subst (λ (x : Party). AnswersTo start now x more later q) a.1 b)
answers-append start now p (x ∷ xs) more bytes later m q a b =
    (a.0, a.1, a.2 ++ later, ap (λ (t : List ℕ). t ++ later) a.3 ∙ append_assoc a.1 a.2 later, a.4, answers-append start now a.0 xs more a.2 later m q a.5 b)

all_frames : (xs ys : List Frame) → AllByRecursion IsFrame xs → AllByRecursion IsFrame ys → AllByRecursion IsFrame (xs ++ ys)
all_frames [] ys a b = b
all_frames (x ∷ xs) ys a b = (a.0, all_frames xs ys a.1 b)

pub parts_join : (stream piece held : List ℕ) (xs ys : List Frame) (rest : List ℕ) → Parts stream xs held → Parts (held ++ piece) ys rest → Parts (stream ++ piece) (xs ++ ys) rest
parts_join stream piece held xs ys rest a b =
    let first = flat_map spelling xs in
    let second = flat_map spelling ys in
    let cut : stream ++ piece ≡ first ++ (held ++ piece) = ap (λ (t : List ℕ). t ++ piece) a.0 ∙ append_assoc first held piece in
    let whole : (first ++ second) ++ rest ≡ flat_map spelling (xs ++ ys) ++ rest = ap (λ (t : List ℕ). t ++ rest) (sym (flat_map-append spelling xs ys)) in
    (cut ∙ ap (λ (t : List ℕ). first ++ t) b.0 ∙ sym (append_assoc first second rest) ∙ whole, all_frames xs ys a.1 b.1)

pub pieces_join : PiecesJoin
pieces_join start now stream piece held later bytes more p middle q a b =
    let first : Parts stream a.values held = subst (λ (t : List ℕ). Parts stream a.values t) a.splits.2.0 a.splits.1 in
    record {
      values = a.values ++ b.values;
      splits = (b.splits.0, parts_join stream piece held a.values b.values b.splits.0 first b.splits.1, b.splits.2);
      answers = answers-append start now p a.values b.values bytes more middle q a.answers b.answers;
    }
